-- What clearing the words that no remainder uses leaves as it was.
use Rattle.std.specs.Prelude.{Bool, true, false, List, ◌≡◌, ℕ, ◌+◌, ◌*◌, ◌-◌, ◌≤◌, ◌<◌, length, Option}
use Rattle.records.specs.Sheet.{SheetValue}
use Rattle.tesl.specs.Answer.{most_live}
use Rattle.work.specs.View.{used_part}
use Rattle.lines.specs.declared.plan.Plan.{Plan}
use Rattle.remainders.specs.View.{live_count}
use Rattle.lines.specs.Plan.{Planned}
use Rattle.remainders.specs.Rows.{parts, part_words, leads_part, stopped_part, width, sides, word, row_set, row_obligation, row_lead, row_of, CountsSame, NothingInParts, Stays, HeadStays, RowsStay}
use Rattle.step.specs.Apply.{Side, found_in, FewOwedIn, built_rows}
use Rattle.step.specs.Fill.{worked_rows}
use Rattle.lent.specs.UnusedWords.{lead_used, NothingInRow, NothingElse, NothingBeside}

-- words lo to hi - 1 of row i are zero, the others stay
pub record ClearedPart (i lo hi : ℕ) (a b : List ℕ) : Type 0 where
  pub stays : Stays i lo hi a b
  pub zero : (q : ℕ) → lo ≤ q → q < hi → word b i q ≡ 0

-- n rows from `first` on are zero, the others stay
pub record ClearedRows (first n : ℕ) (a b : List ℕ) : Type 0 where
  pub stays : RowsStay first n a b
  pub zero : (h q : ℕ) → first ≤ h → h < first + n → q < width → word b h q ≡ 0

-- the places past the first n of a part are zero; those and the count stay
pub record ClearedOwed (i part n : ℕ) (a b : List ℕ) : Type 0 where
  pub stays : Stays i (part_words * part + 1) (part_words * part + part_words) a b
  pub places : (j : ℕ) → j < n → row_obligation b i part j ≡ row_obligation a i part j
  pub rest : (j : ℕ) → n ≤ j → j < 8 → word b i (part_words * part + 1 + j) ≡ 0

-- so each set of row i, and the words behind the sets
pub record ClearedSets (i : ℕ) (a b : List ℕ) : Type 0 where
  pub stays : Stays i 0 leads_part a b
  pub count : CountsSame i a b
  pub set : (part : ℕ) → part < parts → row_set b i part ≡ row_set a i part
  pub nothing : NothingInParts b i

-- the leads of lines that are no precedes lines are zero, the others stay
pub record ClearedLeads (leaders : ℕ) (precede : List Bool) (i : ℕ) (a b : List ℕ) : Type 0 where
  pub stays : Stays i leads_part stopped_part a b
  pub used : (k : ℕ) → lead_used leaders precede k ≡ true → row_lead b i k ≡ row_lead a i k
  pub unused : (k : ℕ) → k < 16 → lead_used leaders precede k ≡ false → row_lead b i k ≡ 0

-- the words of the stopped ones of the plan's clocks stay in row i
abbrev pub StopsStay : Plan → ℕ → List ℕ → List ℕ → Type 0
StopsStay p i a b = (k : ℕ) → k < p.clocks → word b i (stopped_part + k) ≡ word a i (stopped_part + k)

-- row i reads as before, for every sheet that the plan is of, and what its remainder doesn't use is zero
pub record ClearedRow (p : Plan) (i : ℕ) (a b : List ℕ) : Type 0 where
  pub count : CountsSame i a b
  pub row : (v : SheetValue) (lines : List ℕ) → Planned v p lines → used_part v (row_of b i) ≡ used_part v (row_of a i)
  pub stops : StopsStay p i a b
  pub nothing : NothingInRow p b i

-- so row i; the other rows stay
pub record ClearedUnused (p : Plan) (i : ℕ) (a b : List ℕ) : Type 0 where
  pub stays : Stays i 0 width a b
  pub cleared : ClearedRow p i a b

-- so each of n rows from `from` on; the other rows stay
pub record ClearedEach (p : Plan) (from n : ℕ) (a b : List ℕ) : Type 0 where
  pub stays : RowsStay from n a b
  pub each : (k : ℕ) → k < n → ClearedRow p (from + k) a b

-- those held from row `from` on, a side's first
pub record Holding (rows : List ℕ) (from : ℕ) (count : Option ℕ) : Type 0 where
  pub side : Side from
  pub small : FewOwedIn count rows from

-- those held are as before, for every sheet that the plan is of, and the head stays; nothing is beside them
pub record ClearedBeside (p : Plan) (from : ℕ) (count : Option ℕ) (a b : List ℕ) : Type 0 where
  pub size : length b ≡ length a
  pub head : HeadStays a b
  pub small : FewOwedIn count b from
  pub held : (v : SheetValue) (lines : List ℕ) → Planned v p lines → found_in v count b from ≡ found_in v count a from
  pub stops : (k : ℕ) → k < live_count count → StopsStay p (from + k) a b
  pub nothing : NothingBeside p count from b

-- those found from row `to` on are as before, for every sheet that the plan is of; of the rows that may have been built in, what they don't use is zero, other rows stay
pub record ClearedFound (p : Plan) (to : ℕ) (count : Option ℕ) (a b : List ℕ) : Type 0 where
  pub stays : RowsStay to (built_rows count) a b
  pub small : FewOwedIn count b to
  pub found : (v : SheetValue) (lines : List ℕ) → Planned v p lines → found_in v count b to ≡ found_in v count a to
  pub stops : (k : ℕ) → k < live_count count → StopsStay p (to + k) a b
  pub others : (h q : ℕ) → to ≤ h → h < to + built_rows count → q < width → (h < to + live_count count → ⊥) → word b h q ≡ 0
  pub each : (k : ℕ) → k < live_count count → NothingInRow p b (to + k)

-- those that were held on a side, and those found on the other
pub record Tidying (rows : List ℕ) (from : ℕ) (was count : Option ℕ) : Type 0 where
  pub side : Side from
  pub held : live_count was ≤ most_live
  pub small : FewOwedIn count rows (sides - from)

-- those found are as before, for every sheet that the plan is of, and the head stays; nothing is beside them, if nothing was beside those held before the instant, in the words `before`
pub record Tidied (p : Plan) (from : ℕ) (was count : Option ℕ) (a b : List ℕ) : Type 0 where
  pub size : length b ≡ length a
  pub head : HeadStays a b
  pub small : FewOwedIn count b (sides - from)
  pub found : (v : SheetValue) (lines : List ℕ) → Planned v p lines → found_in v count b (sides - from) ≡ found_in v count a (sides - from)
  pub stops : (k : ℕ) → k < live_count count → StopsStay p (sides - from + k) a b
  pub nothing : (before : List ℕ) → NothingElse was from before → RowsStay (sides - from) (worked_rows was count) before a → NothingBeside p count (sides - from) b
