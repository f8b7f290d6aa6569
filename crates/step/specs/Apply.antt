-- What a filling makes of the rows held: 33 rows to a side, 32 and one to build the next in.
use Rattle.std.specs.Prelude.{Bool, List, [], ◌≡◌, ℕ, ◌+◌, ◌-◌, ◌≤◌, ◌<◌, T, length, None, Some}
use Rattle.std.specs.declared.option.Option as option
use Rattle.std.proofs.Math.Option.{Option, none, some}
use Rattle.records.specs.Sheet.{SheetValue}
use Rattle.tesl.specs.Lists.{all}
use Rattle.tesl.specs.Remainder.{Remainder}
use Rattle.tesl.specs.Answer.{most_live}
use Rattle.work.specs.Lines.{small_leads}
use Rattle.work.specs.Fillings.{most_fillings, taken_by, by_filling}
use Rattle.step.specs.declared.apply_all.Conditions.{Conditions}
use Rattle.step.specs.declared.filling.Filling.{Filling}
use Rattle.lines.specs.declared.plan.Plan.{Plan}
use Rattle.lines.specs.Plan.{Planned}
use Rattle.remainders.specs.Rows.{sides, second_side, head_rows, all_words, rows_of, FewOwed, FlagsKept, RowsStay}
use Rattle.step.specs.Filling.{GatheredFor}

-- rows of a side: 32, and one to build the next in
abbrev pub side_rows : ℕ
side_rows = 33

-- first rows of two sides, behind the head
pub record Sides (from to : ℕ) : Type 0 where
  pub one : from ≤ second_side
  pub other : to ≤ second_side
  pub past : head_rows ≤ to
  pub apart : (k l : ℕ) → k < side_rows → l < side_rows → from + k ≡ to + l → ⊥

-- those found; `none` once exhausted
abbrev pub found_in : SheetValue → option.Option ℕ → List ℕ → ℕ → Option (List Remainder)
found_in v None rows to = none
found_in v (Some n) rows to = some (rows_of v rows to n)

-- counts that a side has room for
abbrev pub FewOwedIn : option.Option ℕ → List ℕ → ℕ → Type 0
FewOwedIn None rows to = Unit
FewOwedIn (Some n) rows to = (n ≤ most_live) × FewOwed rows to n

-- the rows of a side that work may have built in: those found and the one after them; once exhausted, any
abbrev pub built_rows : option.Option ℕ → ℕ
built_rows None = side_rows
built_rows (Some n) = n + 1

-- what a filling works on: n rows held, and those found so far; a side has rows for as many as there is room for
pub record Applying (rows : List ℕ) (from to n found room : ℕ) (f : Filling) : Type 0 where
  pub size : length rows ≡ all_words
  pub sides : Sides from to
  pub held : n ≤ most_live
  pub sized : room ≤ most_live
  pub fewer : found ≤ most_live
  pub small : FewOwed rows from n
  pub small_found : FewOwed rows to found
  pub ordered : f.owed ≤ f.count
  pub begun : f.count ≤ 16

-- those found with what the rows held become by a filling; none is lost, and the rows that nothing was built in stay
pub record Applied (p : Plan) (f : Filling) (from to n found room : ℕ) (r : option.Option ℕ) (a b : List ℕ) : Type 0 where
  pub more : found < built_rows r
  pub stays : RowsStay to (built_rows r) a b
  pub small : FewOwedIn r b to
  pub flags : FlagsKept a b
  pub applied : (v : SheetValue) → GatheredFor v p f → T (all small_leads (rows_of v a from n)) → found_in v r b to ≡ by_filling room v f.tags (rows_of v a from n) (some (rows_of v a to found)) f.ticks

-- ---- all fillings of an instant, and the instant; what is found goes to the other side

-- the first row of a side; the other side is the rest
abbrev pub Side : ℕ → Type 0
Side from = Sides from (sides - from)

-- n rows held, and m fillings
pub record ApplyingAll (rows : List ℕ) (from n room m : ℕ) : Type 0 where
  pub size : length rows ≡ all_words
  pub side : Side from
  pub held : n ≤ most_live
  pub sized : room ≤ most_live
  pub small : FewOwed rows from n
  pub few : m ≤ most_fillings

-- those found by all fillings, on the other side; the rows that nothing was built in stay
pub record AppliedAll (lines : List ℕ) (p : Plan) (x : Conditions) (fillings : List (List Bool)) (from n : ℕ) (r : option.Option ℕ) (a b : List ℕ) : Type 0 where
  pub stays : RowsStay (sides - from) (built_rows r) a b
  pub small : FewOwedIn r b (sides - from)
  pub flags : FlagsKept a b
  pub applied : (v : SheetValue) → Planned v p lines → T (all small_leads (rows_of v a from n)) → found_in v r b (sides - from) ≡ taken_by (by_filling x.room v x.tags (rows_of v a from n)) fillings (some [])
