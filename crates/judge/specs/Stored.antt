-- Remainders as structs, stored in rows and read back.
use Rattle.std.specs.Prelude.{Bool, false, cond, List, map, ◌≡◌, ℕ, ◌+◌, ◌≤◌, ◌<◌, T, length, get_or, take, Option}
use Rattle.records.specs.Sheet.{SheetValue}
use Rattle.tesl.specs.Lists.{all}
use Rattle.work.specs.View.{used_part, held_list}
use Rattle.work.specs.Lines.{small_leads}
use Rattle.remainders.specs.declared.obligation.Obligation as code
use Rattle.lines.specs.declared.plan.Plan.{Plan}
use Rattle.remainders.specs.declared.remainder.Remainder as arrays
use Rattle.remainders.specs.Word.{number_in}
use Rattle.remainders.specs.View.{remainder_of, blank_remainder, view_of, live_count, held_in, few_owed, sized_in}
use Rattle.remainders.specs.Unused.{BlankFrom, NothingUnused}
use Rattle.lines.specs.Plan.{Planned}
use Rattle.remainders.specs.Rows.{leads_part, stopped_part, parts_end, second_side, head_rows, height, all_words, row_count, row_set, row_lead, row_leads, row_stop, row_stopped, row_of, rows_of, FewInRow, FewOwed, Stays, PartStays, HeadStays}
use Rattle.step.specs.Apply.{found_in, FewOwedIn}

-- ---- stored

-- row i of the array
pub record Place (rows : List ℕ) (i : ℕ) : Type 0 where
  pub size : length rows ≡ all_words
  pub row : i < height

-- a set, the leads and the stopped clocks of a remainder, in row i
pub record PutObligations (i part n : ℕ) (os : List code.Obligation) (a b : List ℕ) : Type 0 where
  pub stays : PartStays i part a b
  pub count : row_count b i part ≡ n
  pub set : row_set b i part ≡ os

pub record PutLeads (i : ℕ) (xs : List ℕ) (a b : List ℕ) : Type 0 where
  pub stays : Stays i leads_part stopped_part a b
  pub leads : row_leads b i ≡ xs

pub record PutStopped (i : ℕ) (xs : List Bool) (a b : List ℕ) : Type 0 where
  pub stays : Stays i stopped_part parts_end a b
  pub stopped : row_stopped b i ≡ xs

-- the row reads as the struct does, and so of every sheet
pub record PutRemainder (i : ℕ) (r : arrays.Remainder) (a b : List ℕ) : Type 0 where
  pub stays : Stays i 0 parts_end a b
  pub few : FewInRow b i
  pub row : row_of b i ≡ remainder_of r

-- ---- read back

-- 16 bits of the leads of precedes lines, and nothing else
pub record LeadsAt (leaders : ℕ) (precede : List Bool) (i : ℕ) (xs : List ℕ) (rows : List ℕ) : Type 0 where
  pub first : (k : ℕ) → k < leaders → get_or xs k 0 ≡ cond (get_or precede k false) (number_in (row_lead rows i k)) 0
  pub rest : BlankFrom leaders 0 xs

-- the stopped ones of the sheet's clocks, and no other
pub record StoppedAt (clocks i : ℕ) (xs : List Bool) (rows : List ℕ) : Type 0 where
  pub size : length xs ≡ 8
  pub first : (k : ℕ) → k < clocks → get_or xs k false ≡ row_stop rows i k
  pub rest : BlankFrom clocks false xs

-- row i, of at most eight in each set
pub record Reading (rows : List ℕ) (i : ℕ) : Type 0 where
  pub row : i < height
  pub few : FewInRow rows i

-- the struct reads as the row does, for every sheet that the plan is of, and keeps nothing else
pub record RemainderAt (p : Plan) (i : ℕ) (r : arrays.Remainder) (rows : List ℕ) : Type 0 where
  pub few : T (few_owed r)
  pub view : (v : SheetValue) (lines : List ℕ) → Planned v p lines → T (small_leads (used_part v (row_of rows i))) → view_of v r ≡ used_part v (row_of rows i)
  pub unused : (v : SheetValue) (lines : List ℕ) → Planned v p lines → NothingUnused v r

-- ---- those held, on the first side

-- n remainders that a side has room for
pub record Storing (rows : List ℕ) (n : ℕ) (rs : List arrays.Remainder) : Type 0 where
  pub size : length rows ≡ all_words
  pub held : n ≤ 32
  pub few : T (all few_owed (take n rs))

-- each in its row; the head stays
pub record ToRows (n : ℕ) (rs : List arrays.Remainder) (a b : List ℕ) : Type 0 where
  pub size : length b ≡ all_words
  pub head : HeadStays a b
  pub small : FewOwed b head_rows n
  pub rows : (v : SheetValue) → rows_of v b head_rows n ≡ map (view_of v) (take n rs)

-- a count that the arrays have room for
pub record StoringHeld (rows : List ℕ) (count : Option ℕ) (rs : List arrays.Remainder) : Type 0 where
  pub size : length rows ≡ all_words
  pub fits : T (sized_in count rs)

-- those held, in rows; the head stays
pub record StoredHeld (count : Option ℕ) (rs : List arrays.Remainder) (a b : List ℕ) : Type 0 where
  pub size : length b ≡ all_words
  pub head : HeadStays a b
  pub small : FewOwedIn count b head_rows
  pub held : (v : SheetValue) → found_in v count b head_rows ≡ held_in v count rs

-- ---- those found, as structs

-- n rows of a side
pub record Copying (rows : List ℕ) (from n : ℕ) : Type 0 where
  pub side : from ≤ second_side
  pub held : n ≤ 32
  pub small : FewOwed rows from n

-- each of n rows, and blank remainders past them
pub record CopiedRows (p : Plan) (from n : ℕ) (rs : List arrays.Remainder) (rows : List ℕ) : Type 0 where
  pub size : length rs ≡ 32
  pub first : (k : ℕ) → k < n → RemainderAt p (from + k) (get_or rs k blank_remainder) rows
  pub rest : BlankFrom n blank_remainder rs

-- a count of rows of a side
pub record FindingRows (rows : List ℕ) (count : Option ℕ) (from : ℕ) : Type 0 where
  pub side : from ≤ second_side
  pub small : FewOwedIn count rows from

-- those found, for every sheet that the plan is of, and blank remainders past them
pub record FromRows (p : Plan) (count : Option ℕ) (from : ℕ) (rs : List arrays.Remainder) (rows : List ℕ) : Type 0 where
  pub fits : T (sized_in count rs)
  pub held : (v : SheetValue) (lines : List ℕ) → Planned v p lines → T (all small_leads (held_list (found_in v count rows from))) → held_in v count rs ≡ found_in v count rows from
  pub unused : (v : SheetValue) (lines : List ℕ) → Planned v p lines → (k : ℕ) → NothingUnused v (get_or rs k blank_remainder)
  pub rest : BlankFrom (live_count count) blank_remainder rs
