-- A monitor of no instant: its remainder, in the first row of the first side, owes what the sheet's lines owe from the start.
use Rattle.std.specs.Prelude.{List, [], ◌∷◌, Bool, ◌≡◌, ℕ, ◌≤◌, ◌<◌, length, Some}
use Rattle.std.proofs.Math.Option.{some}
use Rattle.records.specs.declared.sheet.Sheet.{Sheet}
use Rattle.records.specs.Sheet.{SheetValue, sheet_value}
use Rattle.tesl.specs.Lists.{flat_map}
use Rattle.tesl.specs.Fits.{Obligation, owed_at_start}
use Rattle.tesl.specs.Remainder.{remainder}
use Rattle.work.specs.Owed.{owing, added_all}
use Rattle.remainders.specs.Rows.{width, all_words, head_rows, word, row_count, row_owed, rows_of, provided, PartStays}
use Rattle.lines.specs.Plan.{PlanOf}
use Rattle.step.specs.Apply.{found_in, FewOwedIn}
use Rattle.judge.specs.declared.start.Begun.{Begun}
use Rattle.judge.specs.Answer.{answer_of, said_by}
use Rattle.judge.specs.Progress.{first_progress}

-- row i, all words of it 0
pub record BlankRow (rows : List ℕ) (i : ℕ) : Type 0 where
  pub size : length rows ≡ all_words
  pub blank : (p : ℕ) → p < width → word rows i p ≡ 0

-- row i with what lines owe from the start, unless a ninth has no room
pub record StartedRow (i : ℕ) (os : List Obligation) (r : Bool) (a b : List ℕ) : Type 0 where
  pub stays : PartStays i 0 a b
  pub owed : provided r (row_owed b i) ≡ added_all os (row_owed a i)
  pub few : row_count b i 0 ≤ 8

-- one remainder is held, and every other row stays; where a ninth obligation has no room, nothing is said of what it owes
pub record BegunRows (v : SheetValue) (a b : List ℕ) : Type 0 where
  pub stays : PartStays head_rows 0 a b
  pub small : FewOwedIn (Some 1) b head_rows
  pub first : v.clocks ≤ 8 → (os : List Obligation) → added_all (flat_map owed_at_start v.lines) [] ≡ some os → rows_of v b head_rows 1 ≡ owing (record { owed = os; countdowns = [] }) (remainder v []) ∷ []

-- a monitor begun: the plan of its sheet; its one remainder, in rows; what is kept beside them; and the answer is what that remainder says
pub record BegunMonitor (s : Sheet) (r : Begun) (lines : List ℕ) (a b : List ℕ) : Type 0 where
  pub plan : PlanOf s r.plan lines
  pub rows : BegunRows (sheet_value s) a b
  pub progress : r.progress ≡ first_progress
  pub said : (v : SheetValue) → answer_of r.said ≡ said_by (found_in v (Some 1) b head_rows)
