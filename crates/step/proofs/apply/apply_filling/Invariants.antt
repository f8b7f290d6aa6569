-- What all rows make of those found is what those from k on make of those found so far; only rows of those found and the one after them change.
use Rattle.std.proofs.Common.{◌≡◌, ℕ, ◌+◌, ◌-◌, ◌≤◌, List}
use mathlib.Core.Option.{some}
use lib.Dec.{T}
use Rattle.records.specs.Lists.{listed_from}
use Rattle.records.specs.Sheet.{SheetValue}
use Rattle.tesl.specs.Lists.{all}
use Rattle.tesl.specs.Remainder.{Remainder}
use Rattle.work.specs.View.{used_part}
use Rattle.work.specs.Lines.{small_leads}
use Rattle.work.specs.Fillings.{by_filling}
use Rattle.work.specs.Work.{all_advanced}
use Rattle.step.specs.declared.filling.Filling.{Filling}
use Rattle.lines.specs.declared.plan.Plan.{Plan}
use Rattle.remainders.specs.Rows.{row_of, rows_of, FewOwed, FlagsKept, RowsStay}
use Rattle.step.specs.Filling.{filled_instant, begun_in, GatheredFor}
use Rattle.step.proofs.apply.apply_filling.Given as goal

-- the rows held from the k-th on
abbrev pub rest : SheetValue → List ℕ → ℕ → ℕ → ℕ → List Remainder
rest v was from n k = listed_from (λ j. used_part v (row_of was (from + j))) k (n - k)

pub record Found (p : Plan) (f : Filling) (from to n found room : ℕ) (was rows : List ℕ) (live k : ℕ) : Type 0 where
  pub fewer : live ≤ 32
  pub more : found ≤ live
  pub stays : RowsStay to (live + 1) was rows
  pub small : FewOwed rows to live
  pub flags : FlagsKept was rows
  pub applied : (v : SheetValue) → GatheredFor v p f → T (all small_leads (rows_of v was from n)) → by_filling room v f.tags (rows_of v was from n) (some (rows_of v was to found)) f.ticks ≡ all_advanced room v (filled_instant f) (begun_in f) (rest v was from n k) (some (rows_of v rows to live))

abbrev pub invariant-loop-k : goal.invariant-loop-k
invariant-loop-k l = Found l.plan l.f l.from l.to l.n l.found l.room l.initial.rows l.rows l.live l.k
