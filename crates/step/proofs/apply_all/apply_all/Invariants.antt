-- What all fillings make of none is what those from i on make of what is found so far; only rows of those found and the one after them change.
use Rattle.std.proofs.Common.{◌≡◌, ℕ, ◌+◌, ◌-◌, ◌≤◌, List, [], Bool}
use mathlib.Core.Option.{some}
use lib.Dec.{T}
use lib.IntN.{ℤ}
use Rattle.records.specs.Sheet.{SheetValue}
use Rattle.tesl.specs.Lists.{all}
use Rattle.work.specs.Lines.{small_leads}
use Rattle.work.specs.Fillings.{fillings_in, taken_by, by_filling}
use Rattle.lines.specs.declared.plan.Plan.{Plan}
use Rattle.lines.specs.Plan.{Planned}
use Rattle.remainders.specs.Rows.{rows_of, FewOwed, FlagsKept, RowsStay}
use Rattle.step.proofs.apply_all.Laws.{taken_from}
use Rattle.step.proofs.apply_all.apply_all.Given as goal

pub record Taken (room : ℕ) (lines : List ℕ) (p : Plan) (tags : List ℤ) (m : ℕ) (list : List Bool) (from n : ℕ) (was rows : List ℕ) (live i : ℕ) : Type 0 where
  pub fewer : live ≤ 32
  pub stays : RowsStay (45 - from) (live + 1) was rows
  pub small : FewOwed rows (45 - from) live
  pub flags : FlagsKept was rows
  pub taken : (v : SheetValue) → Planned v p lines → T (all small_leads (rows_of v was from n))
      → taken_by (by_filling room v tags (rows_of v was from n)) (fillings_in list m) (some []) ≡ taken_from room v tags (rows_of v was from n) list m i (some (rows_of v rows (45 - from) live))

abbrev pub invariant-loop-i : goal.invariant-loop-i
invariant-loop-i l = Taken l.conditions.room l.lines l.plan l.conditions.tags l.m l.list l.from l.n l.initial.rows l.rows l.live l.i
