-- What the instant leaves of the set is what is stored so far with what it leaves of those from j on.
use Rattle.std.proofs.Common.{◌≡◌, ℕ, List, ◌-◌, ◌≤◌}
use Rattle.records.specs.Lists.{listed_from, listed}
use Rattle.tesl.specs.Run.{Filled}
use Rattle.work.specs.View.{filled_of}
use Rattle.remainders.specs.declared.obligation.Obligation as code
use Rattle.remainders.specs.Rows.{part_number, row_count, row_obligation, row_set, PartStays}
use Rattle.step.specs.Left.{left_in, each_left}
use Rattle.step.proofs.left.Laws.{left_from}
use Rattle.step.proofs.advance.put_left.Given as goal

-- the set's places from j on
abbrev pub rest : List ℕ → ℕ → ℕ → ℕ → ℕ → List code.Obligation
rest rows i part n j = listed_from (row_obligation rows i part) j (n - j)

pub record Leaving (f : Filled) (i to part n : ℕ) (was rows : List ℕ) (count j : ℕ) : Type 0 where
  pub fewer : count ≤ j
  pub left : each_left (left_in part f) (row_set was i part) ≡ left_from (left_in part f) (listed (row_obligation rows to part) count) (rest was i part n j)
  pub stays : PartStays to part was rows

abbrev pub invariant-loop-j : goal.invariant-loop-j
invariant-loop-j l = Leaving (filled_of l.ticks l.tags) l.i l.to (part_number l.part) (row_count l.initial.rows l.i (part_number l.part)) l.initial.rows l.rows l.count l.j
