-- All that was begun is added once what stands from place j on is added to what the row owes.
use Rattle.std.proofs.Common.{◌≡◌, ℕ, List, ◌≤◌, drop, take}
use Rattle.theory.specs.Adding.{all_added_to}
use Rattle.remainders.specs.declared.obligation.Obligation as code
use Rattle.remainders.specs.View.{same_stored}
use Rattle.remainders.specs.Rows.{part_number, row_count, row_set, PartStays}
use Rattle.step.proofs.advance.begin_row.Given as goal

pub record Beginning (i part : ℕ) (whole os : List code.Obligation) (was rows : List ℕ) : Type 0 where
  pub few : row_count rows i part ≤ 8
  pub added : all_added_to same_stored 8 whole (row_set was i part) ≡ all_added_to same_stored 8 os (row_set rows i part)
  pub stays : PartStays i part was rows

abbrev pub invariant-loop-j : goal.invariant-loop-j
invariant-loop-j l = Beginning l.i (part_number l.part) (drop l.first (take l.n l.begun)) (drop l.j (take l.n l.begun)) l.initial.rows l.rows
