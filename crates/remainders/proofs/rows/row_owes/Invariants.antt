-- None of the first j is it.
use Rattle.std.proofs.Common.{◌≡◌, ℕ, true, not}
use Rattle.tesl.specs.Lists.{below}
use Rattle.remainders.specs.View.{same_stored}
use Rattle.remainders.specs.Rows.{row_obligation, part_number}
use Rattle.remainders.proofs.rows.row_owes.Given as goal

abbrev pub invariant-loop-j : goal.invariant-loop-j
invariant-loop-j l = below l.j (λ (k : ℕ). not (same_stored l.fn.o (row_obligation l.rows l.i (part_number l.part) k))) ≡ true
