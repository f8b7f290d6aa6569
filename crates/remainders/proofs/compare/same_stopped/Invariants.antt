-- The clocks below k agree.
use Rattle.std.proofs.Common.{◌≡◌, ℕ, true}
use Rattle.std.specs.Bool.{beq}
use Rattle.tesl.specs.Lists.{below}
use Rattle.remainders.specs.Rows.{row_stop}
use Rattle.remainders.proofs.compare.same_stopped.Given as goal

abbrev pub invariant-loop-k : goal.invariant-loop-k
invariant-loop-k l = below l.k (λ (k : ℕ). beq (row_stop l.rows l.x k) (row_stop l.rows l.i k)) ≡ true
