-- `stopped_at`: the first k flags are read, the others are false. Assumes nothing.
use Rattle.std.proofs.Common.{◌≡◌, ℕ, Bool, false}
use Rattle.remainders.specs.Rows.{row_stop}
use Rattle.remainders.proofs.rows.Placing.{Placing}
use Rattle.judge.proofs.stored.stopped_at.Given as goal

abbrev pub invariant-loop-k : goal.invariant-loop-k
invariant-loop-k l = Placing (λ (k : ℕ) (b : Bool). b ≡ row_stop l.rows l.i k) false 8 l.all l.k
