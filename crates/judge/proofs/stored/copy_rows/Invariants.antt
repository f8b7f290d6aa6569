-- `copy_rows`: the first k rows are read, the other places are blank. Assumes nothing.
use Rattle.std.proofs.Common.{ℕ, ◌+◌}
use Rattle.remainders.specs.declared.remainder.Remainder as arrays
use Rattle.remainders.specs.View.{blank_remainder}
use Rattle.judge.specs.Stored.{RemainderAt}
use Rattle.remainders.proofs.rows.Placing.{Placing}
use Rattle.judge.proofs.stored.copy_rows.Given as goal

abbrev pub invariant-loop-k : goal.invariant-loop-k
invariant-loop-k l = Placing (λ (k : ℕ) (r : arrays.Remainder). RemainderAt l.plan (l.from + k) r l.rows) blank_remainder 32 l.all l.k
