-- `to_rows`: the first k remainders are stored. Assumes nothing.
use Rattle.judge.proofs.stored.Held.{PuttingRows}
use Rattle.judge.proofs.stored.to_rows.Given as goal

abbrev pub invariant-loop-k : goal.invariant-loop-k
invariant-loop-k l = PuttingRows l.remainders l.fn.rows l.rows l.k
