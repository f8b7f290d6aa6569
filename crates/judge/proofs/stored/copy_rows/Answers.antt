-- `copy_rows`: a row read, and the first n of them. Assumes nothing.
use Rattle.std.proofs.Common.{arith}
use Rattle.remainders.specs.View.{blank_remainder}
use Rattle.remainders.proofs.rows.Placing.{placing-start, placing-more}
use Rattle.judge.proofs.stored.copy_rows.Goals as goal

pub loop-k-init : goal.loop-k-init
loop-k-init c = rw c.blank_remainder-all.ensures (placing-start _ blank_remainder 32)

pub loop-k-preserved : goal.loop-k-preserved
loop-k-preserved c = placing-more _ blank_remainder 32 c.loop-k.invariant (omega arith) c.remainder_at.result c.remainder_at.ensures

pub returns : goal.returns
returns c =
    let w = c.loop-k.invariant in
    record { size = w.size; first = λ k h. w.places k (omega arith); rest = λ k h. w.rest k (omega arith) }
