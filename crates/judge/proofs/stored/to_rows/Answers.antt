-- `to_rows`: a remainder stored, and the first n of them. Assumes nothing.
use Rattle.std.proofs.Common.{arith}
use Rattle.judge.proofs.stored.Held.{rows_start, rows_more, rows-put, owes-few}
use Rattle.judge.proofs.stored.to_rows.Goals as goal

pub loop-k-init : goal.loop-k-init
loop-k-init c = rows_start _ c.requires.size

pub put_remainder-requires : goal.put_remainder-requires
put_remainder-requires c =
    (record { size = c.loop-k.invariant.size; row = omega arith }, owes-few c.args.remainders c.args.n c.loop-k.k (omega arith) (omega arith) c.requires.few)

pub loop-k-preserved : goal.loop-k-preserved
loop-k-preserved c = rows_more c.args.remainders c.loop-k.invariant c.put_remainder.ensures

pub returns : goal.returns
returns c = rows-put c.args.remainders c.loop-k.invariant (omega arith) (omega arith)
