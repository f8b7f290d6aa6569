-- `body_above`: the first bytes that differ decide. Assumes nothing.
use Rattle.std.proofs.Common.{arith}
use Rattle.records.proofs.order.Laws.{turn_end, turn-same, turn-differs}
use Rattle.records.proofs.order.body_above.Goals as goal

pub returns-then-body-i : goal.returns-then-body-i
returns-then-body-i c = turn-differs _ _ c.loop-i.i c.loop-i.invariant (omega arith) (omega arith) c.if-body-i.true

pub loop-i-preserved : goal.loop-i-preserved
loop-i-preserved c = turn-same _ _ c.loop-i.i c.loop-i.invariant (omega arith) (omega arith) (omega (arith, c.if-body-i.false)) (omega (arith, c.if-body-i.false))

pub returns : goal.returns
returns c = turn_end _ c.args.other c.loop-i.i c.loop-i.invariant (omega arith)
