-- The next row is cleared too.
use Rattle.std.proofs.Common.{arith}
use Rattle.lent.proofs.unused.Sides.{clearing-more, clearing-end}
use Rattle.lent.proofs.unused.clear_each.Goals as goal

pub loop-k-preserved : goal.loop-k-preserved
loop-k-preserved c = clearing-more c.requires.small c.loop-k.invariant (omega arith) c.clear_unused.ensures

pub returns : goal.returns
returns c = clearing-end c.loop-k.invariant (omega arith)
