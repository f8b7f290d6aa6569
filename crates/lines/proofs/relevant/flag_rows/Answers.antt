-- One row more, and all of them.
use Rattle.std.proofs.Common.{arith}
use Rattle.lines.proofs.relevant.Laws.{named_more, named_end}
use Rattle.lines.proofs.relevant.flag_rows.Goals as goal

pub loop-k-preserved : goal.loop-k-preserved
loop-k-preserved c = named_more _ _ _ c.loop-k.k c.loop-k.flags c.loop-k.invariant (omega arith) c.flag_row-next.ensures

pub returns : goal.returns
returns c = named_end _ _ _ c.loop-k.k c.loop-k.flags c.loop-k.invariant (omega arith)
