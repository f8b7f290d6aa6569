-- The flags copied are those of place i. Assumes nothing.
use Rattle.std.proofs.Common.{◌∙◌, arith}
use Rattle.step.proofs.list.Laws.{flags-part}
use Rattle.step.proofs.list.flags_at.Goals as goal

pub returns : goal.returns
returns c = c.copy_from_slice.ensures.after ∙ flags-part c.args.i _ c.args.list.now (omega arith) (omega (arith, c.requires, c.told-list))
