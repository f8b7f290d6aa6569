-- Within both limits a tick is one of either.
use Rattle.std.proofs.Common.{◌∙◌, arith, sym}
use Rattle.panel.proofs.Laws.{owes-either}
use Rattle.panel.proofs.owes.Goals as goal

-- (the test of the two counts is not named, since its name would go with the bounds)
pub returns-then-ticks_in : goal.returns-then-ticks_in
returns-then-ticks_in c = c.if-ticks_in.true ∙ rw (sym c.ticks_in.ensures ∙ c.if-ticks_in.true) at (owes-either c.args.clock c.args.r (omega arith) (omega arith))

pub returns-else-ticks_in : goal.returns-else-ticks_in
returns-else-ticks_in c =
    c.ticks_in-else-ticks_in.ensures ∙ rw (sym c.ticks_in.ensures ∙ c.if-ticks_in.false) at (owes-either c.args.clock c.args.r (omega arith) (omega arith))
