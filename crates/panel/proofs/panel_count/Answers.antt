-- The limits are tested, and within them no more are live than the array has.
use Rattle.std.proofs.Common.{arith}
use Rattle.panel.proofs.Laws.{shows-refused, live-few, shows-none, shows-live}
use Rattle.panel.proofs.panel_count.Goals as goal

pub returns-then-not-within_limits : goal.returns-then-not-within_limits
returns-then-not-within_limits c = shows-refused c.args.monitor c.within_limits.ensures c.args.clock c.if-not-within_limits.true

pub shared_ref_as_front-owing : goal.shared_ref_as_front-owing
shared_ref_as_front-owing c = omega (arith, live-few c.args.monitor c.within_limits.ensures c.if-not-within_limits.false _ c.in-Some.is)

pub returns-in-None : goal.returns-in-None
returns-in-None c = shows-none c.args.monitor c.within_limits.ensures c.if-not-within_limits.false c.args.clock c.in-None.is

pub returns-in-Some : goal.returns-in-Some
returns-in-Some c =
    shows-live c.args.monitor c.within_limits.ensures c.if-not-within_limits.false c.args.clock _ c.in-Some.is _ c.owing.ensures
