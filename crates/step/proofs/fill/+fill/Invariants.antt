-- The clocks left.
use Rattle.std.proofs.Common.{◌-◌}
use Rattle.step.proofs.fill.+fill.Given as goal

abbrev pub decreases-fill : goal.decreases-fill
decreases-fill l = l.extent.clocks - l.k
