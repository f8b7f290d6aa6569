-- `owing_count`: within the limits of a monitor the panel counts at most 32. Assumes nothing.
use Rattle.std.proofs.Common.{arith}
use Rattle.gateway.proofs.owing.Laws.{shown-small}
use Rattle.gateway.proofs.owing.owing_count.Goals as goal

pub overflow_cast-result : goal.overflow_cast-result
overflow_cast-result c = omega (arith, shown-small _ _ c.panel_count.ensures c.in-Ok.is)
