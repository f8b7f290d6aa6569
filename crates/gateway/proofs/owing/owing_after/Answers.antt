-- `owing_after`: after an answer it is what the monitor's panel shows. Assumes nothing.
use Rattle.gateway.proofs.owing.Laws.{owing-counted}
use Rattle.gateway.proofs.owing.owing_after.Goals as goal

pub returns-in-Ok : goal.returns-in-Ok
returns-in-Ok c = owing-counted _ _ c.in-Ok.is c.owing_count.ensures
