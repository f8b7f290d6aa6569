-- `lift_watch`: what every answer of a log comes to has room in a result. Assumes nothing.
use Rattle.std.proofs.Common.{ap}
use Rattle.logs.specs.Log.{Watched}
use Rattle.gateway.proofs.Machine.{watched-small}
use Rattle.gateway.proofs.lift_watch.Goals as goal

pub pack_reply-requires : goal.pack_reply-requires
pack_reply-requires c = rw (ap (λ (w : Watched). w.result) c.watch_log-judged.ensures) (watched-small _ _ _)
