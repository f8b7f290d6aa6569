-- `lift_observe`: what observing replies has room in a result. Assumes nothing.
use Rattle.gateway.proofs.Live.{observed-small}
use Rattle.gateway.proofs.lift_observe.Goals as goal

pub pack_reply-requires : goal.pack_reply-requires
pack_reply-requires c = observed-small c.observe_state-replied.ensures
