-- `lift_open`: what opening replies has room in a result. Assumes nothing.
use Rattle.gateway.proofs.Live.{opened-small}
use Rattle.gateway.proofs.lift_open.Goals as goal

pub pack_reply-requires : goal.pack_reply-requires
pack_reply-requires c = opened-small c.open_state.ensures
