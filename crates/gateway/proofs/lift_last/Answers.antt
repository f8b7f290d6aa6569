-- `lift_last`: what those held say has room in a result. Assumes nothing.
use Rattle.gateway.proofs.Live.{last-small, last_code-law}
use Rattle.gateway.proofs.lift_last.Goals as goal

pub pack_reply-requires : goal.pack_reply-requires
pack_reply-requires c = last-small c.last_reply-last.ensures

pub returns : goal.returns
returns c = last_code-law c.last_reply-last.ensures c.pack_reply.ensures
