-- `lift_judge`: a judged log has room in a result. Assumes nothing.
use Rattle.gateway.proofs.Machine.{judged-small}
use Rattle.gateway.proofs.lift_judge.Goals as goal

pub pack_reply-requires : goal.pack_reply-requires
pack_reply-requires c = rw c.judge_log-judged.ensures (judged-small _ _)
