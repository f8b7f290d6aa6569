-- `lift_panel`: after an answer the monitor follows the list of the machine. Assumes nothing.
use Rattle.std.proofs.Common.{◌∙◌}
use Rattle.gateway.proofs.owing.Laws.{log-few, shown-code, reply-number}
use Rattle.gateway.proofs.lift_panel.Goals as goal

pub pack-requires : goal.pack-requires
pack-requires c = log-few _ _ _ c.follow_log-last.ensures

pub returns : goal.returns
returns c = shown-code _ _ _ c.follow_log-last.ensures _ _ _ _ c.owing_after-owing.ensures (c.refusal_in.ensures ∙ reply-number _) c.pack.ensures
