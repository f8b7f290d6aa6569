-- `lift_owing`: the struct that the words are read back as holds what they hold, so its panel is theirs. Assumes nothing.
use Rattle.std.proofs.Common.{◌∙◌}
use Rattle.gateway.proofs.Live.{given-few, owing-code}
use Rattle.gateway.proofs.owing.Laws.{reply-number}
use Rattle.gateway.proofs.lift_owing.Goals as goal

pub pack-requires : goal.pack-requires
pack-requires c = given-few c.monitor_in-given.ensures

pub returns : goal.returns
returns c = owing-code c.monitor_in-given.ensures _ c.owing_count-owing.ensures (c.refusal_in.ensures ∙ reply-number _) c.pack.ensures
