-- Three of the six words of a line.
use Rattle.lines.proofs.rules.Laws.{rule-words}
use Rattle.lines.proofs.rules.rule_in.Goals as goal

pub returns : goal.returns
returns c = rule-words _ _ _ c.number_in.ensures c.byte_in.ensures c.byte_in-2.ensures
