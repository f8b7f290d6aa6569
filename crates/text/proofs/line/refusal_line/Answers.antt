-- `refusal_line`: its words, one behind the other. Assumes nothing.
use Rattle.text.specs.Text.{line}
use Rattle.text.proofs.build.Laws.{and_then, made}
use Rattle.text.proofs.line.refusal_line.Goals as goal

pub returns : goal.returns
unfolding line
returns c = made c.blank.ensures (and_then c.push_word-refused.ensures (and_then c.push_decimal-number.ensures.1 c.push_word.ensures)) (rw c.from.ensures)
