-- `answer_line`: an answer each, its words one behind the other. Assumes nothing.
use Rattle.text.specs.Text.{digits, line}
use Rattle.text.proofs.build.Laws.{and_then, made}
use Rattle.text.proofs.line.answer_line.Goals as goal

pub returns-in-Exhausted : goal.returns-in-Exhausted
unfolding digits line
returns-in-Exhausted c = made c.blank.ensures (and_then c.push_decimal-first.ensures.1 c.push_word.ensures) (rw c.in-Exhausted.is)

pub returns-in-Broken : goal.returns-in-Broken
unfolding digits line
returns-in-Broken c = made c.blank.ensures (and_then c.push_decimal-first.ensures.1 c.push_word-in-Broken.ensures) (rw c.in-Broken.is)

pub returns-then-clear : goal.returns-then-clear
unfolding line
returns-then-clear c =
    made c.blank.ensures (and_then c.push_decimal-first.ensures.1 (and_then c.push_word-holding.ensures (and_then c.push_decimal-counted.ensures.1 c.push_word-then-clear.ensures)))
    (rw (c.in-Holding.is, c.if-clear.true))

pub returns-else-clear : goal.returns-else-clear
unfolding line
returns-else-clear c =
    made c.blank.ensures (and_then c.push_decimal-first.ensures.1 (and_then c.push_word-holding.ensures (and_then c.push_decimal-counted.ensures.1 c.push_word-else-clear.ensures)))
    (rw (c.in-Holding.is, c.if-clear.false))
