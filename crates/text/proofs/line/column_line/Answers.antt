-- `column_line`: its words, one behind the other. Assumes nothing.
use mir.Facts.{to_z-of_z}
use Rattle.text.specs.Text.{line}
use Rattle.text.proofs.build.Laws.{and_then, made}
use Rattle.text.proofs.line.column_line.Goals as goal

pub returns : goal.returns
unfolding line
returns c =
    made c.blank.ensures (and_then c.push_decimal-raw.ensures.1 (and_then c.push_word-space.ensures (and_then c.push_hundredths-count.ensures.1 c.push_word.ensures)))
    (rw (c.from.ensures, c.raw_of.ensures, to_z-of_z c.ranges.tag))
