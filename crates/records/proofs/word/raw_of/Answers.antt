-- The word of a negative tag is 65535 - (-1 - tag). Assumes nothing.
use mir.Syntax.{w16}
use Rattle.records.proofs.word.Laws.{negative, non_negative}
use Rattle.records.proofs.word.raw_of.Goals as goal

pub returns-then-tag-lt0 : goal.returns-then-tag-lt0
returns-then-tag-lt0 c = let n = negative w16 c.args.tag c.ranges.tag c.if-tag-lt0.true in rw (n.minus, n.word)

pub returns-else-tag-lt0 : goal.returns-else-tag-lt0
returns-else-tag-lt0 c = let n = non_negative w16 c.args.tag c.ranges.tag c.if-tag-lt0.false in rw (n.same, n.word)
