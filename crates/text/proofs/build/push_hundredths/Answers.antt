-- `push_hundredths`: by the tag's sign. Assumes nothing.
use Rattle.std.proofs.Common.{length, ap, ◌∙◌, arith}
use Rattle.text.proofs.build.Digits.{below-zero, from_zero}
use Rattle.text.proofs.build.Laws.{and_then, alike}
use Rattle.text.proofs.build.push_hundredths.Goals as goal

pub returns-then-tag-lt0 : goal.returns-then-tag-lt0
returns-then-tag-lt0 c =
    let h = below-zero c.args.tag c.ranges.tag (c.from-count.ensures ∙ c.unsigned_abs.ensures.value) c.if-tag-lt0.true in
    (omega (arith, ap length h), alike (and_then c.push_word-minus.ensures c.push_cents.ensures.1) h)

pub returns : goal.returns
returns c =
    let h = from_zero c.args.tag c.ranges.tag (c.from-count.ensures ∙ c.unsigned_abs.ensures.value) c.if-tag-lt0.false in
    (omega (arith, ap length h), alike c.push_cents-2.ensures.1 h)
