-- 16 bits are read back as the tag.
use Rattle.std.proofs.Common.{◌≡◌, ◌%◌, ◌∙◌, ap, arith}
use mir.Syntax.{w16}
use mir.Facts.{to_z-of_z}
use Rattle.records.specs.Word.{raw_of}
use Rattle.records.proofs.word.Inverse.{tag-raw}
use Rattle.lent.proofs.state.tag_word.Goals as goal

pub returns : goal.returns
returns c =
    let e : c.from.result ≡ raw_of c.args.t = c.from.ensures ∙ c.raw_of.ensures ∙ ap raw_of (to_z-of_z {w = w16} c.ranges.t) in
    let m : c.from.result % 65536 ≡ c.from.result = omega arith in
    (rw (m, e) (tag-raw c.ranges.t.sfits), e)
