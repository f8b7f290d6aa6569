-- `put_tags`: the line of the tag at this place is put. Assumes nothing.
use Rattle.std.proofs.Common.{◌≡◌, ◌<◌, get_or, take, length-take-le, ap, ◌∙◌, pos, arith, rules}
use Rattle.std.proofs.lemmas.List.{get_or-take}
use mir.Facts.{to_z-of_z}
use mir.Syntax.{w16}
use mir.Val.{SFits}
use Rattle.text.specs.Text.{text_of, column_line}
use Rattle.text.proofs.put.Laws.{put-bytes, put-end}
use Rattle.text.proofs.columns.Laws.{line-room, listing-more}
use Rattle.text.proofs.columns.put_tags.Goals as goal
use Rattle.text.proofs.columns.put_tags.Goals.{After-column_line}

module _ (c : After-column_line) where
  below : c.loop-tag.tag-index < c.args.clocks
  below = omega (arith, length-take-le c.from.result c.args.tags (omega (arith, c.loop-tag.invariant.few)))

  line : text_of c.column_line.result ≡ column_line (get_or c.args.tags c.loop-tag.tag-index (pos 0))
  line =
      let f : SFits w16 (get_or (take c.from.result c.args.tags) c.loop-tag.tag-index (pos 0)) = search rules in
      c.column_line.ensures.1 ∙ ap column_line (to_z-of_z f ∙ get_or-take c.from.result c.args.tags c.loop-tag.tag-index (pos 0) (omega (arith, below)))

pub put_line-end-requires : goal.put_line-end-requires
put_line-end-requires c = record { len = c.column_line.ensures.0; room = rw (line c) (line-room c.loop-tag.invariant (below c)) }

pub loop-tag-preserved : goal.loop-tag-preserved
loop-tag-preserved c =
    let k = (goal.at.loop-tag-preserved c).After-column_line in
    listing-more c.loop-tag.invariant (below k) (put-bytes c.put_line-end.ensures (line k)) (put-end c.put_line-end.ensures (line k))
