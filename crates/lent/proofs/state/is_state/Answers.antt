-- One test after the other.
use Rattle.std.proofs.Common.{◌∙◌, ap, sym}
use Rattle.lent.specs.State.{is_side, is_case, is_state}
use Rattle.lent.proofs.state.is_state.Goals as goal
use Rattle.lent.proofs.state.is_state.Goals.{then-has_lines, else-has_lines}

pub returns-then-is_side : goal.returns-then-is_side
unfolding is_state
returns-then-is_side c =
    elim c.if-has_lines.branch [
      | then-has_lines w ↦ rw (sym c.has_lines.ensures ∙ w.if-has_lines.true, sym (w.is_side.ensures ∙ ap is_side (w.count_in.ensures ∙ w.word_at.ensures)) ∙ sym w.value-is ∙ c.if-is_side.true)
          (c.is_case.ensures ∙ ap is_case c.word_at-then-is_side.ensures)
      | else-has_lines w ↦ cc
    ]

pub returns-else-is_side : goal.returns-else-is_side
unfolding is_state
returns-else-is_side c =
    elim c.if-has_lines.branch [
      | then-has_lines w ↦ rw (sym c.has_lines.ensures ∙ w.if-has_lines.true, sym (w.is_side.ensures ∙ ap is_side (w.count_in.ensures ∙ w.word_at.ensures)) ∙ sym w.value-is ∙ c.if-is_side.false) c.if-is_side.false
      | else-has_lines w ↦ rw (sym c.has_lines.ensures ∙ w.if-has_lines.false) c.if-is_side.false
    ]
