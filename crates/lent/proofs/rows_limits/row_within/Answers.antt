-- One test after the other.
use Rattle.std.proofs.Common.{◌∙◌, sym}
use Rattle.remainders.specs.Word.{due_number}
use Rattle.judge.specs.Limits.{least_due, most_due}
use Rattle.lent.proofs.rows_limits.Laws.{row-owed, row-counted, row-leads}
use Rattle.lent.proofs.rows_limits.row_within.Goals as goal
use Rattle.lent.proofs.rows_limits.row_within.Goals.{then-row_set_within, else-row_set_within}

pub returns-then-row_set_within-2 : goal.returns-then-row_set_within-2
unfolding least_due most_due due_number
returns-then-row_set_within-2 c =
    let a = c.args in
    elim c.if-row_set_within.branch [
      | then-row_set_within w ↦ row-leads {p = a.plan} a.instants a.rows.now a.i c.row_set_within.ensures w.if-row_set_within.true w.row_set_within-then-row_set_within.ensures (sym w.value-is ∙ c.if-row_set_within-2.true) c.row_leads_within.ensures
      | else-row_set_within w ↦ λ v lines planned. cc
    ]

pub returns-else-row_set_within-2 : goal.returns-else-row_set_within-2
unfolding least_due most_due due_number
returns-else-row_set_within-2 c =
    let a = c.args in
    rw c.if-row_set_within-2.false
    (elim c.if-row_set_within.branch [
      | then-row_set_within w ↦ row-counted {p = a.plan} a.instants a.rows.now a.i c.row_set_within.ensures w.if-row_set_within.true w.row_set_within-then-row_set_within.ensures (sym w.value-is ∙ c.if-row_set_within-2.false)
      | else-row_set_within w ↦ row-owed {p = a.plan} a.instants a.rows.now a.i c.row_set_within.ensures w.if-row_set_within.false
    ])
