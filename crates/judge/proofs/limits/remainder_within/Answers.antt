-- `remainder_within`: one test after the other. Assumes nothing.
use Rattle.std.proofs.Common.{sym, ◌∙◌}
use Rattle.records.specs.Sheet.{sheet_value}
use Rattle.remainders.specs.Word.{due_number}
use Rattle.judge.specs.Limits.{least_due, most_due}
use Rattle.judge.proofs.limits.Laws.{not-owed, not-counted, by-leads}
use Rattle.judge.proofs.limits.remainder_within.Goals as goal
use Rattle.judge.proofs.limits.remainder_within.Goals.{then-set_within, else-set_within}

pub returns-then-set_within-2 : goal.returns-then-set_within-2
unfolding least_due most_due due_number
returns-then-set_within-2 c =
    let a = c.args in
    elim c.if-set_within.branch [
      | then-set_within w ↦ by-leads (sheet_value a.s) a.instants a.r c.set_within.ensures w.if-set_within.true w.set_within-then-set_within.ensures (sym w.value-is ∙ c.if-set_within-2.true) c.leads_within.ensures
      | else-set_within w ↦ cc
    ]

pub returns-else-set_within-2 : goal.returns-else-set_within-2
unfolding least_due most_due due_number
returns-else-set_within-2 c =
    let a = c.args in
    c.if-set_within-2.false
    ∙ elim c.if-set_within.branch [
      | then-set_within w ↦ not-counted (sheet_value a.s) a.instants a.r c.set_within.ensures w.if-set_within.true w.set_within-then-set_within.ensures (sym w.value-is ∙ c.if-set_within-2.false)
      | else-set_within w ↦ not-owed (sheet_value a.s) a.instants a.r c.set_within.ensures w.if-set_within.false
    ]
