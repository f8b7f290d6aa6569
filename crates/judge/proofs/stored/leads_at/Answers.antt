-- `leads_at`: a lead read, and all of them. Assumes nothing.
use Rattle.std.proofs.Common.{◌∙◌, arith}
use Rattle.remainders.proofs.rows.Placing.{placing-start, placing-more}
use Rattle.judge.proofs.stored.leads_at.Goals as goal
use Rattle.judge.proofs.stored.leads_at.Goals.{then-precede-k, else-precede-k}

pub loop-k-init : goal.loop-k-init
loop-k-init c = placing-start _ _ 16

pub loop-k-preserved : goal.loop-k-preserved
loop-k-preserved c =
    placing-more _ _ 16 c.loop-k.invariant (omega arith) c.if-precede-k.all
    (elim c.if-precede-k.branch [
      | then-precede-k w ↦ w.all-is ∙ w.number_in.ensures ∙ rw (w.if-precede-k.true, w.word_at.ensures)
      | else-precede-k w ↦ w.all-is ∙ rw w.if-precede-k.false
    ])

pub returns : goal.returns
returns c =
    let w = c.loop-k.invariant in
    record { first = λ k h. w.places k (omega arith); rest = λ k h. w.rest k (omega arith) }
