-- `stopped_at`: a flag read, and all of them. Assumes nothing.
use Rattle.std.proofs.Common.{◌∙◌, ap, arith}
use Rattle.remainders.specs.Word.{flag_of}
use Rattle.remainders.proofs.rows.Placing.{placing-start, placing-more}
use Rattle.judge.proofs.stored.stopped_at.Goals as goal

pub loop-k-init : goal.loop-k-init
loop-k-init c = placing-start _ _ 8

pub loop-k-preserved : goal.loop-k-preserved
loop-k-preserved c = placing-more _ _ 8 c.loop-k.invariant (omega arith) c.flag_in.result (c.flag_in.ensures ∙ ap flag_of c.word_at.ensures)

pub returns : goal.returns
returns c =
    let w = c.loop-k.invariant in
    record { size = w.size; first = λ k h. w.places k (omega arith); rest = λ k h. w.rest k (omega arith) }
