-- A clock is in both here, or further on. Assumes nothing.
use Rattle.std.proofs.Common.{sym, ap, ◌∙◌, false, get_or, arith}
use Rattle.remainders.specs.Word.{flag_of}
use Rattle.step.proofs.advance.Effects.{overlap-end, overlap-here, overlap-more, not-here, not-barred}
use Rattle.step.proofs.advance.is_barred.Goals as goal
use Rattle.step.proofs.advance.is_barred.Goals.{else-ticks-k-via-then-ticks-k+else-flag_in, else-ticks-k-via-else-ticks-k}

pub returns-then-flag_in : goal.returns-then-flag_in
returns-then-flag_in c =
    overlap-here c.args.ticks _ c.args.clocks c.loop-k.k c.loop-k.invariant (omega arith) (omega arith) c.if-ticks-k.true (sym (c.flag_in.ensures ∙ ap flag_of c.word_at.ensures) ∙ c.if-flag_in.true)

pub loop-k-preserved : goal.loop-k-preserved
loop-k-preserved c =
    overlap-more c.args.ticks _ c.args.clocks c.loop-k.k c.loop-k.invariant (omega arith) (omega arith)
    (elim c.else-ticks-k.branch [
      | else-ticks-k-via-then-ticks-k+else-flag_in w ↦ not-here (get_or c.args.ticks c.loop-k.k false) (sym (w.flag_in.ensures ∙ ap flag_of w.word_at.ensures) ∙ w.if-flag_in.false)
      | else-ticks-k-via-else-ticks-k w ↦ not-barred _ w.if-ticks-k.false
    ])

pub returns : goal.returns
returns c = overlap-end c.args.ticks _ c.args.clocks c.loop-k.k c.loop-k.invariant (omega arith)
