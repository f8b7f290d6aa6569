-- One rule more, and all of them.
use Rattle.std.proofs.Common.{refl, arith}
use Rattle.work.specs.Questions.{stopped_after}
use Rattle.work.specs.Lines.{all_stopped}
use Rattle.lines.proofs.rules.Laws.{rule_in}
use Rattle.lines.proofs.rules.Folds.{fold_end, fold_more}
use Rattle.lines.proofs.rules.all_stops.Goals as goal

pub loop-i-preserved : goal.loop-i-preserved
loop-i-preserved c =
    let a = c.args in
    fold_more (stopped_after a.ticks) (all_stopped a.ticks) (λ x. refl) (λ l ls x. refl) (rule_in a.lines.now) a.n c.loop-i.i c.loop-i.stops c.loop-i.invariant (omega arith) c.plan_line.result c.plan_line.ensures c.stopped_after-next.result c.stopped_after-next.ensures

pub returns : goal.returns
returns c =
    let a = c.args in
    fold_end (stopped_after a.ticks) (all_stopped a.ticks) (λ x. refl) (λ l ls x. refl) (rule_in a.lines.now) a.n c.loop-i.i c.loop-i.stops c.loop-i.invariant (omega arith)
