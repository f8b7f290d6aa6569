-- Each part is what the sheet's lines of that part make of the filling. Assumes nothing.
use mathlib.Core.Path.{refl, ap, ◌∙◌}
use mathlib.Core.Bool.{false}
use lib.ListN.{replicate}
use Rattle.tesl.specs.Fits.{most_tag, owed_from}
use Rattle.tesl.specs.Remainder.{same_obligation, same_countdown}
use Rattle.theory.specs.Adding.{once_each}
use Rattle.theory.specs.Step.{started_by}
use Rattle.work.specs.View.{filled_of}
use Rattle.work.specs.Lines.{all_stopped}
use Rattle.work.specs.Carried.{need_of, gain_of, loss_of}
use Rattle.work.specs.Parts.{is_delay, is_counted}
use Rattle.work.proofs.Parts.{delays-enough, counted-enough}
use Rattle.remainders.specs.Word.{due_of}
use Rattle.remainders.specs.View.{obligation_of, countdown_of}
use Rattle.lines.specs.Plan.{delays_from, counted_rows, plan_line}
use Rattle.remainders.proofs.obligation.Laws.{same_read, same-counted}
use Rattle.step.proofs.filling.Laws.{part-begins, reads-counted}
use Rattle.step.proofs.filling.gather.Goals as goal

pub returns : goal.returns
unfolding due_of
returns c =
    let a = c.args in
    let b = c.begin_delays-owed.ensures in
    let f = filled_of a.ticks a.tags in
    record {
      ticked = refl;
      tagged = refl;
      ordered = b.ordered;
      few = b.few;
      asked = λ v planned. record {
        as_many = planned.as_many;
        few-clocks = planned.few-clocks;
        leading = planned.leading;
        begins = λ i. record {
          owed = (part-begins obligation_of same_obligation same_read (owed_from most_tag f) is_delay most_tag a.ticks a.tags a.lines.now delays_from a.plan.delays v.lines b.obligations planned.delays b.reads ∙ ap (once_each same_obligation) (delays-enough most_tag f v.lines)) i;
          countdowns = (part-begins countdown_of same_countdown same-counted (started_by f) is_counted most_tag a.ticks a.tags a.lines.now counted_rows a.plan.counted v.lines b.countdowns planned.counted (λ j h. reads-counted most_tag a.ticks a.tags (plan_line a.lines.now _)) ∙ ap (once_each same_countdown) (counted-enough f v.lines)) i;
        };
        ends = c.all_stops-stops.ensures ∙ ap (λ ls. all_stopped a.ticks ls (replicate 8 false)) planned.rules;
        needed = λ k h. c.lead_changes.ensures.needed k h ∙ ap (need_of a.ticks) (planned.all k h);
        gained = λ k h. c.lead_changes.ensures.gained k h ∙ ap (gain_of a.ticks) (planned.all k h);
        lost = λ k h. c.lead_changes.ensures.lost k h ∙ ap (loss_of a.ticks) (planned.all k h);
      };
    }
