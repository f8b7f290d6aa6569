-- A delay line whose A ticks: its due has a number, which is compared with that of the end of the scale.
use Rattle.std.proofs.Common.{◌≡◌, true, pos, ◌+ℤ◌, sym, ◌∙◌, arith}
use Rattle.tesl.specs.Run.{tag_in}
use Rattle.work.specs.Questions.{tick_in}
use Rattle.remainders.specs.Word.{due_of}
use Rattle.remainders.proofs.obligation.Laws.{held-due}
use Rattle.lines.proofs.line.Laws.{begins-on-scale, begins-beyond}
use Rattle.lines.proofs.line.begins.Goals as goal
use Rattle.lines.proofs.line.begins.Goals.{After-due_number-number}

ticking : (c : After-due_number-number) → tick_in c.args.ticks c.in-Delayed.a ≡ true
ticking c = sym c.ticks_at.ensures ∙ c.if-not-ticks_at.false

is-due : (c : After-due_number-number) → tag_in c.args.tags c.in-Delayed.b +ℤ pos c.in-Delayed.by ≡ due_of c.due_number-number.result
is-due c = sym (held-due c.in-Delayed.by c.clock_tag.type_inv c.due_number-number.ensures c.clock_tag.ensures)

pub returns-then-number-from : goal.returns-then-number-from
returns-then-number-from c =
    let d = (goal.at.returns-then-number-from c).After-due_number-number in
    begins-on-scale c.in-Delayed.is _ _ (ticking d) _ (is-due d) _ (omega (arith, c.if-number-from.true, c.from.ensures))

pub returns-else-number-from : goal.returns-else-number-from
returns-else-number-from c =
    let d = (goal.at.returns-else-number-from c).After-due_number-number in
    begins-beyond c.in-Delayed.is _ _ (ticking d) _ (is-due d) _ (omega (arith, c.if-number-from.false, c.from.ensures))
