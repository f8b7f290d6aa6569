-- It stops at a rule that fails, or each holds.
use Rattle.std.proofs.Common.{◌≡◌, ℕ, sym, ap, ◌∙◌, arith}
use Rattle.tesl.specs.Lists.{below}
use Rattle.work.specs.Questions.{ticks_hold}
use Rattle.work.proofs.Below.{below-miss}
use Rattle.work.proofs.Listing.{all_listed}
use Rattle.lines.proofs.rules.Laws.{rule_in}
use Rattle.lines.proofs.rules.all_hold.Goals as goal

pub returns-then-not-holds : goal.returns-then-not-holds
returns-then-not-holds c =
    let a = c.args in
    sym (all_listed _ (ticks_hold a.ticks) a.n ∙ below-miss _ a.n c.loop-i.i (omega arith) (rw (c.rule_in.ensures.line, ← c.holds.ensures _ _ _) c.if-not-holds.true))

pub returns : goal.returns
returns c =
    let a = c.args in
    let e : a.n ≡ c.loop-i.i = omega arith in
    sym (all_listed _ (ticks_hold a.ticks) a.n ∙ ap (λ (m : ℕ). below m (λ (i : ℕ). ticks_hold a.ticks (rule_in a.lines.now i))) e ∙ c.loop-i.invariant)
