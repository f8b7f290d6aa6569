-- It stops at a relation that fails, or each holds.
use Rattle.std.proofs.Common.{◌≡◌, ℕ, ◌+◌, sym, ap, ◌∙◌, arith}
use Rattle.tesl.specs.Lists.{below}
use Rattle.work.specs.Questions.{tags_hold}
use Rattle.work.proofs.Below.{below-miss}
use Rattle.work.proofs.Listing.{all_listed}
use Rattle.lines.specs.Plan.{plan_line, relations_from}
use Rattle.lines.proofs.tags.all_tags_hold.Goals as goal

pub returns-then-not-tags_hold : goal.returns-then-not-tags_hold
returns-then-not-tags_hold c =
    let a = c.args in
    sym (all_listed _ (tags_hold a.tags) a.n ∙ below-miss _ a.n c.loop-i.i (omega arith) (rw (← c.plan_line.ensures, ← c.tags_hold.ensures) c.if-not-tags_hold.true))

pub returns : goal.returns
returns c =
    let a = c.args in
    let e : a.n ≡ c.loop-i.i = omega arith in
    sym (all_listed _ (tags_hold a.tags) a.n ∙ ap (λ (m : ℕ). below m (λ (i : ℕ). tags_hold a.tags (plan_line a.lines.now (relations_from + i)))) e ∙ c.loop-i.invariant)
