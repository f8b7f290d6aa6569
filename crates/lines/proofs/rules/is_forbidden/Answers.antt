-- It stops at a rule that forbids, or none does.
use Rattle.std.proofs.Common.{◌≡◌, ℕ, true, not, sym, ap, ◌∙◌, arith}
use Rattle.tesl.specs.Lists.{below}
use Rattle.work.specs.Rules.{forbids}
use Rattle.work.proofs.Listing.{any-listed, any_of}
use Rattle.lines.proofs.rules.Laws.{rule_in}
use Rattle.lines.proofs.rules.is_forbidden.Goals as goal

pub returns-then-not-holds : goal.returns-then-not-holds
returns-then-not-holds c =
    let a = c.args in
    let forbidden : forbids a.k a.ticks (rule_in a.lines.now c.loop-i.i) ≡ true
    = rw (c.rule_in-r.ensures.line, ← c.is_settled.ensures _ _ _, ← c.holds.ensures _ _ _, c.if-is_settled.true, c.if-not-holds.true)
    in
    sym (any_of _ (forbids a.k a.ticks) a.n c.loop-i.i (omega arith) forbidden)

pub returns : goal.returns
returns c =
    let a = c.args in
    let e : a.n ≡ c.loop-i.i = omega arith in
    sym (any-listed _ (forbids a.k a.ticks) a.n ∙ ap (λ (m : ℕ). not (below m (λ (i : ℕ). not (forbids a.k a.ticks (rule_in a.lines.now i))))) e ∙ ap not c.loop-i.invariant)
