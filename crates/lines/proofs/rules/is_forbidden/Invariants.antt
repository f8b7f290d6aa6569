-- No rule below i forbids.
use Rattle.std.proofs.Common.{◌≡◌, ℕ, true, not}
use Rattle.tesl.specs.Lists.{below}
use Rattle.work.specs.Rules.{forbids}
use Rattle.lines.proofs.rules.Laws.{rule_in}
use Rattle.lines.proofs.rules.is_forbidden.Given as goal

abbrev pub invariant-loop-i : goal.invariant-loop-i
invariant-loop-i l = below l.i (λ (i : ℕ). not (forbids l.k l.ticks (rule_in l.lines i))) ≡ true
