-- The rules below i hold.
use Rattle.std.proofs.Common.{◌≡◌, ℕ, true}
use Rattle.tesl.specs.Lists.{below}
use Rattle.work.specs.Questions.{ticks_hold}
use Rattle.lines.proofs.rules.Laws.{rule_in}
use Rattle.lines.proofs.rules.all_hold.Given as goal

abbrev pub invariant-loop-i : goal.invariant-loop-i
invariant-loop-i l = below l.i (λ (i : ℕ). ticks_hold l.ticks (rule_in l.lines i)) ≡ true
