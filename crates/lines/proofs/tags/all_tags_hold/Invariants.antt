-- The relations below i hold.
use Rattle.std.proofs.Common.{◌≡◌, ℕ, true, ◌+◌}
use Rattle.tesl.specs.Lists.{below}
use Rattle.work.specs.Questions.{tags_hold}
use Rattle.lines.specs.Plan.{plan_line, relations_from}
use Rattle.lines.proofs.tags.all_tags_hold.Given as goal

abbrev pub invariant-loop-i : goal.invariant-loop-i
invariant-loop-i l = below l.i (λ (i : ℕ). tags_hold l.tags (plan_line l.lines (relations_from + i))) ≡ true
