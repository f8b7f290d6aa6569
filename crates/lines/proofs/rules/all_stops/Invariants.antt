-- What all rules stop is what those from i on stop besides.
use Rattle.std.proofs.Common.{◌≡◌, ◌-◌, false, replicate}
use Rattle.records.specs.Lists.{listed_from}
use Rattle.work.specs.Lines.{all_stopped}
use Rattle.lines.specs.Plan.{plan_lines, rules_from}
use Rattle.lines.proofs.rules.Laws.{rule_in}
use Rattle.lines.proofs.rules.all_stops.Given as goal

abbrev pub invariant-loop-i : goal.invariant-loop-i
invariant-loop-i l = all_stopped l.ticks (plan_lines l.lines rules_from l.n) (replicate 8 false) ≡ all_stopped l.ticks (listed_from (rule_in l.lines) l.i (l.n - l.i)) l.stops
