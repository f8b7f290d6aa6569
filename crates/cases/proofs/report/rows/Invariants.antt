-- A row passes one place, and its label ends before the byte that is looked at.
use Rattle.std.proofs.Common.{◌+◌, ◌≤◌}
use Rattle.cases.proofs.report.rows.Given as goal

abbrev pub invariant-loop-i : goal.invariant-loop-i
invariant-loop-i g l = (l.at ≤ 64 + l.i) × (l.from ≤ l.i)
