-- Rows and flags are those of the first i lines.
use Rattle.records.specs.Lists.{listed}
use Rattle.records.specs.Sheet.{line_at}
use Rattle.lines.proofs.sorted.Sorted.{Sorted, parts_by}
use Rattle.lines.proofs.sorted.plan_of.Given as goal

abbrev pub invariant-loop-i : goal.invariant-loop-i
invariant-loop-i l = Sorted (listed (line_at l.fn.s) l.i) l.i (parts_by l.relations l.rules l.delays l.counted l.leaders l.precede l.named) l.lines
