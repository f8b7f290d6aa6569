-- `sort_lines`: the lines sorted so far rise, are lines of the sheet, and every other line is above them.
use Rattle.std.proofs.Common.{◌-◌}
use Rattle.records.specs.Inner.{NextAbove}
use Rattle.records.proofs.sort.Laws.{Sorting}
use Rattle.records.proofs.sort.sort_lines.Given as goal

abbrev pub invariant-loop-next : goal.invariant-loop-next
invariant-loop-next l = record { sorting : Sorting l.s l.sorted; next : NextAbove l.s l.sorted l.s.count l.next }

abbrev pub decreases-loop-next : goal.decreases-loop-next
decreases-loop-next l = l.s.count - l.sorted.count
