-- `check_lines`: the lines below i have passed, and the answer is that of the lines left.
use Rattle.std.proofs.Common.{◌≤◌}
use Rattle.records.proofs.sheet.Writing.{Checking}
use Rattle.records.proofs.sheet.check_lines.Given as goal

abbrev pub invariant-loop-i : goal.invariant-loop-i
invariant-loop-i l = record { few : l.spent ≤ l.i; checking : Checking l.order l.s l.i l.spent }
