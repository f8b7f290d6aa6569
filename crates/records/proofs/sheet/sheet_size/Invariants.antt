-- `sheet_size`: the size so far and that of the lines left are the whole.
use Rattle.std.proofs.Common.{◌≡◌, ◌≤◌, ◌+◌, ◌*◌, length}
use Rattle.records.specs.Sheet.{sheet_value, sheet_bytes}
use Rattle.records.proofs.sheet.Writing.{lines_left}
use Rattle.records.proofs.sheet.sheet_size.Given as goal

abbrev pub invariant-loop-i : goal.invariant-loop-i
invariant-loop-i l = record {
  small : l.size ≤ 5 + 10 * l.i;
  left : length (sheet_bytes (sheet_value l.s)) ≡ l.size + length (lines_left l.s l.s.count l.i);
}
