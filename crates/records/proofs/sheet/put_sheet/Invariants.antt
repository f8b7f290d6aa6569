-- `put_sheet`: storing the lines left now is storing all at the start.
use Rattle.std.proofs.Common.{◌≡◌, ◌≤◌, ◌+◌, length}
use Rattle.records.specs.Store.{puts}
use Rattle.records.specs.Sheet.{sheet_value, sheet_bytes}
use Rattle.records.proofs.sheet.Writing.{lines_left}
use Rattle.records.proofs.sheet.put_sheet.Given as goal

abbrev pub invariant-loop-i : goal.invariant-loop-i
invariant-loop-i l = record {
  room : length (sheet_bytes (sheet_value l.s)) ≤ length l.buffer;
  left : length (sheet_bytes (sheet_value l.s)) ≡ l.at + length (lines_left l.s l.s.count l.i);
  stored : puts l.initial.buffer 5 (lines_left l.s l.s.count 0) ≡ puts l.buffer l.at (lines_left l.s l.s.count l.i);
}
