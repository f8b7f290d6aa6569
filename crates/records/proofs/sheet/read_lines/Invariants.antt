-- `read_lines`: some records are read, and the answer is that of the records left.
use Rattle.std.proofs.Common.{◌≤◌, ◌-◌, length}
use Rattle.records.proofs.sheet.Reading.{Reading}
use Rattle.records.proofs.sheet.read_lines.Given as goal

abbrev pub invariant-loop-at : goal.invariant-loop-at
invariant-loop-at l = record { within : l.at ≤ length l.bytes; reading : Reading l.order l.last l.bytes l.clocks l.sheet l.spent l.at }

abbrev pub decreases-loop-at : goal.decreases-loop-at
decreases-loop-at l = length l.bytes - l.at
