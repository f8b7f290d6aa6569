-- Storing the clocks that are left now is storing all. Assumes nothing.
use mathlib.Core.Path.{◌≡◌}
use Rattle.records.proofs.instant.Stored.{stored_from}
use Rattle.records.proofs.instant.put_cells.Given as goal

abbrev pub invariant-loop-i : goal.invariant-loop-i
invariant-loop-i l = stored_from l.v.ticks l.v.tags l.at l.i-end 0 l.fn.buffer ≡ stored_from l.v.ticks l.v.tags l.at l.i-end l.i l.buffer
