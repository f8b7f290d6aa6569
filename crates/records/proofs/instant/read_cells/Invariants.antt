-- The outcome is that of the clocks from i on, with those before in the struct. Assumes nothing.
use mathlib.Core.Path.{◌≡◌}
use Prim.Native.Nat.{◌*◌}
use lib.ListN.{drop}
use Rattle.records.specs.Instant.{raw_cells, instant_read}
use Rattle.records.specs.Inner.{cells_read}
use Rattle.records.proofs.instant.Laws.{cells_from}
use Rattle.records.proofs.instant.read_cells.Given as goal

abbrev pub invariant-loop-i : goal.invariant-loop-i
invariant-loop-i l = instant_read (cells_read l.fn.form l.body) ≡ cells_from l.v l.i (raw_cells (drop (3 * l.i) l.body))
