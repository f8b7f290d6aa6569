-- A clock is in both where one is from place k on.
use Rattle.std.proofs.Common.{◌≡◌, ◌-◌, drop}
use Rattle.records.specs.Lists.{listed_from, listed}
use Rattle.theory.specs.Step.{overlap}
use Rattle.remainders.specs.Rows.{row_stop}
use Rattle.step.proofs.advance.is_barred.Given as goal

abbrev pub invariant-loop-k : goal.invariant-loop-k
invariant-loop-k l = overlap l.ticks (listed (row_stop l.rows l.i) l.clocks) ≡ overlap (drop l.k l.ticks) (listed_from (row_stop l.rows l.i) l.k (l.clocks - l.k))
