-- `put_obligations`: the first j obligations are stored. Assumes nothing.
use Rattle.std.proofs.Common.{◌≡◌, take}
use Rattle.records.specs.Lists.{listed}
use Rattle.remainders.specs.Rows.{part_number, row_obligation, PartStays}
use Rattle.judge.proofs.stored.put_obligations.Given as goal

abbrev pub invariant-loop-j : goal.invariant-loop-j
invariant-loop-j l =
    record {
      places : listed (row_obligation l.rows l.i (part_number l.part)) l.j ≡ take l.j l.obligations;
      stays : PartStays l.i (part_number l.part) l.fn.rows l.rows;
    }
