-- The flags of the set are what its places from j on add.
use Rattle.std.proofs.Common.{◌≡◌}
use Rattle.work.specs.Relevant.{flagged}
use Rattle.remainders.specs.Rows.{part_number, row_obligation, clocks_asked, part_clocks}
use Rattle.lines.proofs.relevant.Laws.{named_from}
use Rattle.lines.proofs.relevant.flag_part.Given as goal

abbrev pub invariant-loop-j : goal.invariant-loop-j
invariant-loop-j l = flagged (part_clocks l.rows l.i (part_number l.part)) l.initial.flags ≡ named_from (clocks_asked (part_number l.part)) (row_obligation l.rows l.i (part_number l.part)) l.j-end l.j l.flags
