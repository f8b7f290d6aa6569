-- Row x has each of the first j of row i.
use Rattle.std.proofs.Common.{◌≡◌, true}
use Rattle.tesl.specs.Lists.{below}
use Rattle.remainders.specs.Rows.{part_number}
use Rattle.remainders.proofs.compare.Laws.{has_at}
use Rattle.remainders.proofs.compare.same_set.Given as goal

abbrev pub invariant-loop-j : goal.invariant-loop-j
invariant-loop-j l = below l.j (has_at l.rows l.x l.i (part_number l.part)) ≡ true
