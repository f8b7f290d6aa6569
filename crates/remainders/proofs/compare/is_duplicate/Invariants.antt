-- None of the first k rows is row x, and of one that may be row x has each of the first j obligations.
use Rattle.std.proofs.Common.{◌≡◌, true}
use Rattle.tesl.specs.Lists.{below}
use Rattle.remainders.proofs.compare.Laws.{has_at, none_same}
use Rattle.remainders.proofs.compare.is_duplicate.Given as goal

abbrev pub invariant-held : goal.invariant-held
invariant-held l = none_same l.clocks l.leaders l.precede l.rows l.x l.first l.k ≡ true

abbrev pub invariant-loop-j : goal.invariant-loop-j
invariant-loop-j l = below l.j (has_at l.rows l.x l.i 0) ≡ true
