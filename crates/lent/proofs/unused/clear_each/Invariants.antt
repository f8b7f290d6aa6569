-- The first k rows are cleared.
use Rattle.lent.proofs.unused.Sides.{Clearing}
use Rattle.lent.proofs.unused.clear_each.Given as goal

abbrev pub invariant-loop-k : goal.invariant-loop-k
invariant-loop-k l = Clearing l.plan l.from l.n l.initial.rows l.rows l.k
