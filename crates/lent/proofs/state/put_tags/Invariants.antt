-- The first k tags are stored.
use Rattle.remainders.proofs.rows.Storing.{Storing}
use Rattle.lent.proofs.state.Laws.{SameTag}
use Rattle.lent.proofs.state.put_tags.Given as goal

abbrev pub invariant-loop-k : goal.invariant-loop-k
invariant-loop-k l = Storing (SameTag l.fn.tags) 0 8 16 l.initial.state l.state l.k
