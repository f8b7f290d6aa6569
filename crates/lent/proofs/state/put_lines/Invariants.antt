-- The words of the first k places are stored.
use Rattle.lent.proofs.state.Sheet.{Lining}
use Rattle.lent.proofs.state.put_lines.Given as goal

abbrev pub invariant-loop-k : goal.invariant-loop-k
invariant-loop-k l = Lining l.sheet l.initial.state l.state l.k
