-- `next_above`: the least of the lines below i is found.
use Rattle.records.specs.Inner.{NextAbove}
use Rattle.records.proofs.sort.next_above.Given as goal

abbrev pub invariant-loop-i : goal.invariant-loop-i
invariant-loop-i l = NextAbove l.s l.sorted l.i l.least
