-- `count_instants`: those counted, and those the machine takes from here on, are all that it takes. Assumes nothing.
use Rattle.std.proofs.Common.{length, ◌-◌}
use Rattle.logs.proofs.count.Laws.{Counting}
use Rattle.logs.proofs.count.count_instants.Given as goal

abbrev pub invariant-loop-at : goal.invariant-loop-at
invariant-loop-at l = Counting l.log l.clocks l.count l.at

abbrev pub decreases-loop-at : goal.decreases-loop-at
decreases-loop-at l = length l.log - l.at
