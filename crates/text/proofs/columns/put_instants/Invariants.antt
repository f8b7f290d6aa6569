-- `put_instants`: the lines put so far and those of the instants from here on are the lines of the log. Assumes nothing.
use Rattle.std.proofs.Common.{length, ◌-◌}
use Rattle.text.proofs.columns.Laws.{Telling}
use Rattle.text.proofs.columns.put_instants.Given as goal

abbrev pub invariant-loop-at : goal.invariant-loop-at
invariant-loop-at l = Telling l.clocks l.log l.fn.out l.out l.taken l.end l.at

abbrev pub decreases-loop-at : goal.decreases-loop-at
decreases-loop-at l = length l.log - l.at
