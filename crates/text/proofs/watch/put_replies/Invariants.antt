-- `put_replies`: the lines put so far and those of the machine's replies from here on are the lines of its replies to the log. Assumes nothing.
use Rattle.std.proofs.Common.{length, ◌-◌}
use Rattle.text.proofs.watch.Laws.{Telling}
use Rattle.text.proofs.watch.put_replies.Given as goal

abbrev pub invariant-loop-at : goal.invariant-loop-at
invariant-loop-at l = Telling l.log l.fn.out l.fn.opened l.out l.monitor l.end l.at

abbrev pub decreases-loop-at : goal.decreases-loop-at
decreases-loop-at l = length l.log - l.at
