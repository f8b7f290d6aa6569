-- `observe_records`: what was said, and what the machine replies from here on, are its replies to the log, and the bytes of it stand in the buffer. Assumes nothing.
use Rattle.std.proofs.Common.{length, ◌-◌}
use Rattle.logs.proofs.log.Laws.{Turns}
use Rattle.logs.proofs.log.observe_records.Given as goal

abbrev pub invariant-loop-at : goal.invariant-loop-at
invariant-loop-at l = Turns l.log l.fn.out l.begun l.fn.rows l.lines l.progress l.reply l.instants l.at l.end l.rows l.list l.out

abbrev pub decreases-loop-at : goal.decreases-loop-at
decreases-loop-at l = length l.log - l.at
