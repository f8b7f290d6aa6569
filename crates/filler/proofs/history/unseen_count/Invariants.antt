-- At most 12 are counted.
use Rattle.std.proofs.Common.{◌≤◌}
use Rattle.filler.proofs.history.unseen_count.Given as goal

abbrev pub invariant-loop-v : goal.invariant-loop-v
invariant-loop-v l = l.all ≤ 12
