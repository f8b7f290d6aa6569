-- `obligation_within`: a test of each clock, then of the number. Assumes nothing.
use Rattle.std.proofs.Common.{arith}
use Rattle.std.proofs.lemmas.Grind.{common_steps}
use Rattle.judge.specs.Limits.{stored_within}
use Rattle.judge.proofs.limits.obligation_within.Goals as goal

pub returns-then-least-o : goal.returns-then-least-o
unfolding stored_within
returns-then-least-o c = grind (arith, common_steps)

pub returns-else-least-o : goal.returns-else-least-o
unfolding stored_within
returns-else-least-o c = grind (arith, common_steps)
