-- The sums in 64 bits are those of whole numbers, and the last is no negative one.
use Rattle.std.proofs.Common.{arith}
use Rattle.std.proofs.lemmas.Int.{ints}
use Rattle.remainders.specs.Word.{due_of}
use Rattle.remainders.proofs.obligation.due_number.Goals as goal

pub returns : goal.returns
unfolding due_of
returns c = omega (arith, ints)
