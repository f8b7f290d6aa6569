-- The number of a tag has 16 bits.
use Rattle.std.proofs.Common.{arith}
use Rattle.std.proofs.lemmas.Int.{ints}
use Rattle.remainders.specs.Word.{due_of}
use Rattle.remainders.proofs.obligation.tag_number.Goals as goal

pub overflow_cast-result : goal.overflow_cast-result
unfolding due_of
overflow_cast-result c = record { fits = omega (arith, ints) }
