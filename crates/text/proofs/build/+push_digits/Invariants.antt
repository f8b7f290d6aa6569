-- `push_digits`: the number falls. Assumes nothing.
use Rattle.text.proofs.build.+push_digits.Given as goal

abbrev pub decreases-push_digits : goal.decreases-push_digits
decreases-push_digits l = l.n
