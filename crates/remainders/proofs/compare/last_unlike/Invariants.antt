-- Whether all precedes lines lead alike is whether those below k do.
use Rattle.std.proofs.Common.{◌≡◌, ℕ, false, not, ◌||◌, eqb, get_or}
use Rattle.tesl.specs.Lists.{below}
use Rattle.remainders.specs.Rows.{row_lead}
use Rattle.remainders.proofs.compare.last_unlike.Given as goal

abbrev pub invariant-loop-k : goal.invariant-loop-k
invariant-loop-k l = below l.leaders (λ (k : ℕ). not (get_or l.precede k false) || eqb (row_lead l.rows l.x k) (row_lead l.rows l.i k)) ≡ below l.k (λ (k : ℕ). not (get_or l.precede k false) || eqb (row_lead l.rows l.x k) (row_lead l.rows l.i k))
