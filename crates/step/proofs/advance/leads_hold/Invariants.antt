-- Whether each lead is enough is whether those below k are.
use Rattle.std.proofs.Common.{◌≡◌, ℕ, leb, get_or}
use Rattle.tesl.specs.Lists.{below}
use Rattle.remainders.specs.Rows.{row_lead}
use Rattle.step.proofs.advance.leads_hold.Given as goal

abbrev pub invariant-loop-k : goal.invariant-loop-k
invariant-loop-k l = below l.leaders (λ (k : ℕ). leb (get_or l.needs k 0) (row_lead l.rows l.i k)) ≡ below l.k (λ (k : ℕ). leb (get_or l.needs k 0) (row_lead l.rows l.i k))
