-- `leads_at`: the first k leads in use are read, the other places are 0. Assumes nothing.
use Rattle.std.proofs.Common.{◌≡◌, ℕ, false, cond, get_or}
use Rattle.remainders.specs.Word.{number_in}
use Rattle.remainders.specs.Rows.{row_lead}
use Rattle.remainders.proofs.rows.Placing.{Placing}
use Rattle.judge.proofs.stored.leads_at.Given as goal

abbrev pub invariant-loop-k : goal.invariant-loop-k
invariant-loop-k l = Placing (λ (k x : ℕ). x ≡ cond (get_or l.precede k false) (number_in (row_lead l.rows l.i k)) 0) 0 16 l.all l.k
