-- `put_leads`: the first k leads are stored. Assumes nothing.
use Rattle.std.proofs.Common.{◌≡◌, ℕ, get_or}
use Rattle.remainders.specs.Rows.{leads_part, stopped_part}
use Rattle.remainders.proofs.rows.Storing.{Storing}
use Rattle.judge.proofs.stored.put_leads.Given as goal

abbrev pub invariant-loop-k : goal.invariant-loop-k
invariant-loop-k l = Storing (λ (k w : ℕ). w ≡ get_or l.fn.leads k 0) l.i leads_part stopped_part l.fn.rows l.rows l.k
