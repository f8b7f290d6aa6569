-- The first i places hold what the first i lines ask.
use Rattle.std.proofs.Common.{◌≡◌, ℕ}
use Rattle.work.specs.Carried.{need_of, gain_of, loss_of}
use Rattle.lines.specs.Plan.{plan_line}
use Rattle.remainders.proofs.rows.Placing.{Placing}
use Rattle.lines.proofs.leads.lead_changes.Given as goal

abbrev pub invariant-loop-i : goal.invariant-loop-i
invariant-loop-i l =
    record {
      needed : Placing (λ k (x : ℕ). x ≡ need_of l.ticks (plan_line l.lines k)) 0 16 l.needs l.i;
      gained : Placing (λ k (x : ℕ). x ≡ gain_of l.ticks (plan_line l.lines k)) 0 16 l.gains l.i;
      lost : Placing (λ k (x : ℕ). x ≡ loss_of l.ticks (plan_line l.lines k)) 0 16 l.losses l.i;
    }
