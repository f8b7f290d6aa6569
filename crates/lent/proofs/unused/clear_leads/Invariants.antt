-- Of the first k leads those without a flag are zero.
use Rattle.lent.proofs.unused.Laws.{Leads}
use Rattle.lent.proofs.unused.clear_leads.Given as goal

abbrev pub invariant-loop-k : goal.invariant-loop-k
invariant-loop-k l = Leads l.leaders l.precede l.i l.initial.rows l.rows l.k
