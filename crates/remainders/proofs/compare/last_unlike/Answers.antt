-- A lead that differs tells the rows apart; else those below decide.
use Rattle.std.proofs.Common.{refl, sym, ◌∙◌, arith}
use Rattle.remainders.proofs.compare.Down.{below-no, below_more}
use Rattle.remainders.proofs.compare.last_unlike.Goals as goal

pub returns-then-lead_differs : goal.returns-then-lead_differs
returns-then-lead_differs c = below-no _ c.loop-k.k c.loop-k.invariant (omega arith) _ refl (sym c.lead_differs.ensures ∙ c.if-lead_differs.true)

pub loop-k-preserved : goal.loop-k-preserved
loop-k-preserved c = below_more _ c.loop-k.k c.loop-k.invariant (omega arith) _ refl (sym c.lead_differs.ensures ∙ c.if-lead_differs.false)
