-- The likely line tells the rows apart.
use Rattle.std.proofs.Common.{sym, ◌∙◌}
use borrow.Author.Tests.{not-true}
use Rattle.work.proofs.Below.{below-miss}
use Rattle.remainders.proofs.compare.unlike_lead.Goals as goal

pub returns-then-lead_differs : goal.returns-then-lead_differs
returns-then-lead_differs c = sym (below-miss _ c.args.leaders c.args.likely c.if-likely-leaders.true (not-true _ (sym c.lead_differs.ensures ∙ c.if-lead_differs.true)))
