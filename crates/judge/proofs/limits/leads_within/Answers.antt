-- `leads_within`: each line and its lead is asked. Assumes nothing.
use Rattle.std.proofs.Common.{ℕ, ◌∙◌, rules, tests, arith}
use Rattle.std.proofs.lemmas.Iterator.{YieldsList-from_range}
use Rattle.std.proofs.lemmas.Iterator.Search.{all_from_yields_List}
use Rattle.records.specs.Sheet.{line_at}
use Rattle.work.specs.Lines.{lead_in}
use Rattle.judge.proofs.limits.Laws.{lead_ok, leads-asked}
use Rattle.judge.proofs.limits.leads_within.Goals as goal

pub returns : goal.returns
returns c =
    let a = c.args in
    all_from_yields_List (λ (k : ℕ). lead_ok a.instants (line_at a.s k) (lead_in a.leads k)) _ _ _ c.all.ensures.ran (YieldsList-from_range 0 a.s.count a.s.count (cc) (omega arith)) (λ x b q k. search (rules, tests))
    ∙ leads-asked a.instants a.s a.leads (omega arith)
