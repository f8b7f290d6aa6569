-- The chain asks each line that may lead.
use Rattle.std.proofs.Common.{◌∙◌, arith, rules}
use Rattle.std.proofs.lemmas.Iterator.{YieldsList-from_range}
use Rattle.std.proofs.lemmas.Iterator.Search.{all_from_yields_List}
use Rattle.lent.specs.RowsLimits.{lead_fits}
use Rattle.lent.proofs.Ranges.{all-below}
use Rattle.lent.proofs.rows_limits.row_leads_within.Goals as goal

pub returns : goal.returns
returns c =
    let a = c.args in
    let fits = lead_fits a.precede a.instants a.rows.now a.i in
    all_from_yields_List fits _ _ _ c.all.ensures.ran (YieldsList-from_range 0 a.leaders a.leaders (search rules) (omega arith)) (λ x b q k. search rules) ∙ all-below fits a.leaders
