-- The chain asks each of the first n.
use Rattle.std.proofs.Common.{◌∙◌, arith, rules}
use Rattle.std.proofs.lemmas.Iterator.{YieldsList-from_range}
use Rattle.std.proofs.lemmas.Iterator.Search.{all_from_yields_List}
use Rattle.remainders.specs.Rows.{part_number}
use Rattle.lent.specs.RowsLimits.{place_fits}
use Rattle.lent.proofs.Ranges.{all-below}
use Rattle.lent.proofs.rows_limits.row_owed_within.Goals as goal

pub returns : goal.returns
returns c =
    let a = c.args in
    let fits = place_fits a.clocks a.least a.most a.rows.now a.i (part_number a.part) in
    all_from_yields_List fits _ _ _ c.all.ensures.ran (YieldsList-from_range 0 a.n a.n (search rules) (omega arith)) (λ x b q k. search rules) ∙ all-below fits a.n
