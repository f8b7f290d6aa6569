-- The chain asks each row.
use Rattle.std.proofs.Common.{◌∙◌, ◌+◌, ℕ, arith, rules}
use Rattle.std.proofs.lemmas.Iterator.{YieldsList-from_range}
use Rattle.std.proofs.lemmas.Iterator.Search.{all_from_yields_List}
use Rattle.judge.specs.Limits.{remainder_within}
use Rattle.judge.specs.Progress.{row_remainder}
use Rattle.lent.proofs.Ranges.{all-below}
use Rattle.lent.proofs.rows_limits.each_row_within.Goals as goal

pub returns : goal.returns
returns c v lines planned =
    let a = c.args in
    let fits = λ (k : ℕ). remainder_within v a.instants (row_remainder a.rows.now (a.from + k)) in
    all_from_yields_List fits _ _ _ c.all.ensures.ran (YieldsList-from_range 0 a.n a.n (search rules) (omega arith)) (λ x b q k. search rules) ∙ all-below fits a.n
