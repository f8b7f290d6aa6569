-- The chain asks each of sixteen places.
use Rattle.std.proofs.Common.{◌∙◌, ◌||◌, ℕ, arith, ltb, not, rules}
use Rattle.std.proofs.lemmas.Iterator.{YieldsList-from_range}
use Rattle.std.proofs.lemmas.Iterator.Search.{all_from_yields_List}
use Rattle.remainders.specs.Rows.{word}
use Rattle.lent.specs.State.{is_kind}
use Rattle.lent.proofs.Ranges.{all-below}
use Rattle.lent.proofs.state.kinds_below.Goals as goal

pub returns : goal.returns
returns c =
    let has = λ (k : ℕ). not (ltb k c.args.n) || is_kind (word c.args.state.now 1 k) in
    all_from_yields_List has _ _ _ c.all.ensures.ran (YieldsList-from_range 0 16 16 (search rules) (omega arith)) (λ x b q k. search rules) ∙ all-below has 16
