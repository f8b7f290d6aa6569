-- `is_clear_in`: each row is asked. Assumes nothing.
use Rattle.std.proofs.Common.{◌+◌, ◌∙◌, rules, tests, arith}
use Rattle.std.proofs.lemmas.Iterator.{YieldsList-from_range}
use Rattle.std.proofs.lemmas.Iterator.Search.{any_from_yields_List}
use Rattle.judge.proofs.answer.Laws.{no_owed, any-row}
use Rattle.judge.proofs.answer.is_clear_in.Goals as goal

pub returns : goal.returns
returns c v =
    let a = c.args in
    any_from_yields_List (no_owed a.rows.now) _ _ _ c.any.ensures.ran (YieldsList-from_range a.from (a.from + a.n) a.n (cc) (omega arith)) (λ x b q k. search (rules, tests))
    ∙ any-row v a.rows.now a.from a.n
