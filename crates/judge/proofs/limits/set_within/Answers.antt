-- `set_within`: the count, then each of them is asked. Assumes nothing.
use Rattle.std.proofs.Common.{◌∙◌, take, rules, tests}
use Rattle.std.proofs.lemmas.Iterator.{YieldsList-from_slice}
use Rattle.std.proofs.lemmas.Iterator.Search.{all_from_yields_List}
use borrow.Author.Tests.{le-leb, lt-leb}
use Rattle.judge.specs.Limits.{stored_within, set_within}
use Rattle.judge.proofs.limits.Laws.{all-listed}
use Rattle.judge.proofs.limits.set_within.Goals as goal

pub returns-then-n-le-MAX_OWED : goal.returns-then-n-le-MAX_OWED
unfolding set_within
returns-then-n-le-MAX_OWED c =
    let a = c.args in
    let p = stored_within a.clocks a.least a.most in
    rw (le-leb _ _ c.if-n-le-MAX_OWED.true)
    (all_from_yields_List p _ _ _ c.all.ensures.ran (YieldsList-from_slice (take a.n a.obligations) (cc)) (λ x b q k. search (rules, tests))
    ∙ all-listed p (take a.n a.obligations))

pub returns-else-n-le-MAX_OWED : goal.returns-else-n-le-MAX_OWED
unfolding set_within
returns-else-n-le-MAX_OWED c = rw (lt-leb _ _ c.if-n-le-MAX_OWED.false)
