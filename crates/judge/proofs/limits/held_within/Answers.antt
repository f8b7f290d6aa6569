-- `held_within`: a case of the count each; of those held, each is asked. Assumes nothing.
use Rattle.std.proofs.Common.{◌∙◌, take, rules, tests}
use Rattle.std.proofs.lemmas.Iterator.{YieldsList-from_slice}
use Rattle.std.proofs.lemmas.Iterator.Search.{all_from_yields_List}
use borrow.Author.Tests.{le-leb, lt-leb}
use Rattle.records.specs.Sheet.{sheet_value}
use Rattle.judge.specs.Limits.{remainder_within, held_within}
use Rattle.judge.proofs.limits.Laws.{all-listed}
use Rattle.judge.proofs.limits.held_within.Goals as goal

pub returns-in-None : goal.returns-in-None
unfolding held_within
returns-in-None c = rw c.in-None.is

pub returns-then-n-le-MAX_LIVE : goal.returns-then-n-le-MAX_LIVE
unfolding held_within
returns-then-n-le-MAX_LIVE c =
    let a = c.args in
    let p = remainder_within (sheet_value a.s) a.instants in
    rw (c.in-Some.is, le-leb _ _ c.if-n-le-MAX_LIVE.true)
    (all_from_yields_List p _ _ _ c.all.ensures.ran (YieldsList-from_slice (take c.in-Some.n a.h.remainders) (cc)) (λ x b q k. search (rules, tests))
    ∙ all-listed p (take c.in-Some.n a.h.remainders))

pub returns-else-n-le-MAX_LIVE : goal.returns-else-n-le-MAX_LIVE
unfolding held_within
returns-else-n-le-MAX_LIVE c = rw (c.in-Some.is, lt-leb _ _ c.if-n-le-MAX_LIVE.false)
