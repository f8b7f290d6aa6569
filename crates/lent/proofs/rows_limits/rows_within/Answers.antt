-- A case of the count each.
use Rattle.std.proofs.Common.{◌∙◌, arith}
use borrow.Author.Tests.{lt-leb}
use Rattle.lent.proofs.rows_limits.Laws.{held_none, held-many, held-live}
use Rattle.lent.proofs.rows_limits.rows_within.Goals as goal

pub returns-in-None : goal.returns-in-None
returns-in-None c = let a = c.args in held_none a.instants a.rows.now a.from c.in-None.is

pub returns-then-n-le-MAX_LIVE : goal.returns-then-n-le-MAX_LIVE
returns-then-n-le-MAX_LIVE c = let a = c.args in held-live a.instants a.rows.now a.from c.in-Some.is (omega arith) c.each_row_within.ensures

pub returns-else-n-le-MAX_LIVE : goal.returns-else-n-le-MAX_LIVE
returns-else-n-le-MAX_LIVE c v lines planned = let a = c.args in lt-leb _ _ (omega arith) ∙ held-many a.instants a.rows.now a.from c.in-Some.is (omega arith) v lines planned
