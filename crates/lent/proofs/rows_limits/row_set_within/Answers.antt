-- The count, then each place.
use Rattle.std.proofs.Common.{◌∙◌, ℕ, arith, ap}
use borrow.Author.Tests.{lt-leb}
use Rattle.tesl.specs.Lists.{below}
use Rattle.remainders.specs.Rows.{part_number}
use Rattle.lent.specs.RowsLimits.{place_fits}
use Rattle.lent.proofs.rows_limits.Laws.{set-many, set-few}
use Rattle.lent.proofs.rows_limits.row_set_within.Goals as goal

pub returns-then-n-le-MAX_OWED : goal.returns-then-n-le-MAX_OWED
returns-then-n-le-MAX_OWED c =
    let a = c.args in
    set-few a.clocks a.least a.most a.rows.now a.i (part_number a.part) (omega (arith, c.row_count-n.ensures))
    (c.row_owed_within.ensures ∙ ap (λ (k : ℕ). below k (place_fits a.clocks a.least a.most a.rows.now a.i (part_number a.part))) c.row_count-n.ensures)

pub returns-else-n-le-MAX_OWED : goal.returns-else-n-le-MAX_OWED
returns-else-n-le-MAX_OWED c =
    let a = c.args in
    lt-leb _ _ (omega arith) ∙ set-many a.clocks a.least a.most a.rows.now a.i (part_number a.part) (omega (arith, c.row_count-n.ensures))
