-- The tests are made in turn, and the sheet is prepared before the rows are looked at.
use Rattle.std.proofs.Common.{arith}
use borrow.Author.Tests.{ltb-true, ltb-false}
use Rattle.lent.proofs.live.Finding.{was-refused, was-ok, found-none, found-refused, found-many, found-prepares, found-side, found-not, found-one}
use Rattle.lent.proofs.live.find_state.Goals as goal

pub returns-then-not-is_state : goal.returns-then-not-is_state
returns-then-not-is_state c = found-none c.args.state.now c.is_state.ensures c.if-not-is_state.true

-- ---- where the sheet was looked at
pub returns-in_err-ok : goal.returns-in_err-ok
returns-in_err-ok c =
    rw c.from_residual.ensures (found-refused c.args.state.now c.sheet_in-sheet.ensures c.check_sheet.ensures (was-refused _ c.in_err-ok.ensures.value).1)

pub returns-then-many : goal.returns-then-many
returns-then-many c =
    found-many c.args.state.now c.sheet_in-sheet.ensures c.check_sheet.ensures (was-ok _ c.in_ok-ok.ensures.value) c.progress_in-progress.ensures (omega (arith, ltb-true))

pub plan_of-plan-requires : goal.plan_of-plan-requires
plan_of-plan-requires c = found-prepares c.args.state.now c.sheet_in-sheet.ensures c.check_sheet.ensures (was-ok _ c.in_ok-ok.ensures.value) c.requires

pub rows_within-requires : goal.rows_within-requires
rows_within-requires c =
    found-side c.args.state.now c.sheet_in-sheet.ensures c.check_sheet.ensures (was-ok _ c.in_ok-ok.ensures.value) c.progress_in-progress.ensures c.is_state.ensures c.if-not-is_state.false

pub returns-then-not-rows_within : goal.returns-then-not-rows_within
returns-then-not-rows_within c =
    found-not c.args.state.now c.sheet_in-sheet.ensures c.check_sheet.ensures (was-ok _ c.in_ok-ok.ensures.value) c.progress_in-progress.ensures c.is_state.ensures c.if-not-is_state.false c.plan_of-plan.ensures (omega (arith, ltb-false)) c.rows_within.ensures c.if-not-rows_within.true

pub returns : goal.returns
returns c =
    found-one c.args.state.now c.sheet_in-sheet.ensures c.check_sheet.ensures (was-ok _ c.in_ok-ok.ensures.value) c.progress_in-progress.ensures c.is_state.ensures c.if-not-is_state.false c.plan_of-plan.ensures (omega (arith, ltb-false)) c.rows_within.ensures c.told-state c.if-not-rows_within.false
