-- `observe`: those held are stored in rows, observed there, and read back. Assumes nothing.
use Rattle.std.proofs.Common.{◌≡◌, ℕ, ap, not, subst, Bool, List}
use Rattle.std.proofs.lemmas.List.{length-replicate}
use Rattle.lines.specs.declared.plan.Plan.{Plan}
use Rattle.lines.specs.Plan.{numbers}
use Rattle.judge.specs.declared.progress.Progress.{Progress}
use Rattle.judge.specs.declared.progress.InstantResult.{InstantResult}
use Rattle.judge.specs.Progress.{Takes}
use Rattle.judge.proofs.progress.Laws.{has_room, prepares}
use Rattle.judge.proofs.monitor.Called.{observed-outside}
use Rattle.judge.proofs.monitor.InRows.{refused-rows, answered-rows}
use Rattle.judge.proofs.monitor.observe.Goals as goal

pub returns-then-not-is_within : goal.returns-then-not-is_within
returns-then-not-is_within c = observed-outside c.args.monitor c.args.bytes.now c.refuse.result c.is_within.ensures (ap not c.if-not-is_within.true) c.refuse.ensures

-- ---- the monitor, within its limits: its plan, those held stored
pub plan_of-plan-requires : goal.plan_of-plan-requires
plan_of-plan-requires c = prepares c.args.monitor c.if-not-is_within.ensures (length-replicate {A = ℕ} numbers 0)

pub store_held-requires : goal.store_held-requires
store_held-requires c = has_room c.args.monitor c.if-not-is_within.ensures (length-replicate {A = ℕ} 4608 0)

-- ---- the instant observed, by the monitor as it is kept
taken-by : {k l : Progress} → k ≡ l → {p : Plan} {bytes lines : List ℕ} {t : InstantResult} {a b : List ℕ} {list : List Bool} → Takes k p bytes lines t a b list → Takes l p bytes lines t a b list
taken-by e {p} {bytes} {lines} {t} {a} {b} {list} = subst (λ (k : Progress). Takes k p bytes lines t a b list) e

pub returns-in-Err : goal.returns-in-Err
returns-in-Err c =
    refused-rows c.args.monitor c.if-not-is_within.ensures c.plan_of-plan.ensures c.store_held.ensures
    (taken-by c.progress_of-progress.ensures c.observe_rows-told.ensures) c.in-Err.is c.refuse-in-Err.ensures

pub returns-in-Ok : goal.returns-in-Ok
returns-in-Ok c =
    answered-rows c.args.monitor c.if-not-is_within.ensures c.plan_of-plan.ensures c.store_held.ensures
    (taken-by c.progress_of-progress.ensures c.observe_rows-told.ensures) c.in-Ok.is c.read_back.ensures
