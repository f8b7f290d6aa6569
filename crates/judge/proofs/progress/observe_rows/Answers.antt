-- `observe_rows`: the refusals are tried in turn, and an accepted instant is worked on. Assumes nothing.
use Rattle.std.proofs.Common.{◌≡◌, ◌∙◌, ℕ, true, List, Result, refl, sym, ap, arith}
use Rattle.records.specs.declared.instant.Instant.{Instant}
use Rattle.records.specs.declared.refusal.Refusal.{Refusal}
use Rattle.records.specs.declared.sheet.Sheet.{Sheet}
use Rattle.records.specs.Outcome.{outcome_of}
use Rattle.records.specs.Instant.{instant_read}
use Rattle.records.specs.Types.{IsBytes}
use Rattle.records.specs.Next.{read_next}
use Rattle.records.proofs.next.Laws.{done-room}
use Rattle.records.proofs.word.Bytes.{each-byte}
use Rattle.lines.specs.declared.plan.Plan.{Plan}
use Rattle.judge.specs.declared.progress.Progress.{Progress}
use Rattle.judge.specs.Limits.{Limited}
use Rattle.judge.specs.Progress.{rows_monitor, Ready}
use Rattle.judge.specs.Promises.{Called}
use Rattle.judge.proofs.monitor.Called.{called-unread, blank-tags, called}
use Rattle.judge.proofs.monitor.InRows.{answered-refused, answered-within}
use Rattle.judge.proofs.progress.Laws.{limited, eight-rows}
use Rattle.judge.proofs.progress.observe_rows.Goals as goal

-- by a sheet that the plan is of: the monitor is within its limits, and the instant was read by the sheet's clocks
module _ (k : Progress) (p : Plan) (lines rows : List ℕ) (s : Sheet) (ready : Ready s k p lines rows) where
  within : Limited (rows_monitor s k rows) true
  within = limited s k rows ready.value ready.limits

  reads : (bytes : List ℕ) (x : Result Instant Refusal) → outcome_of x ≡ instant_read (read_next p.clocks k.instants bytes) → outcome_of x ≡ instant_read (read_next s.clocks k.instants bytes)
  reads bytes x e = e ∙ ap (λ (n : ℕ). instant_read (read_next n k.instants bytes)) ready.planned.as_many

pub work_instant-requires : goal.work_instant-requires
work_instant-requires c = (c.requires, (done-room _ _ _ c.read_next.ensures c.in-Ok.is, omega arith))

pub returns-in-Err : goal.returns-in-Err
returns-in-Err c =
    let a = c.args in
    record {
      room = c.requires;
      refused = λ n f. (refl, refl);
      moved = λ x f. answered-refused (sym f);
      called = λ s ready.
          called-unread (rows_monitor s a.progress a.rows.now) a.bytes.now (within a.progress a.plan a.lines.now a.rows.now s ready) refl (reads a.progress a.plan a.lines.now a.rows.now s ready a.bytes.now _ c.read_next.ensures) c.in-Err.is refl;
      tags = λ s ready x f. answered-refused (sym f);
      ready = λ s ready. ready;
    }

pub returns-in-Ok : goal.returns-in-Ok
returns-in-Ok c =
    let a = c.args in
    let k = a.progress in
    let is : IsBytes a.bytes.now = each-byte a.bytes.now (λ i. (c.type_inv.bytes i).fits) in
    let told = c.work_instant.ensures in
    let observes : (s : Sheet) (ready : Ready s k a.plan a.lines.now a.rows.now) → Called (rows_monitor s k a.rows.now) a.bytes.now (record { reply = c.work_instant.result.reply; monitor = rows_monitor s c.work_instant.result.progress c.work_instant.new.rows })
    = λ s ready. called (rows_monitor s k a.rows.now) a.bytes.now (within k a.plan a.lines.now a.rows.now s ready) refl (reads k a.plan a.lines.now a.rows.now s ready a.bytes.now _ c.read_next.ensures) c.in-Ok.is
    is (eight-rows a.rows.now k.from k.count) (told.accepts s ready)
    in
    record {
      room = told.working;
      refused = λ n f. absurd (told.answered n f);
      moved = λ x f. told.moved;
      called = observes;
      tags = λ s ready x f. rw (told.accepts s ready).tags (blank-tags (rows_monitor s k a.rows.now) a.bytes.now (within k a.plan a.lines.now a.rows.now s ready) refl (reads k a.plan a.lines.now a.rows.now s ready a.bytes.now _ c.read_next.ensures) c.in-Ok.is is);
      ready = λ s ready. record { value = ready.value; planned = ready.planned; limits = answered-within (observes s ready) (told.accepts s ready).said };
    }
