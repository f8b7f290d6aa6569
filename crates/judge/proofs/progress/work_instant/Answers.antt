-- `work_instant`: the instant is worked on, on the rows, and those found say the answer. Assumes nothing.
use Rattle.std.proofs.Common.{◌∙◌, refl}
use Rattle.records.specs.Sheet.{sheet_value}
use Rattle.judge.specs.Progress.{rows_monitor}
use Rattle.judge.proofs.monitor.Limits.{limits_of, workable}
use Rattle.judge.proofs.monitor.InRows.{answered-refused}
use Rattle.judge.proofs.progress.Laws.{leads-rows, accepts-rows, other-side}
use Rattle.judge.proofs.progress.work_instant.Goals as goal

pub returns : goal.returns
returns c =
    let k = c.args.progress in
    let a = c.args.rows.now in
    let p = c.requires.0 in
    let r = c.work_rows-next.ensures in
    record {
      working = record { size = r.stays.size ∙ p.size; side = other-side p.side; small = r.small; lists = r.lists };
      moved = record { to = refl; stays = r.stays; flags = r.flags };
      answered = λ n f. answered-refused f;
      accepts = λ s ready.
          let m = rows_monitor s k a in
          let can = workable m (limits_of m ready.value ready.limits) c.requires.1.0 in
          let v = sheet_value s in
          accepts-rows s k a c.args.room c.args.instant c.work_rows-next.result _ _ (r.works v ready.planned (leads-rows s k a can.leads)) r.small (c.say_rows.ensures v);
    }
