-- `observe_log`: what was read decides; the monitor is begun in rows, the records are observed there, and it is read back. Assumes nothing.
use Rattle.std.proofs.Common.{ℕ, ap, ◌∙◌}
use Rattle.std.proofs.lemmas.List.{length-replicate}
use Rattle.lines.specs.Plan.{numbers}
use Rattle.judge.specs.Monitor.{blank_monitor}
use Rattle.records.proofs.word.Bytes.{each-byte}
use Rattle.judge.proofs.monitor.Opened.{prepares-read, opened_rows, fresh-rows}
use Rattle.logs.proofs.log.Opening.{log-refused, log-observed}
use Rattle.logs.proofs.log.observe_log.Goals as goal

pub returns-in-Err : goal.returns-in-Err
returns-in-Err c = log-refused _ _ c.read_sheet.ensures c.in-Err.is (c.blank_monitor.ensures ∙ ap blank_monitor c.blank_sheet.ensures) _

pub begin-begun-requires : goal.begin-begun-requires
begin-begun-requires c =
    (prepares-read _ _ _ c.read_sheet.ensures c.in-Ok.is (each-byte c.args.sheet.now (λ i. (c.type_inv.sheet i).fits)) (length-replicate {A = ℕ} numbers 0), fresh-rows)

pub returns-in-Ok : goal.returns-in-Ok
returns-in-Ok c =
    let o = opened_rows _ _ _ c.read_sheet.ensures c.in-Ok.is (each-byte c.args.sheet.now (λ i. (c.type_inv.sheet i).fits)) c.begin-begun.ensures in
    log-observed _ _ c.read_sheet.ensures c.in-Ok.is o c.observe_records-last.ensures c.read_back.ensures
