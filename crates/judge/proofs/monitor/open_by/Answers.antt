-- `open_by`: what was read decides the reply and the monitor beside it, which is begun in rows and read back. Assumes nothing.
use Rattle.std.proofs.Common.{ℕ, ap, ◌∙◌}
use Rattle.std.proofs.lemmas.List.{length-replicate}
use Rattle.lines.specs.Plan.{numbers}
use Rattle.judge.specs.Monitor.{blank_monitor, refused_call}
use Rattle.records.proofs.word.Bytes.{each-byte}
use Rattle.judge.proofs.monitor.Opened.{prepares-read, opened-refused, opened_rows, opened-done, fresh-rows}
use Rattle.judge.proofs.monitor.open_by.Goals as goal

pub returns-in-Err : goal.returns-in-Err
returns-in-Err c =
    opened-refused _ _ _ c.read_by.ensures c.in-Err.is _ (c.refuse.ensures ∙ ap (refused_call _) (c.blank_monitor.ensures ∙ ap blank_monitor c.blank_sheet.ensures))

pub begin-begun-requires : goal.begin-begun-requires
begin-begun-requires c =
    (prepares-read _ _ _ c.read_by.ensures c.in-Ok.is (each-byte c.args.bytes.now (λ i. (c.type_inv.bytes i).fits)) (length-replicate {A = ℕ} numbers 0), fresh-rows)

pub returns-in-Ok : goal.returns-in-Ok
returns-in-Ok c =
    let o = opened_rows _ _ _ c.read_by.ensures c.in-Ok.is (each-byte c.args.bytes.now (λ i. (c.type_inv.bytes i).fits)) c.begin-begun.ensures in
    opened-done _ _ _ c.read_by.ensures c.in-Ok.is o c.read_back.ensures
