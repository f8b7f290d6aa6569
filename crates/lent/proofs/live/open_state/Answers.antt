-- What was read decides the reply; the words are cleared, and the monitor of no instant is stored in them, part by part.
use Rattle.std.proofs.Common.{ℕ}
use Rattle.std.proofs.Math.ListN.{length-replicate}
use Rattle.lines.specs.Plan.{numbers}
use Rattle.records.proofs.word.Bytes.{each-byte}
use Rattle.judge.proofs.monitor.Opened.{sheet-taken, prepares-read}
use Rattle.lent.proofs.live.Opening.{blank-row, opened-state}
use Rattle.lent.proofs.live.open_state.Goals as goal

pub begin-begun-requires : goal.begin-begun-requires
begin-begun-requires c =
    (prepares-read _ _ c.args.bytes.now c.read_sheet.ensures c.in_ok-sheet.was (each-byte c.args.bytes.now (λ i. (c.type_inv.bytes i).fits)) (length-replicate {A = ℕ} numbers 0), blank-row c.told-state c.clear_rows.ensures)

pub returns : goal.returns
returns c =
    let g = c.begin-begun.ensures in
    opened-state (sheet-taken _ _ c.args.bytes.now c.read_sheet.ensures c.in_ok-sheet.was) g.plan c.clear_rows.ensures g.rows c.clear_beside.ensures c.put_format.ensures c.put_sheet.ensures g.progress c.put_progress.ensures
    (each-byte c.args.bytes.now (λ i. (c.type_inv.bytes i).fits)) g.said
