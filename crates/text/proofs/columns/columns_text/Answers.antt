-- `columns_text`: a refused sheet has one line, and the instants of the log follow a sheet that was read; the buffer has room for the longest text. Assumes nothing.
use Rattle.std.proofs.Common.{length, ap, ◌∙◌, arith}
use Rattle.records.proofs.word.Bytes.{each-byte}
use Rattle.text.specs.Text.{refusal_line}
use Rattle.text.proofs.Room.{columns-room}
use Rattle.text.proofs.put.Laws.{put-bytes, put-end, put-once}
use Rattle.text.proofs.columns.Laws.{text-refused, text-read, clocks-read}
use Rattle.text.proofs.columns.columns_text.Goals as goal

pub put_instants-requires : goal.put_instants-requires
put_instants-requires c =
    let text = text-read _ c.args.log.now c.read_sheet.ensures c.in-Ok.is in
    record {
      clocks = clocks-read _ c.args.log.now c.read_sheet.ensures c.in-Ok.is (each-byte c.args.sheet.now (λ i. (c.type_inv.sheet i).fits));
      room = omega (arith, columns-room c.args.sheet.now c.args.log.now (each-byte c.args.log.now (λ i. (c.type_inv.log i).fits)), ap length text);
    }

pub returns-in-Err : goal.returns-in-Err
returns-in-Err c =
    let text = text-refused _ c.args.log.now c.read_sheet.ensures c.in-Err.is in
    let line = c.refusal_line.ensures.1 ∙ ap refusal_line c.from.ensures in
    let room = columns-room c.args.sheet.now c.args.log.now (each-byte c.args.log.now (λ i. (c.type_inv.log i).fits)) in
    rw text (put-once (refusal_line _) _ (omega (arith, room, ap length text)) (put-bytes c.put_line.ensures line) (put-end c.put_line.ensures line))

pub returns-in-Ok : goal.returns-in-Ok
returns-in-Ok c = rw (text-read _ c.args.log.now c.read_sheet.ensures c.in-Ok.is) c.put_instants.ensures
