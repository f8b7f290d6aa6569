-- `watch_text`: a refused sheet has one line, and the replies to the log follow an opening that answers; the buffer has room for the longest text. Assumes nothing.
use Rattle.std.proofs.Common.{length, ap, ◌∙◌, arith}
use Rattle.text.specs.Text.{refusal_line}
use Rattle.text.proofs.Room.{watch-room}
use Rattle.text.proofs.put.Laws.{put-bytes, put-end, put-once}
use Rattle.text.proofs.watch.Laws.{text-refused, text-opened, opened-ready}
use Rattle.text.proofs.watch.watch_text.Goals as goal

pub put_replies-requires : goal.put_replies-requires
put_replies-requires c = opened-ready _ _ _ c.open-given.ensures c.in-Ok.is _ (omega (arith, watch-room c.args.sheet.now c.args.log.now))

pub returns-in-Err : goal.returns-in-Err
returns-in-Err c =
    let text = text-refused _ c.args.log.now _ c.open-given.ensures c.in-Err.is in
    let line = c.refusal_line.ensures.1 ∙ ap refusal_line c.from.ensures in
    rw text (put-once (refusal_line _) _ (omega (arith, watch-room c.args.sheet.now c.args.log.now, ap length text)) (put-bytes c.put_line.ensures line) (put-end c.put_line.ensures line))

pub returns-in-Ok : goal.returns-in-Ok
returns-in-Ok c = rw (text-opened _ c.args.log.now _ c.open-given.ensures c.in-Ok.is) c.put_replies.ensures
