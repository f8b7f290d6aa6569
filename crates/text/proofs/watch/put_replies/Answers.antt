-- `put_replies`: the record at each place is observed; refused, its line is the last, and else the line of its answer is put. Assumes nothing.
use Rattle.std.proofs.Common.{ap, ◌∙◌, arith}
use Rattle.records.proofs.record.Span.{the-record}
use Rattle.text.specs.Text.{refusal_line}
use Rattle.text.proofs.put.Laws.{put-bytes, put-end}
use Rattle.text.proofs.watch.Laws.{refused-room, told-refused, answered-room, told_more, told-end}
use Rattle.text.proofs.watch.put_replies.Goals as goal

pub put_line-requires : goal.put_line-requires
put_line-requires c =
    let h = the-record _ _ c.record_bytes-record.ensures c.loop-at-test.true in
    record {
      len = c.refusal_line.ensures.0;
      room = rw (c.refusal_line.ensures.1, c.from.ensures) (refused-room c.loop-at.invariant c.requires h c.observe-given.ensures c.in-Err.is);
    }

pub returns-in-Err : goal.returns-in-Err
returns-in-Err c =
    let h = the-record _ _ c.record_bytes-record.ensures c.loop-at-test.true in
    let line = c.refusal_line.ensures.1 ∙ ap refusal_line c.from.ensures in
    told-refused c.loop-at.invariant c.requires h c.observe-given.ensures c.in-Err.is (put-bytes c.put_line.ensures line) (put-end c.put_line.ensures line)

pub put_line-end-requires : goal.put_line-end-requires
put_line-end-requires c =
    let h = the-record _ _ c.record_bytes-record.ensures c.loop-at-test.true in
    record { len = c.answer_line.ensures.0; room = rw c.answer_line.ensures.1 (answered-room c.loop-at.invariant c.requires h c.observe-given.ensures c.in-Ok.is) }

pub loop-at-smaller : goal.loop-at-smaller
loop-at-smaller c = omega (arith, (the-record _ _ c.record_bytes-record.ensures c.loop-at-test.true).some)

pub loop-at-preserved : goal.loop-at-preserved
loop-at-preserved c =
    let h = the-record _ _ c.record_bytes-record.ensures c.loop-at-test.true in
    told_more c.loop-at.invariant c.requires h c.observe-given.ensures c.in-Ok.is
    (put-bytes c.put_line-end.ensures c.answer_line.ensures.1) (put-end c.put_line-end.ensures c.answer_line.ensures.1)

pub returns : goal.returns
returns c = told-end c.loop-at.invariant c.requires c.loop-at-test.false
