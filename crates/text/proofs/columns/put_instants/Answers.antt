-- `put_instants`: the record at each place is read; refused, its line is the last, and else the lines of its tags are put. Assumes nothing.
use Rattle.std.proofs.Common.{ap, ◌∙◌, arith}
use Rattle.records.specs.Types.{IsBytes}
use Rattle.records.proofs.word.Bytes.{each-byte}
use Rattle.records.proofs.record.Span.{the-record}
use Rattle.text.specs.Text.{refusal_line}
use Rattle.text.proofs.put.Laws.{put-bytes, put-end}
use Rattle.text.proofs.columns.Laws.{span-bytes, refused-room, told-refused, reading-refused, tags-room, few-taken, told_more, told-end}
use Rattle.text.proofs.columns.put_instants.Goals as goal

pub put_line-requires : goal.put_line-requires
put_line-requires c =
    let w = c.loop-at.invariant in
    let h = the-record _ _ c.record_bytes-record.ensures c.loop-at-test.true in
    record {
      len = c.refusal_line.ensures.0;
      room = rw (c.refusal_line.ensures.1, c.from.ensures) (refused-room w c.requires h (reading-refused w c.requires h c.read_next.ensures c.in-Err.is));
    }

pub returns-in-Err : goal.returns-in-Err
returns-in-Err c =
    let w = c.loop-at.invariant in
    let h = the-record _ _ c.record_bytes-record.ensures c.loop-at-test.true in
    let line = c.refusal_line.ensures.1 ∙ ap refusal_line c.from.ensures in
    told-refused w c.requires h (reading-refused w c.requires h c.read_next.ensures c.in-Err.is) (put-bytes c.put_line.ensures line) (put-end c.put_line.ensures line)

pub put_tags-end-requires : goal.put_tags-end-requires
put_tags-end-requires c =
    let h = the-record _ _ c.record_bytes-record.ensures c.loop-at-test.true in
    let bytes : IsBytes c.record_bytes-record.result.now = span-bytes c.args.log.now c.loop-at.at (each-byte c.args.log.now (λ i. (c.type_inv.log i).fits)) c.record_bytes-record.ensures in
    record { clocks = c.requires.clocks; room = tags-room c.loop-at.invariant c.requires h c.read_next.ensures c.in-Ok.is bytes }

pub overflow_add-taken : goal.overflow_add-taken
overflow_add-taken c =
    let h = the-record _ _ c.record_bytes-record.ensures c.loop-at-test.true in
    omega (arith, few-taken c.loop-at.invariant c.requires h c.read_next.ensures c.in-Ok.is)

pub loop-at-smaller : goal.loop-at-smaller
loop-at-smaller c = omega (arith, (the-record _ _ c.record_bytes-record.ensures c.loop-at-test.true).some)

pub loop-at-preserved : goal.loop-at-preserved
loop-at-preserved c =
    let h = the-record _ _ c.record_bytes-record.ensures c.loop-at-test.true in
    let bytes : IsBytes c.record_bytes-record.result.now = span-bytes c.args.log.now c.loop-at.at (each-byte c.args.log.now (λ i. (c.type_inv.log i).fits)) c.record_bytes-record.ensures in
    told_more c.loop-at.invariant c.requires h c.read_next.ensures c.in-Ok.is bytes c.put_tags-end.ensures.stored c.put_tags-end.ensures.ends

pub returns : goal.returns
returns c = told-end c.loop-at.invariant c.requires c.loop-at-test.false
