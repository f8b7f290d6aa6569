-- `put_sheet`: the clocks record, and then a law for each way through the loop. Assumes nothing.
use Rattle.std.proofs.Common.{refl, arith, length-set}
use Rattle.records.proofs.sheet.Writing.{sheet-length, size-more, put-more, put_all, sheet-stored}
use Rattle.records.proofs.sheet.put_sheet.Goals as goal

pub put_head-requires : goal.put_head-requires
put_head-requires c = omega (arith, sheet-length c.args.s)

pub bounds-buffer-4 : goal.bounds-buffer-4
bounds-buffer-4 c = omega (arith, sheet-length c.args.s)

pub loop-i-init : goal.loop-i-init
loop-i-init c = record { room = simp length-set (omega arith); left = sheet-length c.args.s; stored = refl }

pub put_line-requires : goal.put_line-requires
put_line-requires c = omega (arith, size-more c.args.s c.args.s.count c.loop-i.i c.loop-i.at _ _ c.loop-i.invariant.left c.loop-i-test.true refl refl)

pub loop-i-preserved : goal.loop-i-preserved
loop-i-preserved c = record {
  room = omega arith;
  left = size-more c.args.s c.args.s.count c.loop-i.i c.loop-i.at _ _ c.loop-i.invariant.left c.loop-i-test.true refl c.line_size-at.ensures;
  stored = put-more c.args.s c.args.s.count c.loop-i.i c.loop-i.at _ _ c.loop-i.invariant.stored _ _ _ c.loop-i-test.true refl c.line_size-at.ensures c.put_line.ensures;
}

pub returns : goal.returns
returns c = put_all c.args.s c.args.s.count c.loop-i.i c.loop-i.at _ _ c.loop-i.invariant.stored c.loop-i-test.false (sheet-stored c.args.s c.args.buffer.now _ c.put_head.ensures)
