-- `sheet_size`: a law for each way through the loop. Assumes nothing.
use Rattle.std.proofs.Common.{refl, arith}
use Rattle.records.proofs.sheet.Writing.{sheet-length, size-more, size-all, size_small}
use Rattle.records.proofs.sheet.sheet_size.Goals as goal

pub loop-i-init : goal.loop-i-init
loop-i-init c = record { small = omega arith; left = sheet-length c.args.s }

pub loop-i-preserved : goal.loop-i-preserved
loop-i-preserved c = record {
  small = omega (arith, size_small _ _ c.line_size-size.ensures);
  left = size-more c.args.s c.args.s.count _ _ _ _ c.loop-i.invariant.left c.loop-i-test.true refl c.line_size-size.ensures;
}

pub returns : goal.returns
returns c = size-all c.args.s c.args.s.count _ _ c.loop-i.invariant.left c.loop-i-test.false
