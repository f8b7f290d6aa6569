-- `push_word`: a byte more at each turn. Assumes nothing.
use Rattle.std.proofs.Common.{length-take-le, arith}
use lib.Seq.{take_all}
use Rattle.text.proofs.build.Laws.{nothing, next-byte, alike}
use Rattle.text.proofs.build.push_word.Goals as goal

pub loop-byte-init : goal.loop-byte-init
loop-byte-init c = nothing _ (omega arith)

pub push-next-requires : goal.push-next-requires
push-next-requires c = omega (arith, c.loop-byte.invariant.len, length-take-le c.loop-byte.byte-index c.args.word.now (omega arith))

pub loop-byte-preserved : goal.loop-byte-preserved
loop-byte-preserved c = next-byte c.args.word.now c.loop-byte.byte-index c.loop-byte-test.true c.loop-byte.invariant c.push-next.ensures

pub returns : goal.returns
returns c = alike c.loop-byte.invariant (take_all c.loop-byte.byte-index c.args.word.now c.loop-byte-test.false)
