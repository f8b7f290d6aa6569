-- `push_decimal`: 64 bits hold numbers of at most 20 digits. Assumes nothing.
use Rattle.std.proofs.Common.{arith}
use Rattle.text.proofs.build.Digits.{length-decimal}
use Rattle.text.proofs.build.push_decimal.Goals as goal

pub push_digits-requires : goal.push_digits-requires
push_digits-requires c = omega (arith, length-decimal c.args.n c.ranges.n.fits)

pub returns : goal.returns
returns c = (length-decimal c.args.n c.ranges.n.fits, c.push_digits.ensures)
