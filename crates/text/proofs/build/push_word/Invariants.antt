-- `push_word`: the bytes before this one are added. Assumes nothing.
use Rattle.std.proofs.Common.{take}
use Rattle.text.specs.Built.{Adds}
use Rattle.text.proofs.build.push_word.Given as goal

abbrev pub invariant-loop-byte : goal.invariant-loop-byte
invariant-loop-byte l = Adds l.fn.t (take l.byte-index l.word) l.next
