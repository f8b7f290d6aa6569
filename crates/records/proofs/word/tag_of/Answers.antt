-- A word of 16 bits is read by the remainder, worked out in 64. Assumes nothing.
use native.Mathlib.Omega.{arith}
use mir.Syntax.{w16, w64}
use Rattle.records.proofs.word.Laws.{read-by-remainder}
use Rattle.records.proofs.word.tag_of.Goals as goal

pub returns : goal.returns
returns c = rw c.from.ensures (read-by-remainder w16 w64 (omega arith) c.args.raw (omega arith))
