-- One place more, and all of them.
use Rattle.std.proofs.Common.{◌∙◌, arith}
use Rattle.remainders.specs.Rows.{part_number, row_obligation, clocks_asked}
use Rattle.lines.proofs.relevant.Laws.{named_more, named_end}
use Rattle.lines.proofs.relevant.flag_part.Goals as goal

pub loop-j-preserved : goal.loop-j-preserved
loop-j-preserved c =
    let a = c.args in
    named_more (clocks_asked (part_number a.part)) (row_obligation a.rows.now a.i (part_number a.part)) _ c.loop-j.j c.loop-j.flags c.loop-j.invariant (omega arith) (c.flag_stored-next.ensures ∙ rw c.obligation_at.ensures)

pub returns : goal.returns
returns c =
    let a = c.args in
    named_end (clocks_asked (part_number a.part)) (row_obligation a.rows.now a.i (part_number a.part)) _ c.loop-j.j c.loop-j.flags c.loop-j.invariant (omega arith)
