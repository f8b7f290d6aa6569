-- The number of the on-tag against that of the due.
use Rattle.std.proofs.Common.{sym}
use Rattle.remainders.proofs.obligation.Laws.{held_number, number-met}
use Rattle.remainders.proofs.obligation.is_met.Goals as goal

pub returns-then-ticks_at : goal.returns-then-ticks_at
returns-then-ticks_at c =
    let t = c.clock_tag in
    rw (sym c.ticks_at.ensures, c.if-ticks_at.true) (number-met c.tag_number.result c.args.o.number (held_number t.type_inv c.tag_number.ensures t.ensures))
