-- Below is not at or above.
use Rattle.remainders.proofs.obligation.Laws.{held_number, number-late}
use Rattle.remainders.proofs.obligation.is_late.Goals as goal

pub returns : goal.returns
returns c = number-late c.tag_number.result c.args.o.number (held_number c.clock_tag.type_inv c.tag_number.ensures c.clock_tag.ensures)
