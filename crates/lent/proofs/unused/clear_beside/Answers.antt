-- The other side is cleared, the rows after those held, and what these don't use in their own rows.
use Rattle.lent.proofs.unused.Sides.{beside-cleared}
use Rattle.lent.proofs.unused.clear_beside.Goals as goal

pub returns : goal.returns
returns c =
    beside-cleared c.args.plan c.args.count c.live_in-n.ensures c.requires.side c.requires.small c.clear_rows.ensures c.clear_rows-2.ensures c.clear_each.ensures
