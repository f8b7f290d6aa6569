-- The rows that were held are cleared, and what is found is no part of them.
use Rattle.lent.proofs.unused.Sides.{tidied}
use Rattle.lent.proofs.unused.tidy.Goals as goal

pub returns : goal.returns
returns c =
    tidied c.args.plan c.args.from c.args.was c.args.count c.requires.side c.requires.small c.live_in-n.ensures c.if-n-eq0.false c.requires.held c.clear_rows.ensures c.clear_found.ensures
