-- Its parts are cleared in turn.
use Rattle.lent.proofs.unused.Laws.{unused-cleared}
use Rattle.lent.proofs.unused.clear_unused.Goals as goal

pub returns : goal.returns
returns c = unused-cleared c.args.plan c.requires.few c.clear_sets.ensures c.clear_leads.ensures c.clear_part.ensures
