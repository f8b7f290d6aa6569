-- `put_remainder`: its parts are stored one after the other. Assumes nothing.
use Rattle.judge.proofs.stored.Laws.{remainder-put}
use Rattle.judge.proofs.stored.put_remainder.Goals as goal

pub returns : goal.returns
returns c = remainder-put c.args.r c.requires.1 c.put_obligations.ensures c.put_obligations-2.ensures c.put_leads.ensures c.put_stopped.ensures
