-- The rows are tidied, then the monitor beside its sheet is stored.
use Rattle.lent.proofs.live.Keeping.{can-put, kept_next}
use Rattle.lent.proofs.live.keep_next.Goals as goal

pub put_progress-requires : goal.put_progress-requires
put_progress-requires c = can-put c.args.progress c.args.next c.args.plan c.requires c.tidy.ensures

pub returns : goal.returns
returns c = kept_next c.args.progress c.args.next c.args.plan c.requires c.tidy.ensures c.put_progress.ensures
