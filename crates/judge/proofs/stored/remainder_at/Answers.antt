-- `remainder_at`: its parts are those of the row that the sheet uses. Assumes nothing.
use Rattle.judge.proofs.stored.Laws.{remainder-read}
use Rattle.judge.proofs.stored.remainder_at.Goals as goal

pub returns : goal.returns
returns c = remainder-read _ c.requires.few c.row_count-owed.ensures c.obligations_at.ensures c.row_count-counting.ensures c.obligations_at-2.ensures c.leads_at.ensures c.stopped_at.ensures
