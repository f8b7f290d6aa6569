-- `from_rows`: once exhausted no row is read. Assumes nothing.
use Rattle.judge.proofs.stored.Held.{found-rows}
use Rattle.judge.proofs.stored.from_rows.Goals as goal

pub returns : goal.returns
returns c = found-rows c.args.count c.copy_rows.result c.requires.small (rw c.unwrap_or.ensures at c.copy_rows.ensures)
