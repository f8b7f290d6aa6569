-- One row more.
use Rattle.lines.proofs.sorted.Rows.{part-more}
use Rattle.lines.proofs.sorted.put_part.Goals as goal

pub returns : goal.returns
returns c = rw c.if-not-belongs.false (part-more c.args.from c.args.count c.put_words.ensures)
