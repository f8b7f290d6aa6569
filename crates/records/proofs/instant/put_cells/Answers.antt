-- One clock more is stored, and at the end all are. Assumes nothing.
use borrow.Author.Rules.{rules}
use Rattle.records.proofs.instant.Stored.{cell-more, clocks-stored}
use Rattle.records.proofs.instant.put_cells.Goals as goal

pub loop-i-preserved : goal.loop-i-preserved
loop-i-preserved c = search (rules, cell-more _ _ _ _ _ _ c.loop-i.invariant)

pub returns : goal.returns
returns c = search (rules, clocks-stored)
