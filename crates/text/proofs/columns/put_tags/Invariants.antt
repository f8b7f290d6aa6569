-- `put_tags`: the lines of the tags before this one are put. Assumes nothing.
use Rattle.text.proofs.columns.Laws.{Listing}
use Rattle.text.proofs.columns.put_tags.Given as goal

abbrev pub invariant-loop-tag : goal.invariant-loop-tag
invariant-loop-tag l = Listing l.at l.fn.tags l.clocks l.fn.out l.out l.end l.tag-index
