-- A tick byte is read as the definition's tests say. Assumes nothing.
use borrow.Author.Rules.{rules}
use Rattle.records.specs.Instant.{tick_of}
use Rattle.records.proofs.instant.TickTryFromU8.try_from.Goals as goal

pub returns-in-0 : goal.returns-in-0
unfolding tick_of
returns-in-0 c = search rules

pub returns-in-1 : goal.returns-in-1
unfolding tick_of
returns-in-1 c = search rules

pub returns-in-2 : goal.returns-in-2
unfolding tick_of
returns-in-2 c = search rules
