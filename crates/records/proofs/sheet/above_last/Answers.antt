-- `above_last`: the last line of those at the first n places is the one at n - 1. Assumes nothing.
use Rattle.std.proofs.Common.{◌∙◌}
use borrow.Author.Tests.{eq-eqb}
use Rattle.records.proofs.order.Keys.{above-none, above-some}
use Rattle.records.proofs.sheet.above_last.Goals as goal

pub returns-then-n-eq0 : goal.returns-then-n-eq0
returns-then-n-eq0 c = eq-eqb c.args.n 0 c.if-n-eq0.true ∙ above-none _ _ _ c.if-n-eq0.true

pub returns-else-n-eq0 : goal.returns-else-n-eq0
returns-else-n-eq0 c = c.is_above.ensures ∙ rw c.line_at.ensures (above-some _ _ _ c.if-n-eq0.false)
