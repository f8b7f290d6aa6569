-- Each place is that of the state.
use Rattle.std.proofs.Common.{rules}
use Rattle.records.specs.Line.{blank_line}
use Rattle.lent.specs.State.{state_slot}
use Rattle.lent.proofs.Ranges.{made-listed}
use Rattle.lent.proofs.state.lines_in.Goals as goal

pub returns : goal.returns
returns c = made-listed (state_slot c.args.n c.args.state.now) _ (λ i y q k. search rules) blank_line c.from_fn.ensures.items
