-- Each tag is that of the state.
use Rattle.std.proofs.Common.{pos, rules}
use Rattle.lent.specs.State.{state_tag}
use Rattle.lent.proofs.Ranges.{made-listed}
use Rattle.lent.proofs.state.tags_in.Goals as goal

pub returns : goal.returns
returns c = made-listed (state_tag c.args.state.now) _ (λ i y q k. search rules) (pos 0) c.from_fn.ensures.items
