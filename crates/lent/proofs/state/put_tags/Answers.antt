-- Each tag is stored in its place.
use Rattle.std.proofs.Common.{arith, pos, rules}
use Rattle.remainders.proofs.rows.Placing.{listed-is}
use Rattle.lent.proofs.state.put_tags.Goals as goal

pub returns : goal.returns
returns c =
    let w = c.loop-k.invariant in
    record { stays = w.stays; tags = listed-is (pos 0) _ 8 _ (search rules) (λ k h. (w.places k (omega arith)).0); raw = λ k h. (w.places k (omega arith)).1 }
