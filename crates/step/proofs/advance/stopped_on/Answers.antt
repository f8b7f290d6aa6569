-- All eight are stored. Assumes nothing.
use Rattle.std.proofs.Common.{arith}
use Rattle.step.proofs.advance.Effects.{either_listed}
use Rattle.step.proofs.advance.stopped_on.Goals as goal

pub returns : goal.returns
returns c =
    let w = c.loop-k.invariant in
    record { stays = w.stays; stopped = either_listed _ _ 8 _ (λ k h. (w.places k (omega arith)).0); flags = λ k h. (w.places k (omega arith)).1 }
