-- No clock below k falls.
use Rattle.std.proofs.Common.{◌≡◌, ℕ, true}
use Rattle.std.specs.Int.Signed.{le_z}
use Rattle.tesl.specs.Lists.{below}
use Rattle.tesl.specs.Run.{tag_in}
use Rattle.lines.proofs.tags.none_falls.Given as goal

abbrev pub invariant-loop-k : goal.invariant-loop-k
invariant-loop-k l = below l.k (λ (k : ℕ). le_z (tag_in l.was k) (tag_in l.tags k)) ≡ true
