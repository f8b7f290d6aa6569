-- It stops at a clock that falls.
use Rattle.std.proofs.Common.{◌≡◌, false, sym, arith, rules, w16}
use mir.Val.{SFits}
use Rattle.std.proofs.lemmas.Int.{ints}
use Rattle.std.specs.Int.Signed.{le_z}
use Rattle.tesl.specs.Run.{tag_in}
use Rattle.work.proofs.Below.{below-miss}
use Rattle.lines.proofs.tags.none_falls.Goals as goal

pub returns-then-tags-k : goal.returns-then-tags-k
returns-then-tags-k c =
    let f : SFits w16 (tag_in c.args.was c.loop-k.k) = search rules in
    let g : SFits w16 (tag_in c.args.tags c.loop-k.k) = search rules in
    let falls : le_z (tag_in c.args.was c.loop-k.k) (tag_in c.args.tags c.loop-k.k) ≡ false = grind (arith, ints) in
    sym (below-miss _ c.args.clocks c.loop-k.k (omega arith) falls)
