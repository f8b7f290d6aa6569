-- `clocks_below`: the test of all elements is the definition's. Assumes nothing.
use Rattle.std.proofs.Common.{rules, ◌<◌, ℕ, take}
use Rattle.std.specs.List.{All}
use Rattle.std.specs.Bool.{Decides}
use Rattle.records.proofs.line.Laws.{all-below}
use Rattle.records.proofs.line.clocks_below.Goals as goal

pub returns : goal.returns
returns c =
    let d : Decides c.all.result (All (λ (x : ℕ). x < c.args.clocks) (take c.args.n c.args.body.now)) = search rules in
    all-below c.args.clocks (take c.args.n c.args.body.now) c.all.result d
