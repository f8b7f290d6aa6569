-- `next_above`: no line stands below 0, and all stand below the line count. Assumes nothing.
use Rattle.std.proofs.Common.{◌≡◌, arith}
use Rattle.records.proofs.sort.Laws.{next_start}
use Rattle.records.proofs.sort.next_above.Goals as goal

pub loop-i-init : goal.loop-i-init
loop-i-init c = next_start _ _

pub returns : goal.returns
returns c =
    let e : c.loop-i.i ≡ c.args.s.count = omega arith in
    rw e at c.loop-i.invariant
