-- An entry is counted where it owes; past the end none is left.
use Rattle.std.proofs.Common.{arith, ap}
use Rattle.theory.specs.Step.{bit}
use Rattle.panel.proofs.Laws.{count-next, end-count}
use Rattle.panel.proofs.owing.Goals as goal
use Rattle.panel.proofs.owing.Goals.{then-owes, else-owes}

pub loop-r-preserved : goal.loop-r-preserved
loop-r-preserved c =
    let small = c.loop-r.invariant.0 in
    let count = c.loop-r.invariant.1 in
    elim c.if-owes.branch [
      | then-owes w ↦ (omega (arith, w.n-is, small), count-next _ _ _ _ _ _ _ _ c.loop-r-test.true c.owes.ensures count (omega (arith, w.n-is, ap bit w.if-owes.true)))
      | else-owes w ↦ (omega (arith, w.n-is, small), count-next _ _ _ _ _ _ _ _ c.loop-r-test.true c.owes.ensures count (omega (arith, w.n-is, ap bit w.if-owes.false)))
    ]

pub returns : goal.returns
returns c = let e = end-count c.args.clock c.args.list.now c.loop-r.r-index c.loop-r-test.false in omega (arith, e, c.loop-r.invariant.1)
