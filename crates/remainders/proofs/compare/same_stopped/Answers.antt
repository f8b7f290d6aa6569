-- The loop stops at a clock of which they differ.
use Rattle.std.proofs.Common.{◌≡◌, sym, ◌∙◌, arith}
use Rattle.std.specs.Bool.{beq}
use borrow.Author.Tests.{not-true}
use Rattle.work.proofs.Below.{below-miss}
use Rattle.remainders.specs.Rows.{row_stop}
use Rattle.remainders.proofs.compare.same_stopped.Goals as goal

pub returns-then-is_stopped-flag_in : goal.returns-then-is_stopped-flag_in
returns-then-is_stopped-flag_in c =
    let tested : beq (row_stop c.args.rows.now c.args.x c.loop-k.k) (row_stop c.args.rows.now c.args.i c.loop-k.k) ≡ beq c.flag_in-is_stopped.result c.flag_in.result = cc in
    sym (below-miss _ c.args.clocks c.loop-k.k (omega arith) (tested ∙ not-true _ c.if-is_stopped-flag_in.true))
