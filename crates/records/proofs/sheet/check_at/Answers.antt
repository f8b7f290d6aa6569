-- `check_at`: a line's own checks, and then its place in the order. Assumes nothing.
use Rattle.std.proofs.Common.{sym}
use Rattle.std.proofs.lemmas.Result.{err_from_is_err_and}
use Rattle.records.proofs.sheet.Writing.{own-refused, own-passed}
use Rattle.records.proofs.sheet.check_at.Goals as goal

pub returns-in_err-check_line : goal.returns-in_err-check_line
returns-in_err-check_line c =
    let p = err_from_is_err_and c.from_residual.result c.from_residual.ensures.1 in
    let e = c.in_err-check_line.ensures in
    rw (p.1, p.2) (record { answer = own-refused c.args.order c.args.s c.args.i c.args.spent c.args.l e.0; value = e.1 })

pub returns-then-not-in_order : goal.returns-then-not-in_order
returns-then-not-in_order c =
    let e = c.in_ok-check_line.ensures in
    record { answer = rw (own-passed c.args.order c.args.s c.args.i c.args.spent c.args.l e.0, sym c.if-not-in_order.ensures); value = e.1 }

pub returns : goal.returns
returns c =
    let e = c.in_ok-check_line.ensures in
    record { answer = rw (own-passed c.args.order c.args.s c.args.i c.args.spent c.args.l e.0, sym c.if-not-in_order.ensures); value = e.1 }
