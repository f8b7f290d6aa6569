-- Each way through the code is a law of `read_next`. Assumes nothing.
use mathlib.Core.Path.{refl}
use Rattle.std.proofs.lemmas.Result.{err_from_is_err_and}
use Rattle.records.proofs.next.Laws.{next-unread, next-full, next-other, next-taken}
use Rattle.records.proofs.next.read_next.Goals as goal

pub returns-in_err-instant : goal.returns-in_err-instant
returns-in_err-instant c =
    let p = err_from_is_err_and c.from_residual.result c.from_residual.ensures.1 in
    rw (p.1, p.2) (next-unread c.args.clocks c.args.held c.args.bytes.now c.in_err-instant.ensures)

pub returns-then-held-ge-MAX_INSTANTS : goal.returns-then-held-ge-MAX_INSTANTS
returns-then-held-ge-MAX_INSTANTS c = next-full _ _ _ c.in_ok-instant.ensures c.if-held-ge-MAX_INSTANTS.true

pub returns-then-not-is_next : goal.returns-then-not-is_next
returns-then-not-is_next c = next-other _ _ _ c.in_ok-instant.ensures c.if-held-ge-MAX_INSTANTS.false c.if-not-is_next.ensures refl

pub returns : goal.returns
returns c = next-taken _ _ _ c.in_ok-instant.ensures c.if-held-ge-MAX_INSTANTS.false c.if-not-is_next.ensures refl
