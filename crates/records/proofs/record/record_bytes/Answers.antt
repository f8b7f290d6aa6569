-- Past the end nothing remains, where no record is whole what remains, and a whole one lies within the bytes. Assumes nothing.
use native.Mathlib.Omega.{arith}
use mathlib.Core.Path.{sym}
use Rattle.records.proofs.record.Laws.{whole-at}
use Rattle.records.proofs.record.Span.{past-span, torn-span, whole-span}
use Rattle.records.proofs.record.record_bytes.Goals as goal

pub returns-then-bytes-at : goal.returns-then-bytes-at
returns-then-bytes-at c = past-span _ _ c.if-bytes-at.true

pub overflow_add-result-in-Some : goal.overflow_add-result-in-Some
overflow_add-result-in-Some c = omega (arith, (whole-at _ _ (sym c.in-Some.ensures)).fits)

pub slice_bounds-result-end-in-Some : goal.slice_bounds-result-end-in-Some
slice_bounds-result-end-in-Some c = (whole-at _ _ (sym c.in-Some.ensures)).fits

pub returns-in-None : goal.returns-in-None
returns-in-None c = torn-span _ _ (sym c.in-None.ensures)

pub returns-in-Some : goal.returns-in-Some
returns-in-Some c = whole-span _ _ (sym c.in-Some.ensures)
