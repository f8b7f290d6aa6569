-- `read_lines`: a law for each way through the loop. Assumes nothing.
use Rattle.std.proofs.Common.{sym, arith}
use Rattle.std.proofs.lemmas.Result.{err_from_is_err_and}
use Rattle.records.proofs.word.Bytes.{each-byte}
use Rattle.records.proofs.sheet.Reading.{reading-start, reading-end, reading-torn, reading-fits, reading-refused, reading-room, reading-spent, reading-17, reading-more}
use Rattle.records.proofs.sheet.Writing.{sporadic-one}
use Rattle.records.proofs.sheet.read_lines.Goals as goal

pub loop-at-init : goal.loop-at-init
loop-at-init c = record { within = omega arith; reading = reading-start _ _ _ _ c.blank_sheet-sheet.ensures }

pub returns-in_default : goal.returns-in_default
returns-in_default c = reading-torn _ _ _ _ _ _ _ c.loop-at.invariant.reading c.loop-at-test.true c.in_default.ensures

pub overflow_add-end : goal.overflow_add-end
overflow_add-end c = omega (arith, reading-fits _ _ _ _ _ _ _ c.loop-at.invariant.reading c.in-Some.ensures)

pub slice_bounds-read_line-end : goal.slice_bounds-read_line-end
slice_bounds-read_line-end c = reading-fits _ _ _ _ _ _ _ c.loop-at.invariant.reading c.in-Some.ensures

pub returns-in_err-line : goal.returns-in_err-line
returns-in_err-line c =
    let p = err_from_is_err_and c.from_residual.result c.from_residual.ensures.1 in
    rw (p.1, p.2) (reading-refused _ _ _ _ _ _ _ c.loop-at.invariant.reading c.in-Some.ensures c.in_err-line.ensures)

pub returns-then-not-in_order : goal.returns-then-not-in_order
returns-then-not-in_order c =
    reading-17 _ _ _ _ _ _ _ c.loop-at.invariant.reading c.in-Some.ensures c.in_ok-line.ensures (each-byte c.args.bytes.now (λ i. (c.type_inv.bytes i).fits)) (sym c.if-not-in_order.ensures)

pub with_line-sheet-requires : goal.with_line-sheet-requires
with_line-sheet-requires c = reading-room _ _ _ _ _ _ _ c.loop-at.invariant.reading c.in-Some.ensures c.in_ok-line.ensures

pub overflow_add-spent : goal.overflow_add-spent
overflow_add-spent c = omega (arith, reading-spent _ _ _ _ _ _ _ c.loop-at.invariant.reading, sporadic-one c.in-Some.record.kind, c.sporadic_of-spent.ensures)

pub loop-at-preserved : goal.loop-at-preserved
loop-at-preserved c = record {
  within = reading-fits _ _ _ _ _ _ _ c.loop-at.invariant.reading c.in-Some.ensures;
  reading =
      reading-more _ _ _ _ _ _ _ c.loop-at.invariant.reading c.in-Some.ensures c.in_ok-line.ensures (each-byte c.args.bytes.now (λ i. (c.type_inv.bytes i).fits)) (sym c.if-not-in_order.ensures)
      c.with_line-sheet.ensures c.sporadic_of-spent.ensures;
}

pub returns : goal.returns
returns c = reading-end _ _ _ _ _ _ _ c.loop-at.invariant.reading c.loop-at-test.false
