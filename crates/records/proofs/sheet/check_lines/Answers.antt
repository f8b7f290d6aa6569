-- `check_lines`: a law for each way through the loop. Assumes nothing.
use Rattle.std.proofs.Common.{◌∙◌, ap, refl, arith}
use Rattle.std.proofs.lemmas.Result.{err_from_is_err_and}
use Rattle.records.specs.Inner.{sporadic_of}
use Rattle.records.proofs.sheet.Writing.{check-start, check-end, check-refused, check-more, sporadic-one}
use Rattle.records.proofs.sheet.check_lines.Goals as goal

pub loop-i-init : goal.loop-i-init
loop-i-init c = record { few = omega arith; checking = check-start _ _ }

pub returns-in_err-check_at : goal.returns-in_err-check_at
returns-in_err-check_at c =
    let p = err_from_is_err_and c.from_residual.result c.from_residual.ensures.1 in
    rw (p.1, p.2) (check-refused _ _ _ _ c.loop-i.invariant.checking c.loop-i-test.true _ refl c.in_err-check_at.ensures)

pub loop-i-preserved : goal.loop-i-preserved
loop-i-preserved c = record {
  few = omega (arith, c.sporadic_of-spent.ensures, sporadic-one c.kind_of.result);
  checking = check-more _ _ _ _ c.loop-i.invariant.checking c.loop-i-test.true _ refl c.in_ok-check_at.ensures (c.sporadic_of-spent.ensures ∙ ap sporadic_of c.kind_of.ensures);
}

pub returns : goal.returns
returns c = check-end _ _ _ _ c.loop-i.invariant.checking (omega arith) c.loop-i-test.false
