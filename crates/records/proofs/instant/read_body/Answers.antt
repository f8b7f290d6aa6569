-- Each way through the code is a law of `body_read`. Assumes nothing.
use mathlib.Core.Path.{◌∙◌, sym}
use native.Mathlib.Omega.{arith}
use Rattle.records.proofs.record.Laws.{part-from}
use Rattle.records.proofs.instant.Laws.{read-13, read-14, read-clocks}
use Rattle.records.proofs.instant.read_body.Goals as goal

pub returns-then-not-is_instant_kind : goal.returns-then-not-is_instant_kind
returns-then-not-is_instant_kind c = read-13 _ _ _ (sym c.if-not-is_instant_kind.ensures)

pub returns-then-body-from : goal.returns-then-body-from
returns-then-body-from c = read-14 _ _ _ (sym c.if-not-is_instant_kind.ensures) (λ e. c.if-body-from.true (omega arith))

pub returns : goal.returns
returns c =
    let l = read-clocks c.args.clocks c.args.kind c.args.body.now (sym c.if-not-is_instant_kind.ensures) (omega arith) in
    c.read_cells.ensures ∙ rw (part-from, c.form_of-form.ensures, c.number_length-before.ensures) l
