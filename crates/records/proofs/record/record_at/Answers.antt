-- Past the end there is no record, and else it is the first of the rest. Assumes nothing.
use mathlib.Core.Path.{◌∙◌, sym}
use native.Mathlib.Omega.{arith}
use Rattle.records.proofs.record.Laws.{torn-past, part-from, at_front}
use Rattle.records.proofs.record.record_at.Goals as goal

pub returns : goal.returns
returns c = c.first_record.ensures ∙ rw (c.in_ok-get.ensures.lookup.0.2, part-from) (at_front c.args.bytes.now c.args.at)

pub returns-in_err-get : goal.returns-in_err-get
returns-in_err-get c =
    let h = c.in_err-get.ensures.lookup in
    c.from_residual.ensures ∙ sym (torn-past c.args.bytes.now c.args.at (omega arith))
