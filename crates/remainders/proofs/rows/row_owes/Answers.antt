-- It stops at the one that it found, or has found none.
use Rattle.std.proofs.Common.{◌≡◌, not, sym, ap, ◌∙◌, arith}
use Rattle.work.proofs.Listing.{any-listed, any_of}
use Rattle.remainders.specs.View.{same_stored}
use Rattle.remainders.specs.Rows.{row_count, part_number}
use Rattle.remainders.proofs.obligation.Laws.{same_fields}
use Rattle.remainders.proofs.rows.row_owes.Goals as goal

pub returns-then-eq : goal.returns-then-eq
returns-then-eq c = sym (any_of _ _ _ c.loop-j.j (omega (arith, c.row_count-j-end.ensures)) (ap (same_stored c.args.o) (sym c.obligation_at.ensures) ∙ sym (same_fields c.args.o c.obligation_at.result) ∙ sym c.eq.ensures ∙ c.if-eq.true))

pub returns : goal.returns
returns c =
    let a = c.args in
    let e : row_count a.rows.now a.i (part_number a.part) ≡ c.loop-j.j = omega (arith, c.row_count-j-end.ensures) in
    sym (rw e (any-listed _ _ c.loop-j.j ∙ ap not c.loop-j.invariant))
