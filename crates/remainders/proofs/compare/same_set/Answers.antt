-- The counts differ, or the loop stops at one that isn't there, or each is there.
use Rattle.std.proofs.Common.{◌≡◌, sym, ap, ◌∙◌, arith, ℕ}
use Rattle.tesl.specs.Lists.{any, below}
use Rattle.remainders.specs.declared.obligation.Obligation as code
use Rattle.remainders.specs.View.{same_stored}
use Rattle.remainders.specs.Rows.{row_count, row_set, part_number}
use Rattle.remainders.proofs.compare.Laws.{has_at, set-count, set-misses, set-equal}
use Rattle.remainders.proofs.compare.same_set.Goals as goal

pub returns-then-row_count-n : goal.returns-then-row_count-n
returns-then-row_count-n c = set-count _ _ _ _ (λ q. omega arith)

pub returns-then-not-row_owes : goal.returns-then-not-row_owes
returns-then-not-row_owes c =
    let a = c.args in
    let tested : has_at a.rows.now a.x a.i (part_number a.part) c.loop-j.j ≡ c.row_owes.result
    = sym (c.row_owes.ensures ∙ ap (λ (o : code.Obligation). any (same_stored o) (row_set a.rows.now a.x (part_number a.part))) c.obligation_at.ensures)
    in
    set-misses a.rows.now a.x a.i (part_number a.part) c.loop-j.j (omega (arith, c.row_count-n.ensures)) (tested ∙ c.if-not-row_owes.true)

pub returns : goal.returns
returns c =
    let a = c.args in
    let e : row_count a.rows.now a.i (part_number a.part) ≡ c.loop-j.j = omega (arith, c.row_count-n.ensures) in
    set-equal a.rows.now a.x a.i (part_number a.part) (omega arith) (ap (λ (n : ℕ). below n (has_at a.rows.now a.x a.i (part_number a.part))) e ∙ c.loop-j.invariant)
