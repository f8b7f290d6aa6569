-- The obligation is there, has no room, or is stored last. Assumes nothing.
use Rattle.std.proofs.Common.{◌≡◌, List, ℕ, ◌+◌, ◌*◌, ◌<◌, ◌≤◌, sym, ap, ◌∙◌, length, arith}
use mathlib.Core.Option.{some}
use borrow.Author.Tests.{lt-ltb, le-ltb}
use Rattle.records.proofs.Lists.{length-listed}
use Rattle.theory.specs.Adding.{added_to}
use Rattle.remainders.specs.Rows.{part_number, part_words, row_count, row_obligation, row_set}
use Rattle.remainders.proofs.rows.Laws.{part-inside, stays_all, stays_wide, stays_put, set_next, set-put, count-put}
use Rattle.step.proofs.advance.add_row.Goals as goal

counted : (rows : List ℕ) (i part : ℕ) → length (row_set rows i part) ≡ row_count rows i part
counted rows i part = length-listed (row_obligation rows i part) (row_count rows i part)

pub returns-then-row_owes : goal.returns-then-row_owes
unfolding added_to
returns-then-row_owes c = record { stays = stays_all _ _ _ _; set = simp (sym c.row_owes.ensures ∙ c.if-row_owes.true); few = c.requires.few }

pub returns-then-n-ge8 : goal.returns-then-n-ge8
unfolding added_to
returns-then-n-ge8 c =
    let a = c.args in
    let k : 8 ≤ length (row_set a.rows.now a.i (part_number a.part)) = omega (arith, counted a.rows.now a.i (part_number a.part), c.row_count-n.ensures) in
    record { stays = stays_all _ _ _ _; set = simp (sym c.row_owes.ensures ∙ c.if-row_owes.false, le-ltb _ _ k); few = c.requires.few }

pub returns : goal.returns
unfolding added_to
returns c =
    let a = c.args in
    let n = c.row_count-n in
    let p = c.put_obligation.ensures in
    let m = c.put_obligation.new.rows in
    let size = p.stays.size ∙ c.requires.size in
    let k : length (row_set a.rows.now a.i (part_number a.part)) < 8 = omega (arith, counted a.rows.now a.i (part_number a.part), n.ensures) in
    let few : n.result + 1 ≤ 8 = omega arith in
    rw (c.put_word.ensures, c.start.ensures, c.count_word.ensures)
    record {
      stays = stays_put (stays_wide p.stays (part_words * (part_number a.part)) (part_words * (part_number a.part) + part_words) (omega arith) (omega arith)) (part_words * (part_number a.part)) _ (omega arith) (omega arith) (omega (arith, (part-inside c.args.part)));
      set = ap some (set-put m a.i (part_number a.part) (n.result + 1) size c.requires.row (part-inside c.args.part) few ∙ set_next p (omega arith)) ∙ simp (n.ensures, sym c.row_owes.ensures ∙ c.if-row_owes.false, lt-ltb _ _ k);
      few = rw (count-put m a.i (part_number a.part) (n.result + 1) size c.requires.row (part-inside c.args.part)) few;
    }
