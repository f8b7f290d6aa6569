-- What is stored of the set, obligation by obligation. Assumes nothing.
use Rattle.std.proofs.Common.{◌≡◌, ℕ, List, ◌∷◌, ◌+◌, ◌*◌, ◌-◌, ◌<◌, ◌≤◌, length, sym, ap, ◌∙◌, arith}
use mathlib.Core.Option.{some}
use Rattle.records.specs.Lists.{listed_from}
use Rattle.records.proofs.Lists.{listed_cons, listed-end}
use Rattle.work.specs.View.{filled_of}
use Rattle.remainders.specs.declared.obligation.Obligation as code
use Rattle.remainders.specs.Rows.{part_number, part_words, all_words, row_count, row_obligation, Between, PartStays}
use Rattle.remainders.proofs.rows.Laws.{part-inside, stays_all, stays_put, stays_wide, stays_on, part_stays, place_same, set_next, set-put, count-put}
use Rattle.step.specs.Left.{left_in}
use Rattle.step.proofs.left.Laws.{left-start, left_end, left-done, left-unfit, left-still}
use Rattle.step.proofs.advance.put_left.Invariants.{rest}
use Rattle.step.proofs.advance.put_left.Goals as goal

pub loop-j-init : goal.loop-j-init
unfolding listed_from
loop-j-init c =
    let a = c.args in
    let n = row_count a.rows.now a.i (part_number a.part) in
    let e : n ≡ n - 0 = omega arith in
    record {
      fewer = omega arith;
      left = left-start (left_in (part_number a.part) (filled_of a.ticks a.tags)) (ap (listed_from (row_obligation a.rows.now a.i (part_number a.part)) 0) e);
      stays = stays_all a.to (part_words * (part_number a.part)) (part_words * (part_number a.part) + part_words) a.rows.now;
    }

-- place j of row i, which stays, is the next
next : {was rows : List ℕ} {i to part : ℕ} (j n : ℕ) {o : code.Obligation} → Between was i to → PartStays to part was rows → part < 2 → j < n → n ≤ 8 → o ≡ row_obligation rows i part j
    → rest was i part n j ≡ o ∷ rest was i part n (j + 1)
next {was} {rows} {i} {to} {part} j n between stays h l few e =
    let same = place_same (part_stays stays i part h (λ p x y e l m. between.apart e)) j (omega arith) in
    listed_cons (row_obligation was i part) n j l ∙ ap (λ (o : code.Obligation). o ∷ rest was i part n (j + 1)) (sym (e ∙ same))

pub loop-j-preserved-in-Done : goal.loop-j-preserved-in-Done
loop-j-preserved-in-Done c =
    let v = c.loop-j.invariant in
    let x = c.requires in
    record {
      fewer = omega arith;
      left = left-done _ _ _ v.left (next c.loop-j.j _ x.0 v.stays (part-inside c.args.part) (omega (arith, c.row_count-j-end.ensures)) x.1 c.obligation_at.ensures) c.left_of.ensures c.in-Done.is;
      stays = v.stays;
    }

pub returns-in-Unfit : goal.returns-in-Unfit
returns-in-Unfit c =
    let v = c.loop-j.invariant in
    let x = c.requires in
    record {
      stays = v.stays;
      set = left-unfit _ _ _ v.left (next c.loop-j.j _ x.0 v.stays (part-inside c.args.part) (omega (arith, c.row_count-j-end.ensures)) x.1 c.obligation_at.ensures) c.left_of.ensures c.in-Unfit.is;
      few = λ t. let z : ◌≡◌ {A = ℕ} 0 1 = cc in absurd (omega arith);
    }

pub loop-j-preserved : goal.loop-j-preserved
loop-j-preserved c =
    let v = c.loop-j.invariant in
    let x = c.requires in
    let p = c.put_obligation.ensures in
    let part = (part_number c.args.part) in
    record {
      fewer = omega arith;
      left = rw (set_next p (omega (arith, c.row_count-j-end.ensures, x.1))) (left-still _ _ _ v.left (next c.loop-j.j _ x.0 v.stays (part-inside c.args.part) (omega (arith, c.row_count-j-end.ensures)) x.1 c.obligation_at.ensures) c.left_of.ensures c.in-Still.is);
      stays = stays_on v.stays (stays_wide p.stays (part_words * part) (part_words * part + part_words) (omega arith) (omega arith));
    }

pub returns : goal.returns
returns c =
    let a = c.args in
    let v = c.loop-j.invariant in
    let rows = c.loop-j.rows in
    let count = c.loop-j.count in
    let inside = part-inside c.args.part in
    let h : count ≤ 8 = omega (arith, c.row_count-j-end.ensures, c.requires.1) in
    let into : a.to < 72 = omega arith in
    let size : length rows ≡ all_words = v.stays.size ∙ c.requires.0.size in
    rw (c.put_word.ensures, c.start.ensures, c.count_word.ensures)
    record {
      stays = stays_put v.stays (part_words * (part_number a.part)) count (omega arith) (omega arith) (omega arith);
      set = ap some (set-put rows a.to (part_number a.part) count size into inside h) ∙ left_end _ _ _ v.left (listed-end _ _ c.loop-j.j (omega (arith, c.row_count-j-end.ensures)));
      few = λ t. rw (count-put rows a.to (part_number a.part) count size into inside) h;
    }
