-- What the rows held become, row by row: one more found, one found already, or none. Assumes nothing.
use mathlib.Core.List.{List, ◌∷◌}
use mathlib.Core.Logic.{⊎_elim}
use mathlib.Core.Path.{◌≡◌, sym, ap, ◌∙◌, subst}
use Prim.Native.Nat.{ℕ, ◌+◌, ◌<◌}
use native.Mathlib.Nat.{eq-or-lt_of_le}
use native.Mathlib.Omega.{arith}
use lib.Dec.{T}
use Rattle.records.specs.Sheet.{SheetValue}
use Rattle.records.proofs.Lists.{listed_cons, listed-end, listed-snoc, length-listed}
use Rattle.tesl.specs.Lists.{all}
use Rattle.tesl.specs.Remainder.{Remainder}
use Rattle.work.specs.View.{used_part}
use Rattle.work.specs.Lines.{small_leads}
use Rattle.work.specs.Work.{advanced}
use Rattle.work.proofs.Listing.{listed_same, one_of}
use Rattle.step.specs.declared.advance.Next.{Next}
use Rattle.step.specs.declared.advance.Next.TheVariants.{Onto}
use Rattle.remainders.specs.Rows.{row_of, rows_of, FewOwed, FlagsKept, RowsStay}
use Rattle.step.specs.Filling.{filled_instant, begun_in, next_of, GatheredFor}
use Rattle.remainders.proofs.rows.Laws.{rows-stay-all, rows-stay-one, rows-stay-wide, rows-stay-on}
use Rattle.remainders.proofs.rows.Laws.{few_words}
use Rattle.step.proofs.apply.Laws.{row_stays, held-few, held-row, applied-start, applied-end, applied-fails, applied-over, applied-there, applied-full, applied-more}
use Rattle.step.proofs.apply.apply_filling.Invariants.{rest}
use Rattle.step.proofs.apply.apply_filling.Goals as goal
use Rattle.step.proofs.apply.apply_filling.Goals.{After-advance_row}

pub loop-k-init : goal.loop-k-init
loop-k-init c =
    let a = c.args in
    record {
      fewer = c.requires.fewer;
      more = omega arith;
      stays = rows-stay-all _ _ _;
      small = c.requires.small_found;
      flags = λ f. f;
      applied = λ v asked small. applied-start a.room v _ _ asked.begins _ a.n _;
    }

pub advance_row-requires : goal.advance_row-requires
advance_row-requires c =
    let x = c.requires in
    let w = c.loop-k.invariant in
    let k = c.loop-k.k in
    let h : k < c.args.n = omega arith in
    record {
      between = record { size = w.stays.size ∙ x.size; row = omega (arith, x.held, x.sides.one); into = omega (arith, w.fewer, x.sides.other); apart = x.sides.apart k c.loop-k.live (omega (arith, x.held)) (omega (arith, w.fewer)) };
      few = held-few x.sides w.stays (omega (arith, w.fewer)) k (omega (arith, x.held)) (x.small k h);
      ordered = x.ordered;
      begun = x.begun;
    }

-- after a turn: row to + live is new, every other row stays
module _ (c : After-advance_row) where
  abbrev last : List ℕ
  last = c.advance_row.new.rows

  small : FewOwed last c.args.to c.loop-k.live
  small j l = few_words c.loop-k.rows last (c.args.to + j) (λ p m. c.advance_row.ensures.stays.same (c.args.to + j) p (omega arith) (λ e x y. omega arith)) (c.loop-k.invariant.small j l)

  stays : RowsStay c.args.to (c.loop-k.live + 1) c.args.rows.now last
  stays = rows-stay-on c.loop-k.invariant.stays (rows-stay-one c.advance_row.ensures.stays c.args.to (c.loop-k.live + 1) (omega arith) (omega arith))

  flags : FlagsKept c.args.rows.now last
  flags f = c.advance_row.ensures.flags (c.loop-k.invariant.flags f)

  found : (v : SheetValue) → rows_of v last c.args.to c.loop-k.live ≡ rows_of v c.loop-k.rows c.args.to c.loop-k.live
  found v = listed_same c.loop-k.live (λ j l. ap (used_part v) (row_stays c.advance_row.ensures.stays (c.args.to + j) (c.loop-k.invariant.small j l) (λ e. omega arith)))

  next : (v : SheetValue) → rest v c.args.rows.now c.args.from c.args.n c.loop-k.k ≡ used_part v (row_of c.args.rows.now (c.args.from + c.loop-k.k)) ∷ rest v c.args.rows.now c.args.from c.args.n (c.loop-k.k + 1)
  next v = listed_cons (λ j. used_part v (row_of c.args.rows.now (c.args.from + j))) c.args.n c.loop-k.k (omega arith)

  became : {r : Next} → c.advance_row.result ≡ r → (v : SheetValue) → GatheredFor v c.args.plan c.args.f → T (all small_leads (rows_of v c.args.rows.now c.args.from c.args.n))
      → next_of v r last (c.args.to + c.loop-k.live) ≡ advanced v (filled_instant c.args.f) (begun_in c.args.f) (used_part v (row_of c.args.rows.now (c.args.from + c.loop-k.k)))
  became g v asked leads =
      let x = c.requires in
      let k = c.loop-k.k in
      let h : k < c.args.n = omega arith in
      let e = held-row x.sides c.loop-k.invariant.stays (omega (arith, c.loop-k.invariant.fewer)) k (omega (arith, x.held)) (x.small k h) in
      ap (λ (r : Next). next_of v r last (c.args.to + c.loop-k.live)) (sym g)
      ∙ c.advance_row.ensures.row v asked (subst (λ (r : Remainder). T (small_leads (used_part v r))) (sym e) (one_of (λ j. used_part v (row_of c.args.rows.now (c.args.from + j))) small_leads c.args.n leads c.loop-k.k (omega arith)))
      ∙ ap (λ (r : Remainder). advanced v (filled_instant c.args.f) (begun_in c.args.f) (used_part v r)) e

pub loop-k-preserved-in-Fails : goal.loop-k-preserved-in-Fails
loop-k-preserved-in-Fails c =
    let t = (goal.at.loop-k-preserved-in-Fails c).After-advance_row in
    let w = c.loop-k.invariant in
    record {
      fewer = w.fewer;
      more = w.more;
      stays = stays t;
      small = small t;
      flags = flags t;
      applied = λ v asked leads. applied-fails _ _ _ _ (w.applied v asked leads) (next t v) (found t v) (became t c.in-Fails.is v asked leads);
    }

pub returns-in-Over : goal.returns-in-Over
returns-in-Over c =
    let t = (goal.at.returns-in-Over c).After-advance_row in
    let w = c.loop-k.invariant in
    record {
      more = omega (arith, w.more, w.fewer);
      stays = rows-stay-wide (stays t) 33 (omega (arith, w.fewer));
      small = tt;
      flags = flags t;
      applied = λ v asked leads. applied-over _ _ _ _ (w.applied v asked leads) (next t v) (found t v) (became t c.in-Over.is v asked leads);
    }

-- a row that went on
more : (t : After-advance_row) → t.advance_row.result ≡ Onto → FewOwed (last t) t.args.to (t.loop-k.live + 1)
more t e j l = ⊎_elim (λ (x : j ≡ t.loop-k.live). rw x (t.advance_row.ensures.few e)) (λ (h : j < t.loop-k.live). small t j h) (eq-or-lt_of_le (omega arith))

pub loop-k-preserved-then-is_duplicate : goal.loop-k-preserved-then-is_duplicate
loop-k-preserved-then-is_duplicate c =
    let t = (goal.at.loop-k-preserved-then-is_duplicate c).After-advance_row in
    let m = c.is_duplicate in
    let w = c.loop-k.invariant in
    record {
      fewer = w.fewer;
      more = w.more;
      stays = stays t;
      small = small t;
      flags = flags t;
      applied = λ v asked leads. applied-there _ _ _ _ (w.applied v asked leads) (next t v) (found t v) (became t c.in-Onto.is v asked leads) (m.ensures v (sym asked.as_many) asked.leading) c.if-is_duplicate.true;
    }

pub returns-then-room-live : goal.returns-then-room-live
returns-then-room-live c =
    let t = (goal.at.returns-then-room-live c).After-advance_row in
    let m = c.is_duplicate in
    let w = c.loop-k.invariant in
    record {
      more = omega (arith, w.more, w.fewer);
      stays = rows-stay-wide (stays t) 33 (omega (arith, w.fewer));
      small = tt;
      flags = flags t;
      applied = λ v asked leads. applied-full _ _ _ _ (w.applied v asked leads) (next t v) (found t v) (became t c.in-Onto.is v asked leads) (m.ensures v (sym asked.as_many) asked.leading) c.if-is_duplicate.false (omega (arith, length-listed (λ j. used_part v (row_of (last t) (c.args.to + j))) c.loop-k.live));
    }

pub loop-k-preserved : goal.loop-k-preserved
loop-k-preserved c =
    let t = (goal.at.loop-k-preserved c).After-advance_row in
    let m = c.is_duplicate in
    let w = c.loop-k.invariant in
    let live = c.loop-k.live in
    record {
      fewer = omega (arith, c.requires.sized);
      more = omega (arith, w.more);
      stays = rows-stay-wide (stays t) (live + 1 + 1) (omega arith);
      small = more t c.in-Onto.is;
      flags = flags t;
      applied = λ v asked leads. rw (listed-snoc (λ j. used_part v (row_of (last t) (c.args.to + j))) live) (applied-more _ _ _ _ (w.applied v asked leads) (next t v) (found t v) (became t c.in-Onto.is v asked leads) (m.ensures v (sym asked.as_many) asked.leading) c.if-is_duplicate.false (omega (arith, length-listed (λ j. used_part v (row_of (last t) (c.args.to + j))) live)));
    }

pub returns : goal.returns
returns c =
    let w = c.loop-k.invariant in
    record {
      more = omega (arith, w.more);
      stays = w.stays;
      small = (w.fewer, w.small);
      flags = w.flags;
      applied = λ v asked leads. sym (w.applied v asked leads ∙ applied-end _ _ _ _ (listed-end _ c.args.n c.loop-k.k (omega arith)));
    }
