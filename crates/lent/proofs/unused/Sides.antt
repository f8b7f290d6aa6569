-- Rows cleared one by one, those of a side, and those of both after an instant. Assumes nothing.
use Rattle.std.specs.Prelude.{None, Option, Some}
use mathlib.Core.Bool.{Bool, true, false}
use mathlib.Core.List.{List}
use mathlib.Core.Logic.{⊎_elim}
use mathlib.Core.Option.{some}
use mathlib.Core.Path.{◌≡◌, refl, ap, ◌∙◌}
use Prim.Native.Nat.{ℕ, ◌+◌, ◌-◌, ◌≤◌, ◌<◌}
use native.Mathlib.Nat.{eq-or-lt_of_le}
use native.Mathlib.Omega.{arith}
use lib.Dec.{ltb}
use borrow.Author.Tests.{ltb-true, ltb-false, ne_eqb}
use Rattle.records.specs.Sheet.{SheetValue}
use Rattle.work.specs.View.{used_part}
use Rattle.work.proofs.Listing.{listed_same}
use Rattle.lines.specs.declared.plan.Plan.{Plan}
use Rattle.remainders.specs.View.{live_count}
use Rattle.remainders.specs.Rows.{leads_part, stopped_part, width, height, word, row_of, FewInRow, FewOwed, CountsSame, RowsStay}
use Rattle.step.specs.Apply.{Side, found_in, FewOwedIn, built_rows}
use Rattle.step.specs.Fill.{worked_rows}
use Rattle.lent.specs.UnusedWords.{NothingInRow, NothingElse}
use Rattle.lent.specs.Cleared.{ClearedRows, ClearedRow, ClearedUnused, ClearedEach, ClearedBeside, ClearedFound, Tidied}
use Rattle.remainders.proofs.rows.Laws.{few-counts, counts-words, nothing-words, rows-stay-one, rows-stay-among, rows-stay-wide, rows-stay-on}
use Rattle.step.proofs.apply.Laws.{row_same}

-- row h is one of n rows from `first` on, or none of them
pub among-rows : {X : Type 0} (h first n : ℕ) → (first ≤ h → h < first + n → X) → ((first ≤ h → h < first + n → ⊥) → X) → X
among-rows {X} h first n among apart = by_tests (ltb h first) refl (ltb h (first + n)) refl
  where
    by_tests : (b : Bool) → ltb h first ≡ b → (d : Bool) → ltb h (first + n) ≡ d → X
    by_tests true e d g = apart (λ l m. omega (arith, ltb-true h first e))
    by_tests false e true g = among (ltb-false h first e) (ltb-true h (first + n) g)
    by_tests false e false g = apart (λ l m. omega (arith, ltb-false h (first + n) g))

-- ---- a row

-- whose words are the same
pub nothing-same : {p : Plan} (a b : List ℕ) (i : ℕ) → ((q : ℕ) → q < width → word b i q ≡ word a i q) → NothingInRow p a i → NothingInRow p b i
nothing-same a b i same n =
    record {
      sets = nothing-words a b i (λ q l. same q (omega arith)) n.sets;
      leads = λ k l f. same (leads_part + k) (omega arith) ∙ n.leads k l f;
      rest = λ q l m. same q m ∙ n.rest q l m;
    }

-- cleared after, or before, other rows
module _ {p : Plan} {i : ℕ} where
  cleared-on : (a b : List ℕ) {c : List ℕ} → FewInRow a i → ((q : ℕ) → q < width → word b i q ≡ word a i q) → ClearedRow p i b c → ClearedRow p i a c
  cleared-on a b few same w = record { count = λ part l. w.count part l ∙ counts-words a b i (λ q m. same q (omega arith)) part l; row = λ v lines planned. w.row v lines planned ∙ ap (used_part v) (row_same a b i few same); stops = λ k l. w.stops k l ∙ same (stopped_part + k) (omega (arith, p.few_clocks)); nothing = w.nothing }

  cleared-stays : (b c : List ℕ) {a : List ℕ} → FewInRow a i → ((q : ℕ) → q < width → word c i q ≡ word b i q) → ClearedRow p i a b → ClearedRow p i a c
  cleared-stays b c {a} few same w =
      record {
        count = λ part l. counts-words b c i (λ q m. same q (omega arith)) part l ∙ w.count part l;
        row = λ v lines planned. ap (used_part v) (row_same b c i (few-counts a b i w.count few) same) ∙ w.row v lines planned;
        stops = λ k l. same (stopped_part + k) (omega (arith, p.few_clocks)) ∙ w.stops k l;
        nothing = nothing-same b c i same w.nothing;
      }

-- ---- rows one by one: the first k are cleared
pub record Clearing (p : Plan) (from n : ℕ) (was rows : List ℕ) (k : ℕ) : Type 0 where
  pub turns : k ≤ n
  pub stays : RowsStay from k was rows
  pub each : (j : ℕ) → j < k → ClearedRow p (from + j) was rows

module _ {p : Plan} {from n : ℕ} {was : List ℕ} where
  module _ {rows : List ℕ} {k : ℕ} (small : FewOwed was from n) (w : Clearing p from n was rows k) (h : k < n) where
    -- the next row is as it was
    next_word : (q : ℕ) → q < width → word rows (from + k) q ≡ word was (from + k) q
    next_word q l = w.stays.same (from + k) q l (λ x y. omega arith)

    pub clearing-more : {after : List ℕ} → ClearedUnused p (from + k) rows after → Clearing p from n was after (k + 1)
    clearing-more {after} c =
        record {
          turns = omega arith;
          stays = rows-stay-on (rows-stay-wide w.stays (k + 1) (omega arith)) (rows-stay-one c.stays from (k + 1) (omega arith) (omega arith));
          each = λ j l. ⊎_elim
              (λ (e : j ≡ k). rw e (cleared-on was rows (small k h) next_word c.cleared))
              (λ (g : j < k). cleared-stays rows after (small j (omega arith)) (λ q m. c.stays.same (from + j) q m (λ e x y. omega arith)) (w.each j g))
              (eq-or-lt_of_le (omega arith));
        }

  pub clearing-end : {rows : List ℕ} {k : ℕ} → Clearing p from n was rows k → n ≤ k → ClearedEach p from n was rows
  clearing-end w h = record { stays = rows-stay-wide w.stays n (omega (arith, w.turns)); each = λ j l. w.each j (omega arith) }

-- ---- those found

-- where their words are the same
module _ (a b : List ℕ) (to : ℕ) where
  abbrev pub SameRows : ℕ → Type 0
  SameRows n = (k q : ℕ) → k < n → q < width → word b (to + k) q ≡ word a (to + k) q

  -- where each reads the same
  found-by : (v : SheetValue) (count : Option ℕ) → ((k : ℕ) → k < live_count count → used_part v (row_of b (to + k)) ≡ used_part v (row_of a (to + k))) → found_in v count b to ≡ found_in v count a to
  found-by v None same = refl
  found-by v (Some n) same = ap some (listed_same n same)

  small_by : (count : Option ℕ) → ((k : ℕ) → k < live_count count → CountsSame (to + k) a b) → FewOwedIn count a to → FewOwedIn count b to
  small_by None same s = tt
  small_by (Some n) same s = (s.0, λ k l. few-counts a b (to + k) (same k l) (s.1 k l))

pub few-each : (count : Option ℕ) (rows : List ℕ) (to : ℕ) → FewOwedIn count rows to → FewOwed rows to (live_count count)
few-each None rows to s k l = absurd (omega arith)
few-each (Some n) rows to s k l = s.1 k l

pub few-live : (count : Option ℕ) (rows : List ℕ) (to : ℕ) → FewOwedIn count rows to → live_count count ≤ 32
few-live None rows to s = omega arith
few-live (Some n) rows to s = s.0

module _ (a b : List ℕ) (to : ℕ) (count : Option ℕ) (same : SameRows a b to (live_count count)) (s : FewOwedIn count a to) where
  pub small_same : FewOwedIn count b to
  small_same = small_by a b to count (λ k l. counts-words a b (to + k) (λ q m. same k q l (omega arith))) s

  pub found-same : (v : SheetValue) → found_in v count b to ≡ found_in v count a to
  found-same v = found-by a b to v count (λ k l. ap (used_part v) (row_same a b (to + k) (few-each count a to s k l) (λ q m. same k q l m)))

-- the row after them is cleared
module _ (to n : ℕ) {a b : List ℕ} (c : ClearedRows (to + n) 1 a b) where
  first-same : SameRows a b to n
  first-same k q l m = c.stays.same (to + k) q m (λ x y. omega arith)

module _ {p : Plan} {to : ℕ} {count : Option ℕ} {a b : List ℕ} where
  pub found-live : {n : ℕ} {m : List ℕ} → count ≡ Some n → n ≤ 32 → FewOwed a to n → ClearedRows (to + n) 1 a m → ClearedEach p to n m b → ClearedFound p to count a b
  found-live {n} {m} e few small c w =
      let same = first-same to n c in
      rw e
      (record {
        stays = rows-stay-on (rows-stay-among c.stays to (n + 1) (omega arith) (omega arith)) (rows-stay-wide w.stays (n + 1) (omega arith));
        small = small_by m b to (Some n) (λ k l. (w.each k l).count) (small_same a m to (Some n) same (few, small));
        found = λ v lines planned. found-by m b to v (Some n) (λ k l. (w.each k l).row v lines planned) ∙ found-same a m to (Some n) same (few, small) v;
        stops = λ k l j m. (w.each k l).stops j m ∙ same k (stopped_part + j) l (omega (arith, p.few_clocks));
        others = λ h q x y l f. w.stays.same h q l (λ s t. omega arith) ∙ c.zero h q (omega arith) (omega arith) l;
        each = λ k l. (w.each k l).nothing;
      })

-- ---- all words beside those held

-- the two sides are all rows behind the head
module _ {from : ℕ} (side : Side from) where
  first-side : from ≤ 22 → from ≡ 6
  first-side h =
      among-rows (45 - from) from 33 (λ l m. absurd (side.apart (45 - from - from) 0 (omega arith) (omega arith) (omega arith)))
      (λ f. let g : 45 - from < from + 33 → ⊥ = f (omega arith) in omega (arith, side.other))

  second-side : 23 ≤ from → from ≡ 39
  second-side h =
      among-rows from (45 - from) 33 (λ l m. absurd (side.apart 0 (from - (45 - from)) (omega arith) (omega arith) (omega (arith, side.one))))
      (λ f. let g : from < 45 - from + 33 → ⊥ = f (omega arith) in omega (arith, side.one))

  on-other : (h : ℕ) → 6 ≤ h → h < height → (from ≤ h → h < from + 33 → ⊥) → (45 - from ≤ h) × (h < 45 - from + 33)
  on-other h l m f =
      among-rows from 0 23
      (λ x y. let e = first-side (omega arith) in let g : h < from + 33 → ⊥ = f (omega arith) in (omega arith, omega arith))
      (λ x. let y : from < 23 → ⊥ = x (omega arith) in let e = second-side (omega arith) in let g : from ≤ h → ⊥ = λ u. f u (omega arith) in (omega arith, omega arith))

module _ (p : Plan) {from : ℕ} (count : Option ℕ) {n : ℕ} (e : n ≡ live_count count) {a b c : List ℕ} (side : Side from) (small : FewOwedIn count a from)
    (x : ClearedRows (45 - from) 33 a b) (y : ClearedRows (from + n) (33 - n) b c) where
  same-held : SameRows a c from (live_count count)
  same-held k q l m =
      let few = few-live count a from small in
      y.stays.same (from + k) q m (λ s t. omega arith) ∙ x.stays.same (from + k) q m (λ s t. side.apart k (from + k - (45 - from)) (omega arith) (omega arith) (omega arith))

  module _ {d : List ℕ} (z : ClearedEach p from n c d) where
    zero-beside : (h q : ℕ) → 6 ≤ h → h < height → q < width → (from ≤ h → h < from + live_count count → ⊥) → word d h q ≡ 0
    zero-beside h q l m k f =
        let few = few-live count a from small in
        z.stays.same h q k (λ s t. f s (omega arith))
        ∙ among-rows h from 33
        (λ s t. let g : h < from + live_count count → ⊥ = f s in y.zero h q (omega arith) (omega arith) k)
        (λ g. let o = on-other side h l m g in y.stays.same h q k (λ s t. g (omega arith) (omega arith)) ∙ x.zero h q o.0 o.1 k)

    pub beside-cleared : ClearedBeside p from count a d
    beside-cleared =
        record {
          size = z.stays.size ∙ y.stays.size ∙ x.stays.size;
          head = λ h q l m. z.stays.same h q m (λ s t. omega (arith, side.other)) ∙ y.stays.same h q m (λ s t. omega (arith, side.other)) ∙ x.stays.same h q m (λ s t. omega (arith, side.past));
          small = small_by c d from count (λ k l. (z.each k (omega arith)).count) (small_same a c from count same-held small);
          held = λ v lines planned. found-by c d from v count (λ k l. (z.each k (omega arith)).row v lines planned) ∙ found-same a c from count same-held small v;
          stops = λ k l j m. (z.each k (omega arith)).stops j m ∙ same-held k (stopped_part + j) l (omega (arith, p.few_clocks));
          nothing = record { others = zero-beside; each = λ k l. (z.each k (omega arith)).nothing };
        }

-- ---- both sides
worked-some : (was : Option ℕ) → (live_count was ≡ 0 → ⊥) → (count : Option ℕ) → worked_rows was count ≡ built_rows count
worked-some was f count = rw (ne_eqb (live_count was) 0 f)

module _ (p : Plan) (from : ℕ) (was count : Option ℕ) {a : List ℕ} (side : Side from) (small : FewOwedIn count a (45 - from)) where
  -- some were held
  module _ {n : ℕ} {b : List ℕ} (e : n ≡ live_count was) (some : n ≡ 0 → ⊥) (few : live_count was ≤ 32) (x : ClearedRows from n a b) where
    same-found : SameRows a b (45 - from) (live_count count)
    same-found k q l m = x.stays.same (45 - from + k) q m (λ s t. side.apart (45 - from + k - from) k (omega arith) (omega (arith, few-live count a (45 - from) small)) (omega arith))

    module _ {c : List ℕ} (y : ClearedFound p (45 - from) count b c) where
      module _ {before : List ℕ} (w : NothingElse was from before) (s : RowsStay (45 - from) (worked_rows was count) before a) (h q : ℕ) (l : 6 ≤ h) (m : h < height) (k : q < width) where
        -- a row that nothing was built in
        not-built : (45 - from ≤ h → h < 45 - from + built_rows count → ⊥) → word b h q ≡ 0
        not-built g =
            among-rows h from n (λ u t. x.zero h q u t k)
            (λ f. x.stays.same h q k f ∙ s.same h q k (λ u t. g u (omega (arith, worked-some was (λ z. some (e ∙ z)) count))) ∙ w h q l m k (λ u t. f u (omega arith)))

        zero-other : (45 - from ≤ h → h < 45 - from + live_count count → ⊥) → word c h q ≡ 0
        zero-other f = among-rows h (45 - from) (built_rows count) (λ u t. y.others h q u t k (f u)) (λ g. y.stays.same h q k g ∙ not-built g)

      pub tidied : Tidied p from was count a c
      tidied =
          record {
            size = y.stays.size ∙ x.stays.size;
            head = λ h q l m. y.stays.same h q m (λ s t. omega (arith, side.past)) ∙ x.stays.same h q m (λ s t. omega (arith, side.other));
            small = y.small;
            found = λ v lines planned. y.found v lines planned ∙ found-same a b (45 - from) count same-found small v;
            stops = λ k l j m. y.stops k l j m ∙ same-found k (stopped_part + j) l (omega (arith, p.few_clocks));
            nothing = λ before w s. record { others = zero-other w s; each = y.each };
          }
