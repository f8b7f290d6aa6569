-- Laws for the functions that sort: the least line above those sorted so far comes next, and where none is left all lines are sorted. Assumes nothing.
use mathlib.Core.Path.{◌≡◌, refl, sym, ap, subst, ◌∙◌}
use mathlib.Core.Logic.{◌⊎◌, inl, inr}
use mathlib.Core.Bool.{Bool, true, false, true≢false}
use mathlib.Core.List.{List, [], ◌∷◌, ◌++◌, map}
use Prim.Native.Nat.{ℕ, zero, suc, ◌+◌, ◌≤◌, ◌<◌}
use native.Mathlib.Nat.{add-zero, zero-add}
use native.Mathlib.Omega.{arith}
use lib.ListN.{length, length-append}
use lib.Dec.{ltb}
use borrow.Author.Tests.{ltb-true, ltb-false}
use Rattle.records.specs.declared.line.Line.{Line}
use Rattle.records.specs.declared.sheet.Sheet.{Sheet}
use Rattle.records.specs.Lists.{listed_from, listed}
use Rattle.records.specs.Order.{above, key_of, above_last}
use Rattle.records.specs.Sheet.{SheetValue, line_at, sheet_value, sheet_of}
use Rattle.records.specs.Sort.{IsIn, Rises}
use Rattle.records.specs.Types.{IsLineValue}
use Rattle.records.specs.Inner.{with_line, Sortable, is_higher, NextAbove, SortedSheet}
use Rattle.records.proofs.Lists.{map-append, length-listed}
use Rattle.records.proofs.Rising.{all_in, in-front, in-last, of-snoc}
use Rattle.records.proofs.order.Laws.{above-itself, above_on, neither-above}
use Rattle.records.proofs.order.Keys.{above-last, key-line}
use Rattle.records.proofs.sheet.Passed.{rises-snoc}
use Rattle.records.proofs.sheet.Reading.{sheet-more}
use Rattle.records.proofs.sheet.RoundTrip.{sheet_of-value}
use Rattle.records.proofs.sort.Forms.{rises-few}

-- ---- places as a list
module _ {A : Type 0} (f : ℕ → A) where
  from_in : (i n j : ℕ) → j < n → IsIn (f (i + j)) (listed_from f i n)
  unfolding listed_from
  from_in i zero j h = absurd (omega arith)
  from_in i (suc n) zero h = inl (rw add-zero)
  from_in i (suc n) (suc j) h =
      let e : i + suc j ≡ i + 1 + j = omega arith in
      inr (subst (λ (k : ℕ). IsIn (f k) (listed_from f (i + 1) n)) (sym e) (from_in (i + 1) n j (omega arith)))

  pub listed_in : (n i : ℕ) → i < n → IsIn (f i) (listed f n)
  listed_in n i h = rw (zero-add i) at (from_in 0 n i h)

  from_place : (i n : ℕ) (x : A) → IsIn x (listed_from f i n) → (j : ℕ) × (j < n) × (x ≡ f (i + j))
  unfolding listed_from
  from_place i zero x m = absurd m
  from_place i (suc n) x (inl e) = (0, omega arith, e ∙ rw add-zero)
  from_place i (suc n) x (inr m) =
      let r = from_place (i + 1) n x m in
      let j = r.0 in
      let l = r.1 in
      let e : i + 1 + j ≡ i + suc j = omega arith in
      (suc j, omega arith, r.2 ∙ ap f e)

  pub listed-place : (n : ℕ) (x : A) → IsIn x (listed f n) → (i : ℕ) × (i < n) × (x ≡ f i)
  listed-place n x m = let r = from_place 0 n x m in (r.0, r.1, r.2 ∙ rw zero-add)

-- a place below the next is below this one or this one
before-next : (j i : ℕ) → j < i + 1 → (j < i) ⊎ (j ≡ i)
before-next j i h = by-test (ltb j i) refl
  where
    by-test : (t : Bool) → ltb j i ≡ t → (j < i) ⊎ (j ≡ i)
    by-test true e = inl (ltb-true j i e)
    by-test false e = let l = ltb-false j i e in inr (omega arith)

false-true : {X : Type 0} {b : Bool} → b ≡ false → b ≡ true → X
false-true e f = absurd (true≢false (sym f ∙ e))

-- ---- a turn of `next_above`
pub next_start : (s sorted : Sheet) → NextAbove s sorted 0 s.count
next_start s sorted = record {
  most = omega arith;
  higher = λ h. absurd (omega arith);
  least = λ h i l. absurd (omega arith);
  none = λ e i l. absurd (omega arith);
}

module _ (s sorted : Sheet) (i r : ℕ) (m : NextAbove s sorted i r) (h : i < s.count) {l : Line} (e : l ≡ line_at s i) where
  -- what holds of the places below i, and of i, holds of those below the next
  one_more : (P : ℕ → Type 0) → ((j : ℕ) → j < i → P j) → P i → (j : ℕ) → j < i + 1 → P j
  one_more P low at j k = by_place (before-next j i k)
    where
      by_place : (j < i) ⊎ (j ≡ i) → P j
      by_place (inl l) = low j l
      by_place (inr q) = subst P (sym q) at

  pub next-no : is_higher sorted l ≡ false → NextAbove s sorted (i + 1) r
  next-no g =
      let no = sym (ap (is_higher sorted) e) ∙ g in
      record {
        most = m.most;
        higher = m.higher;
        least = λ k. one_more (λ (j : ℕ). is_higher sorted (line_at s j) ≡ true → above (key_of (line_at s r)) (key_of (line_at s j)) ≡ false) (m.least k) (λ y. false-true no y);
        none = λ q. one_more (λ (j : ℕ). is_higher sorted (line_at s j) ≡ false) (m.none q) no;
      }

  module _ (g : is_higher sorted l ≡ true) where
    yes : is_higher sorted (line_at s i) ≡ true
    yes = sym (ap (is_higher sorted) e) ∙ g

    -- the line here is the least
    taken : ((j : ℕ) → j < i → is_higher sorted (line_at s j) ≡ true → above (key_of (line_at s i)) (key_of (line_at s j)) ≡ false) → NextAbove s sorted (i + 1) i
    taken low = record {
      most = omega arith;
      higher = λ k. yes;
      least = λ k. one_more (λ (j : ℕ). is_higher sorted (line_at s j) ≡ true → above (key_of (line_at s i)) (key_of (line_at s j)) ≡ false) low (λ y. above-itself (key_of (line_at s i)));
      none = λ q. absurd (omega arith);
    }

    pub next-first : r ≡ s.count → NextAbove s sorted (i + 1) i
    next-first q = taken (λ j k y. false-true (m.none q j k) y)

    module _ (q : r ≡ s.count → ⊥) {x : Line} (u : x ≡ line_at s r) where
      within : r < s.count
      within = let k = m.most in omega (arith, q)

      compared : above (key_of x) (key_of l) ≡ above (key_of (line_at s r)) (key_of (line_at s i))
      compared = rw (u, e)

      pub next-lower : above (key_of x) (key_of l) ≡ true → NextAbove s sorted (i + 1) i
      next-lower y = taken (λ j k z. by-test j (m.least within j k z) (above (key_of (line_at s i)) (key_of (line_at s j))) refl)
        where
          by-test : (j : ℕ) → above (key_of (line_at s r)) (key_of (line_at s j)) ≡ false → (b : Bool) → above (key_of (line_at s i)) (key_of (line_at s j)) ≡ b → b ≡ false
          by-test j n false w = refl
          by-test j n true w = false-true n (above_on (key_of (line_at s r)) (key_of (line_at s i)) (key_of (line_at s j)) (sym compared ∙ y) w)

      pub next-kept : above (key_of x) (key_of l) ≡ false → NextAbove s sorted (i + 1) r
      next-kept y = record {
        most = m.most;
        higher = m.higher;
        least = λ k. one_more (λ (j : ℕ). is_higher sorted (line_at s j) ≡ true → above (key_of (line_at s r)) (key_of (line_at s j)) ≡ false) (m.least k) (λ z. sym compared ∙ y);
        none = λ p. absurd (q p);
      }

-- ---- a turn of `sort_lines`: the lines sorted so far rise, are lines of the sheet, and every other line of it is above them
pub record Sorting (s sorted : Sheet) : Type 0 where
  pub out : List Line
  pub sheet : sorted ≡ sheet_of (record { clocks = s.clocks; lines = out })
  pub rises : Rises out
  pub from : (l : Line) → IsIn l out → IsIn l (sheet_value s).lines
  pub each : (i : ℕ) → i < s.count → IsIn (line_at s i) out ⊎ (is_higher sorted (line_at s i) ≡ true)

pub sorting_start : (s sorted : Sheet) → sorted ≡ sheet_of (record { clocks = s.clocks; lines = [] }) → Sorting s sorted
unfolding listed_from
sorting_start s sorted e = record {
  out = [];
  sheet = e;
  rises = tt;
  from = λ l m. absurd m;
  each = λ i h. inr (rw e);
}

module _ (s sorted : Sheet) (m : Sorting s sorted) where
  -- what is above them
  higher-is : (l : Line) → is_higher sorted l ≡ above_last (map key_of m.out) (key_of l)
  higher-is l =
      let v : (sheet_value sorted).lines ≡ m.out = ap (λ (s : Sheet). (sheet_value s).lines) m.sheet ∙ ap (λ (v : SheetValue). v.lines) (sheet_of-value (record { clocks = s.clocks; lines = m.out })) in
      rw v

  pub sorting-count : sorted.count ≡ length m.out
  sorting-count = ap (λ (s : Sheet). s.count) m.sheet

  module _ (ok : Sortable s) (r : ℕ) (n : NextAbove s sorted s.count r) where
    value : (i : ℕ) → i < s.count → IsLineValue (line_at s i)
    value i h = all_in IsLineValue (sheet_value s).lines ok.values (line_at s i) (listed_in (line_at s) s.count i h)

    module _ (h : r < s.count) where
      abbrev next : Line
      next = line_at s r

      risen : Rises (m.out ++ (next ∷ []))
      risen = rises-snoc m.out next m.rises (sym (higher-is next) ∙ n.higher h)

      of-sheet : (l : Line) → IsIn l (m.out ++ (next ∷ [])) → IsIn l (sheet_value s).lines
      of-sheet l k = by_part (of-snoc l next m.out k)
        where
          by_part : IsIn l m.out ⊎ (l ≡ next) → IsIn l (sheet_value s).lines
          by_part (inl k) = m.from l k
          by_part (inr e) = rw e (listed_in (line_at s) s.count r h)

      pub sorting-few : sorted.count < s.count
      sorting-few =
          let k = rises-few (m.out ++ (next ∷ [])) (sheet_value s).lines risen of-sheet in
          omega (arith, sorting-count, length-append m.out (next ∷ []), length-listed (line_at s) s.count)

      pub sorting-room : sorted.count < 16
      sorting-room = let k = sorting-few in omega (arith, ok.few)

      pub sorting-more : (l : Line) → l ≡ next → (t : Sheet) → t ≡ with_line sorted l → Sorting s t
      sorting-more l e t f = record {
        out = m.out ++ (next ∷ []);
        sheet = grown;
        rises = risen;
        from = of-sheet;
        each = λ i k. by_part i k (m.each i k);
      }
        where
          grown : t ≡ sheet_of (record { clocks = s.clocks; lines = m.out ++ (next ∷ []) })
          grown = f ∙ rw (m.sheet, e) (sheet-more s.clocks m.out next (omega (arith, sorting-count, sorting-room)))

          higher-now : (l : Line) → is_higher t l ≡ above (key_of l) (key_of next)
          higher-now l =
              let v : (sheet_value t).lines ≡ m.out ++ (next ∷ []) = ap (λ (s : Sheet). (sheet_value s).lines) grown ∙ ap (λ (v : SheetValue). v.lines) (sheet_of-value (record { clocks = s.clocks; lines = m.out ++ (next ∷ []) })) in
              rw (v, map-append) (above-last (map key_of m.out) (key_of next) (key_of l))

          by-test : (i : ℕ) → i < s.count → above (key_of next) (key_of (line_at s i)) ≡ false → (b : Bool) → above (key_of (line_at s i)) (key_of next) ≡ b
              → IsIn (line_at s i) (m.out ++ (next ∷ [])) ⊎ (is_higher t (line_at s i) ≡ true)
          by-test i k n true w = inr (higher-now (line_at s i) ∙ w)
          by-test i k n false w =
              let q = key-line (line_at s i) next (value i k) (value r h) (neither-above (key_of (line_at s i)) (key_of next) w n) in
              inl (rw q (in-last next m.out))

          by_part : (i : ℕ) → i < s.count → IsIn (line_at s i) m.out ⊎ (is_higher sorted (line_at s i) ≡ true)
              → IsIn (line_at s i) (m.out ++ (next ∷ [])) ⊎ (is_higher t (line_at s i) ≡ true)
          by_part i k (inl y) = inl (in-front (line_at s i) m.out _ y)
          by_part i k (inr y) = by-test i k (n.least h i k y) (above (key_of (line_at s i)) (key_of next)) refl

    pub sorting-end : s.count ≤ r → SortedSheet s sorted
    sorting-end h = record {
      value = record { clocks = s.clocks; lines = m.out };
      sorted = record { clocks = refl; rises = m.rises; lines = record { there = all_there-law; back = m.from } };
      same = m.sheet;
    }
      where
        by_part : (i : ℕ) → i < s.count → IsIn (line_at s i) m.out ⊎ (is_higher sorted (line_at s i) ≡ true) → IsIn (line_at s i) m.out
        by_part i k (inl y) = y
        by_part i k (inr y) = let q = n.most in false-true (n.none (omega arith) i k) y

        all_there-law : (l : Line) → IsIn l (sheet_value s).lines → IsIn l m.out
        all_there-law l k =
            let p = listed-place (line_at s) s.count l k in
            subst (λ (l : Line). IsIn l m.out) (sym p.2) (by_part p.0 p.1 (m.each p.0 p.1))
