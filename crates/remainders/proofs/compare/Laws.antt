-- A row compared with another, test by test as the code makes them: they are equal in every sheet of these clocks and precedes lines, or in none. Assumes nothing.
use mathlib.Core.Bool.{Bool, true, false, not, ◌&&◌, ◌||◌, beq, and_comm, and-false}
use mathlib.Core.List.{List, [], ◌∷◌}
use mathlib.Core.Path.{◌≡◌, refl, sym, ap, ap₂, ◌∙◌}
use Prim.Native.Nat.{ℕ, zero, suc, ◌+◌, ◌-◌, ◌<◌, ◌≤◌}
use native.Mathlib.Omega.{arith}
use lib.Dec.{eqb}
use lib.ListN.{length, take, get_or, get_or-eq_default}
use lib.Seq.{length-take-le, get_or-take}
use borrow.Author.Tests.{lt-ltb, le-ltb, eq-eqb, ne_eqb, not-true, not-false}
use Rattle.records.specs.declared.line.Line.{Line}
use Rattle.records.specs.declared.line.Line.TheVariants.{Sporadic, Relation, Implies, Excludes, Delayed, Weakly, Strictly, Kills, Counted}
use Rattle.records.specs.Line.{blank_line}
use Rattle.records.specs.Lists.{listed}
use Rattle.records.specs.Sheet.{SheetValue}
use Rattle.records.proofs.Lists.{length-listed}
use Rattle.tesl.specs.Lists.{any, below, same_list}
use Rattle.tesl.specs.Remainder.{same_obligation, same_countdown}
use Rattle.theory.specs.Adding.{same_by_count}
use Rattle.theory.specs.Step.{next_leads}
use Rattle.work.specs.View.{in_use, used_part}
use Rattle.work.specs.Work.{same_counted}
use Rattle.work.specs.Parts.{is_precedes, Leading}
use Rattle.work.proofs.Below.{below-ext, below-miss, below-front, below-either}
use Rattle.work.proofs.Listing.{listed_at, all_listed, any-listed}
use Rattle.remainders.specs.View.{obligation_of, countdown_of, same_stored}
use Rattle.remainders.specs.Rows.{parts, row_count, row_obligation, row_set, row_lead, row_stop, row_stopped, row_of, rows_of}
use Rattle.remainders.proofs.obligation.Laws.{same_read, same-counted}
use Rattle.remainders.proofs.rows.Reading.{same-by-count-read}

-- ---- lists compared place by place
module _ {A : Type 0} (same : A → A → Bool) (d : A) where
  same-places : (xs ys : List A) → length xs ≡ length ys → same_list same xs ys ≡ below (length xs) (λ k. same (get_or xs k d) (get_or ys k d))
  same-places [] [] e = refl
  same-places [] (y ∷ ys) e = absurd (omega arith)
  same-places (x ∷ xs) [] e = absurd (omega arith)
  same-places (x ∷ xs) (y ∷ ys) e =
      ap (λ (b : Bool). same x y && b) (same-places xs ys (omega arith)) ∙ sym (below-front (λ k. same (get_or (x ∷ xs) k d) (get_or (y ∷ ys) k d)) (length xs))

  -- the first n of what is listed
  same_first : (n m : ℕ) (f g : ℕ → A) → n ≤ m → same_list same (take n (listed f m)) (take n (listed g m)) ≡ below n (λ k. same (f k) (g k))
  same_first n m f g h =
      let l = length-take-le n (listed f m) (omega (arith, length-listed f m)) in
      let r = length-take-le n (listed g m) (omega (arith, length-listed g m)) in
      same-places (take n (listed f m)) (take n (listed g m)) (l ∙ sym r)
      ∙ ap (λ (j : ℕ). below j (λ k. same (get_or (take n (listed f m)) k d) (get_or (take n (listed g m)) k d))) l
      ∙ below-ext n _ _ (λ k t. rw (get_or-take n (listed f m) k d t, get_or-take n (listed g m) k d t, listed_at f d m k (omega arith), listed_at g d m k (omega arith)))

-- ---- the leads in use
pub length-used : (ls : List Line) (xs : List ℕ) → length (next_leads in_use ls xs) ≡ length ls
length-used [] xs = refl
length-used (l ∷ ls) [] = ap suc (length-used ls [])
length-used (l ∷ ls) (n ∷ xs) = ap suc (length-used ls xs)

pub used-at : (ls : List Line) (xs : List ℕ) (k : ℕ) → get_or (next_leads in_use ls xs) k 0 ≡ in_use (get_or ls k blank_line) (get_or xs k 0)
used-at [] xs k = refl
used-at (l ∷ ls) [] zero = refl
used-at (l ∷ ls) [] (suc k) = used-at ls [] k
used-at (l ∷ ls) (n ∷ xs) zero = refl
used-at (l ∷ ls) (n ∷ xs) (suc k) = used-at ls xs k

same-lead : (l : Line) (a b : ℕ) → eqb (in_use l a) (in_use l b) ≡ (not (is_precedes l) || eqb a b)
same-lead (Weakly A B) a b = refl
same-lead (Strictly A B) a b = refl
same-lead (Sporadic A B t) a b = refl
same-lead (Relation A B p q) a b = refl
same-lead (Implies A B) a b = refl
same-lead (Excludes A B) a b = refl
same-lead (Delayed A B D d) a b = refl
same-lead (Kills A B) a b = refl
same-lead (Counted A B D n) a b = refl

module _ (v : SheetValue) (leaders : ℕ) (precede : List Bool) (leading : Leading v leaders precede) (f g : ℕ → ℕ) where
  abbrev xs : List ℕ
  xs = listed f 16

  abbrev ys : List ℕ
  ys = listed g 16

  -- line k has no lead in use, or the same
  abbrev same_at : ℕ → Bool
  same_at k = not (is_precedes (get_or v.lines k blank_line)) || eqb (get_or xs k 0) (get_or ys k 0)

  past-lines : (k : ℕ) → length v.lines ≤ k → same_at k ≡ true
  past-lines k h = rw (get_or-eq_default v.lines blank_line {n = k} h)

  past-leaders : (k : ℕ) → leaders ≤ k → same_at k ≡ true
  past-leaders k h = rw (leading.1 k, le-ltb k leaders h)

  within-leaders : (k : ℕ) → k < leaders → same_at k ≡ (not (get_or precede k false) || eqb (f k) (g k))
  within-leaders k h =
      let l : k < 16 = omega (arith, leading.0) in
      rw (leading.1 k, lt-ltb k leaders h, listed_at f 0 16 k l, listed_at g 0 16 k l)

  same-leads : same_list eqb (next_leads in_use v.lines xs) (next_leads in_use v.lines ys) ≡ below leaders (λ k. not (get_or precede k false) || eqb (f k) (g k))
  same-leads =
      let l = length-used v.lines xs in
      same-places eqb 0 (next_leads in_use v.lines xs) (next_leads in_use v.lines ys) (l ∙ sym (length-used v.lines ys))
      ∙ ap (λ (j : ℕ). below j (λ k. eqb (get_or (next_leads in_use v.lines xs) k 0) (get_or (next_leads in_use v.lines ys) k 0))) l
      ∙ below-ext (length v.lines) _ same_at (λ k t. ap₂ eqb (used-at v.lines xs k) (used-at v.lines ys k) ∙ same-lead (get_or v.lines k blank_line) (get_or xs k 0) (get_or ys k 0))
      ∙ below-either same_at (length v.lines) leaders past-lines past-leaders
      ∙ below-ext leaders same_at _ within-leaders

-- ---- rows x and i

-- a part of them
abbrev pub set_same : List ℕ → ℕ → ℕ → ℕ → Bool
set_same r x i part = same_by_count same_stored (row_set r x part) (row_set r i part)

-- that of row x has place j of that of row i
abbrev pub has_at : List ℕ → ℕ → ℕ → ℕ → ℕ → Bool
has_at r x i part j = any (same_stored (row_obligation r i part j)) (row_set r x part)

module _ (r : List ℕ) (x i part : ℕ) where
  by-places : set_same r x i part ≡ (eqb (row_count r x part) (row_count r i part) && below (row_count r i part) (has_at r x i part))
  by-places =
      ap₂ ◌&&◌ (ap₂ eqb (length-listed (row_obligation r x part) (row_count r x part)) (length-listed (row_obligation r i part) (row_count r i part)))
      (all_listed (row_obligation r i part) (λ o. any (same_stored o) (row_set r x part)) (row_count r i part))

  pub set-count : (row_count r x part ≡ row_count r i part → ⊥) → false ≡ set_same r x i part
  set-count q = sym (by-places ∙ ap (λ (b : Bool). b && below (row_count r i part) (has_at r x i part)) (ne_eqb (row_count r x part) (row_count r i part) q))

  pub set-misses : (j : ℕ) → j < row_count r i part → has_at r x i part j ≡ false → false ≡ set_same r x i part
  set-misses j h q = sym (by-places ∙ ap (λ (b : Bool). eqb (row_count r x part) (row_count r i part) && b) (below-miss (has_at r x i part) (row_count r i part) j h q) ∙ and-false (eqb (row_count r x part) (row_count r i part)))

  pub set-equal : row_count r x part ≡ row_count r i part → below (row_count r i part) (has_at r x i part) ≡ true → true ≡ set_same r x i part
  set-equal z o = sym (by-places ∙ ap₂ ◌&&◌ (eq-eqb (row_count r x part) (row_count r i part) z) o)

-- two rows of which the larger set of row x has as many, and the other
module _ (r : List ℕ) (x i : ℕ) where
  pub same-owed : (part : ℕ) → part < parts → row_count r i part ≡ row_count r x part → row_count r i (1 - part) ≡ row_count r x (1 - part) → row_count r i 0 ≡ row_count r x 0
  same-owed zero h a b = a
  same-owed (suc zero) h a b = b
  same-owed (suc (suc part)) h a b = absurd (omega arith)

  empty-set : (part : ℕ) → row_count r x part ≡ 0 → row_count r i part ≡ 0 → set_same r x i part ≡ true
  empty-set part a b = sym (set-equal r x i part (a ∙ sym b) (ap (λ (n : ℕ). below n (has_at r x i part)) b))

  -- with nothing in them
  pub empty-sets : (part : ℕ) → part < parts → row_count r x part ≡ 0 → row_count r x (1 - part) ≤ row_count r x part → row_count r i part ≡ row_count r x part → row_count r i (1 - part) ≡ row_count r x (1 - part) → below parts (set_same r x i) ≡ true
  empty-sets zero h z l a b = ap₂ ◌&&◌ (empty-set 0 z (a ∙ z)) (empty-set 1 (omega arith) (omega arith))
  empty-sets (suc zero) h z l a b = ap₂ ◌&&◌ (empty-set 0 (omega arith) (omega arith)) (empty-set 1 z (a ∙ z))
  empty-sets (suc (suc part)) h z l a b = absurd (omega arith)

module _ (clocks leaders : ℕ) (precede : List Bool) (r : List ℕ) (x : ℕ) where
  abbrev stops_same : ℕ → Bool
  stops_same i = below clocks (λ k. beq (row_stop r x k) (row_stop r i k))

  abbrev leads_same : ℕ → Bool
  leads_same i = below leaders (λ k. not (get_or precede k false) || eqb (row_lead r x k) (row_lead r i k))

  -- the tests in turn
  unfoldable pub same_row : ℕ → Bool
  same_row i = below parts (set_same r x i) && (leads_same i && stops_same i)

  -- none of the m rows from `first` on is row x
  abbrev pub none_same : ℕ → ℕ → Bool
  none_same first m = below m (λ k. not (same_row (first + k)))

  module _ (i : ℕ) where
    abbrev setsSame : Bool
    setsSame = below parts (set_same r x i)

    pub other-set : (part : ℕ) → part < parts → set_same r x i part ≡ false → same_row i ≡ false
    unfolding same_row
    other-set part h q = ap (λ (b : Bool). b && (leads_same i && stops_same i)) (below-miss (set_same r x i) parts part h q)

    pub other-count : (part : ℕ) → part < parts → (row_count r x part ≡ row_count r i part → ⊥) → same_row i ≡ false
    other-count part h q = other-set part h (sym (set-count r x i part q))

    pub other-leads : {b : Bool} → b ≡ leads_same i → not b ≡ true → same_row i ≡ false
    unfolding same_row
    other-leads {b} e q = ap (λ (l : Bool). setsSame && (l && stops_same i)) (sym e ∙ not-true b q) ∙ and-false setsSame

    pub other-stops : {b : Bool} → b ≡ stops_same i → not b ≡ true → same_row i ≡ false
    unfolding same_row
    other-stops {b} e q = ap (λ (s : Bool). setsSame && (leads_same i && s)) (sym e ∙ not-true b q) ∙ ap (λ (l : Bool). setsSame && l) (and-false (leads_same i)) ∙ and-false setsSame

    pub equal : {s l : Bool} → setsSame ≡ true → l ≡ leads_same i → not l ≡ false → s ≡ stops_same i → not s ≡ false → same_row i ≡ true
    unfolding same_row
    equal {s} {l} o f g e q = ap₂ ◌&&◌ o (ap₂ ◌&&◌ (sym f ∙ not-false l g) (sym e ∙ not-false s q))

  -- in any sheet of these clocks and precedes lines
  module _ (c : clocks ≤ 8) (v : SheetValue) (e : v.clocks ≡ clocks) (leading : Leading v leaders precede) where
    same_row-law : (i : ℕ) → same_counted (used_part v (row_of r x)) (used_part v (row_of r i)) ≡ same_row i
    unfolding same_counted same_row
    same_row-law i =
        ap₂ ◌&&◌
        (ap₂ ◌&&◌ (same-by-count-read obligation_of same_stored same_obligation same_read (row_set r x 0) (row_set r i 0)) (same-by-count-read countdown_of same_stored same_countdown same-counted (row_set r x 1) (row_set r i 1)))
        (ap₂ ◌&&◌
        (ap (λ (n : ℕ). same_list beq (take n (row_stopped r x)) (take n (row_stopped r i))) e ∙ same_first beq false clocks 8 (row_stop r x) (row_stop r i) c)
        (same-leads v leaders precede leading (row_lead r x) (row_lead r i))
        ∙ and_comm (stops_same i) (leads_same i))

    pub is_one : (first n : ℕ) → any (same_counted (used_part v (row_of r x))) (rows_of v r first n) ≡ not (none_same first n)
    is_one first n = any-listed (λ k. used_part v (row_of r (first + k))) (same_counted (used_part v (row_of r x))) n ∙ ap not (below-ext n _ _ (λ k h. ap not (same_row-law (first + k))))
