-- The order of lines is a strict one, and total: no list of numbers is above itself, above is passed on, and of two lists of which neither is above the other, each is the other. Assumes nothing.
use mathlib.Core.Path.{◌≡◌, refl, sym, ap, ◌∙◌}
use mathlib.Core.Logic.{◌⊎◌, inl, inr}
use mathlib.Core.Bool.{Bool, true, false, ◌&&◌, ◌||◌, true≢false, false≢true}
use mathlib.Core.List.{List, [], ◌∷◌, ◌++◌}
use Prim.Native.Nat.{ℕ, ◌+◌, ◌≤◌, ◌<◌}
use native.Mathlib.Omega.{arith}
use native.Mathlib.Numerals.{add-one}
use lib.ListN.{length, get_or, drop, drop_of_length-le}
use lib.Seq.{drop-cons}
use lib.Dec.{ltb, eqb}
use borrow.Author.Tests.{lt-ltb, le-ltb, ltb-true, ltb-false, eq-eqb, ne_eqb, eqb-true}
use Rattle.records.specs.Order.{above}
use Rattle.records.proofs.Lists.{both, neither}

-- ---- the first numbers decide, or those after them
module _ (x y : ℕ) (xs ys : List ℕ) where
  pub first_above : y < x → above (x ∷ xs) (y ∷ ys) ≡ true
  unfolding above
  first_above h = rw (lt-ltb y x h)

  pub first_below : x < y → above (x ∷ xs) (y ∷ ys) ≡ false
  unfolding above
  first_below h = let n : x ≡ y → ⊥ = λ e. omega arith in rw (le-ltb y x (omega arith), ne_eqb x y n)

  pub first-same : x ≡ y → above (x ∷ xs) (y ∷ ys) ≡ above xs ys
  unfolding above
  first-same e = rw (le-ltb y x (omega arith), eq-eqb x y e)

  -- what it says of them
  pub above-first : above (x ∷ xs) (y ∷ ys) ≡ true → (y < x) ⊎ ((x ≡ y) × (above xs ys ≡ true))
  unfolding above
  above-first h = by-test (ltb y x) refl h
    where
      by-test : (t : Bool) → ltb y x ≡ t → (t || (eqb x y && above xs ys)) ≡ true → (y < x) ⊎ ((x ≡ y) × (above xs ys ≡ true))
      by-test true e h = inl (ltb-true y x e)
      by-test false e h = let r = both (eqb x y) h in inr (eqb-true x y r.0, r.1)

  pub not-above-first : above (x ∷ xs) (y ∷ ys) ≡ false → (x ≤ y) × (x ≡ y → above xs ys ≡ false)
  unfolding above
  not-above-first h =
      let r = neither (ltb y x) h in
      (ltb-false y x r.0, λ e. rw (eq-eqb x y e) at r.1)

pub above-itself : (xs : List ℕ) → above xs xs ≡ false
unfolding above
above-itself [] = refl
above-itself (x ∷ xs) = first-same x x xs xs refl ∙ above-itself xs

pub above_on : (xs ys zs : List ℕ) → above xs ys ≡ true → above ys zs ≡ true → above xs zs ≡ true
unfolding above
above_on [] ys zs h g = absurd (false≢true h)
above_on (x ∷ xs) [] zs h g = absurd (false≢true g)
above_on (x ∷ xs) (y ∷ ys) [] h g = refl
above_on (x ∷ xs) (y ∷ ys) (z ∷ zs) h g = by_first (above_on xs ys zs) (above-first x y xs ys h) (above-first y z ys zs g)
  where
    by_first : (above xs ys ≡ true → above ys zs ≡ true → above xs zs ≡ true) → (y < x) ⊎ ((x ≡ y) × (above xs ys ≡ true)) → (z < y) ⊎ ((y ≡ z) × (above ys zs ≡ true)) → above (x ∷ xs) (z ∷ zs) ≡ true
    by_first on (inl a) (inl b) = first_above x z xs zs (omega arith)
    by_first on (inl a) (inr b) = let e = b.0 in first_above x z xs zs (omega arith)
    by_first on (inr a) (inl b) = let e = a.0 in first_above x z xs zs (omega arith)
    by_first on (inr a) (inr b) = first-same x z xs zs (a.0 ∙ b.0) ∙ on a.1 b.1

pub neither-above : (xs ys : List ℕ) → above xs ys ≡ false → above ys xs ≡ false → xs ≡ ys
unfolding above
neither-above [] [] h g = refl
neither-above [] (y ∷ ys) h g = absurd (true≢false g)
neither-above (x ∷ xs) [] h g = absurd (true≢false h)
neither-above (x ∷ xs) (y ∷ ys) h g =
    let a = not-above-first x y xs ys h in
    let b = not-above-first y x ys xs g in
    let l = a.0 in
    let m = b.0 in
    let e : x ≡ y = omega arith in
    let r = neither-above xs ys (a.1 e) (b.1 (sym e)) in
    λ i. e i ∷ r i

-- what stands behind lists of one length in both does not count
pub above-front : (xs ys zs : List ℕ) → length xs ≡ length ys → above (xs ++ zs) (ys ++ zs) ≡ above xs ys
unfolding above
above-front [] [] zs e = above-itself zs
above-front [] (y ∷ ys) zs e = absurd (omega arith)
above-front (x ∷ xs) [] zs e = absurd (omega arith)
above-front (x ∷ xs) (y ∷ ys) zs e = ap (λ (b : Bool). ltb y x || (eqb x y && b)) (above-front xs ys zs (omega arith))

-- ---- a turn of `body_above`
module _ {w : Bool} (a b : List ℕ) (i : ℕ) (inv : w ≡ above (drop i a) (drop i b)) where
  pub turn_end : length a ≤ i → false ≡ w
  unfolding above
  turn_end h = sym (inv ∙ rw (drop_of_length-le a {i = i} h))

  module _ (h : i < length a) (g : i < length b) where
    here : w ≡ above (get_or a i 0 ∷ drop (i + 1) a) (get_or b i 0 ∷ drop (i + 1) b)
    here = inv ∙ rw (drop-cons a i 0 h, drop-cons b i 0 g, add-one i)

    pub turn-above : get_or b i 0 < get_or a i 0 → true ≡ w
    turn-above e = sym (here ∙ first_above _ _ _ _ e)

    pub turn_below : get_or a i 0 < get_or b i 0 → false ≡ w
    turn_below e = sym (here ∙ first_below _ _ _ _ e)

    pub turn-same : get_or a i 0 ≤ get_or b i 0 → get_or b i 0 ≤ get_or a i 0 → w ≡ above (drop (i + 1) a) (drop (i + 1) b)
    turn-same e f = here ∙ first-same _ _ _ _ (omega arith)

    -- two that differ decide
    pub turn-differs : (get_or a i 0 ≡ get_or b i 0 → ⊥) → ltb (get_or b i 0) (get_or a i 0) ≡ w
    turn-differs n = by-test (ltb (get_or b i 0) (get_or a i 0)) refl
      where
        by-test : (t : Bool) → ltb (get_or b i 0) (get_or a i 0) ≡ t → t ≡ w
        by-test true e = turn-above (ltb-true _ _ e)
        by-test false e = let d = ltb-false _ _ e in turn_below (omega (arith, n))
