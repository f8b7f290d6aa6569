-- Lists in which each element stands behind the one before it, by a strict order: two of them with the same elements are one list, and one whose elements are all in another list has no more of them. Assumes nothing.
use mathlib.Core.Path.{◌≡◌, refl, sym, subst, ◌∙◌}
use mathlib.Core.Logic.{◌⊎◌, inl, inr}
use mathlib.Core.List.{List, [], ◌∷◌, ◌++◌}
use Prim.Native.Nat.{ℕ, ◌+◌, ◌≤◌}
use native.Mathlib.Omega.{arith}
use Rattle.records.specs.Types.{All}
use Rattle.records.specs.Sort.{IsIn, Chain}

-- ---- elements
module _ {A : Type 0} where
  pub all_in : (P : A → Type 0) (xs : List A) → All P xs → (x : A) → IsIn x xs → P x
  all_in P [] h x m = absurd m
  all_in P (y ∷ ys) h x (inl e) = subst P (sym e) h.0
  all_in P (y ∷ ys) h x (inr m) = all_in P ys h.1 x m

  pub in_all : (P : A → Type 0) (xs : List A) → ((x : A) → IsIn x xs → P x) → All P xs
  in_all P [] h = tt
  in_all P (x ∷ xs) h = (h x (inl refl), in_all P xs (λ y m. h y (inr m)))

  pub in-front : (x : A) (xs ys : List A) → IsIn x xs → IsIn x (xs ++ ys)
  in-front x [] ys m = absurd m
  in-front x (y ∷ xs) ys (inl e) = inl e
  in-front x (y ∷ xs) ys (inr m) = inr (in-front x xs ys m)

  pub in-last : (x : A) (xs : List A) → IsIn x (xs ++ (x ∷ []))
  in-last x [] = inl refl
  in-last x (y ∷ xs) = inr (in-last x xs)

  pub of-snoc : (x y : A) (xs : List A) → IsIn x (xs ++ (y ∷ [])) → IsIn x xs ⊎ (x ≡ y)
  of-snoc x y [] (inl e) = inr e
  of-snoc x y [] (inr m) = absurd m
  of-snoc x y (z ∷ xs) (inl e) = inl (inl e)
  of-snoc x y (z ∷ xs) (inr m) = by_part (of-snoc x y xs m)
    where
      by_part : IsIn x xs ⊎ (x ≡ y) → IsIn x (z ∷ xs) ⊎ (x ≡ y)
      by_part (inl m) = inl (inr m)
      by_part (inr e) = inr e

  -- what the elements come to, each by a number
  abbrev pub total : (A → ℕ) → List A → ℕ
  total f [] = 0
  total f (x ∷ xs) = f x + total f xs

  -- a list without one of its elements
  record Without (f : A → ℕ) (x : A) (ys : List A) : Type 0 where
    rest : List A
    others : (y : A) → IsIn y ys → (y ≡ x) ⊎ IsIn y rest
    less : total f ys ≡ f x + total f rest

  without : (f : A → ℕ) (x : A) (ys : List A) → IsIn x ys → Without f x ys
  without f x [] m = absurd m
  without f x (y ∷ ys) (inl e) = record { rest = ys; others = first; less = rw e }
    where
      first : (z : A) → IsIn z (y ∷ ys) → (z ≡ x) ⊎ IsIn z ys
      first z (inl g) = inl (g ∙ sym e)
      first z (inr m) = inr m
  without f x (y ∷ ys) (inr m) = with_first (without f x ys m)
    where
      with_first : Without f x ys → Without f x (y ∷ ys)
      with_first w = record { rest = y ∷ w.rest; others = each; less = let e = w.less in omega arith }
        where
          each : (z : A) → IsIn z (y ∷ ys) → (z ≡ x) ⊎ IsIn z (y ∷ w.rest)
          each z (inl e) = inr (inl e)
          each z (inr n) = by_part (w.others z n)
            where
              by_part : (z ≡ x) ⊎ IsIn z w.rest → (z ≡ x) ⊎ IsIn z (y ∷ w.rest)
              by_part (inl e) = inl e
              by_part (inr k) = inr (inr k)

-- ---- a strict order
module _ {A : Type 0} (R : A → A → Type 0) (none : (x : A) → R x x → ⊥) (on : (x y z : A) → R x y → R y z → R x z) where
  pub chain-rest : (x : A) (xs : List A) → Chain R (x ∷ xs) → Chain R xs
  chain-rest x [] h = tt
  chain-rest x (y ∷ xs) h = h.1

  -- the first is before all others
  pub chain_first : (x : A) (xs : List A) → Chain R (x ∷ xs) → All (R x) xs
  chain_first x [] h = tt
  chain_first x (y ∷ xs) h = (h.0, further xs (chain_first y xs h.1))
    where
      further : (zs : List A) → All (R y) zs → All (R x) zs
      further [] g = tt
      further (z ∷ zs) g = (on x y z h.0 g.0, further zs g.1)

  pub chain-total : (f : A → ℕ) (xs ys : List A) → Chain R xs → ((x : A) → IsIn x xs → IsIn x ys) → total f xs ≤ total f ys
  chain-total f [] ys h g = omega arith
  chain-total f (x ∷ xs) ys h g =
      let w = without f x ys (g x (inl refl)) in
      let e = w.less in
      let k = chain-total f xs w.rest (chain-rest x xs h) (λ y m. left w y m (w.others y (g y (inr m)))) in
      omega arith
    where
      left : (w : Without f x ys) (y : A) → IsIn y xs → (y ≡ x) ⊎ IsIn y w.rest → IsIn y w.rest
      left w y m (inl e) = absurd (none x (subst (R x) e (all_in (R x) xs (chain_first x xs h) _ m)))
      left w y m (inr n) = n

  -- two with the same elements are one
  pub one-chain : (xs ys : List A) → Chain R xs → Chain R ys → ((x : A) → IsIn x xs → IsIn x ys) → ((x : A) → IsIn x ys → IsIn x xs) → xs ≡ ys
  one-chain [] [] h g to from = refl
  one-chain [] (y ∷ ys) h g to from = absurd (from y (inl refl))
  one-chain (x ∷ xs) [] h g to from = absurd (to x (inl refl))
  one-chain (x ∷ xs) (y ∷ ys) h g to from =
      let e = first (to x (inl refl)) (from y (inl refl)) in
      let r = one-chain xs ys (chain-rest x xs h) (chain-rest y ys g) (λ z m. later e z m (to z (inr m))) (λ z m. sooner e z m (from z (inr m))) in
      λ i. e i ∷ r i
    where
      first : IsIn x (y ∷ ys) → IsIn y (x ∷ xs) → x ≡ y
      first (inl e) n = e
      first (inr m) (inl e) = sym e
      first (inr m) (inr n) = absurd (none x (on x y x (all_in (R x) xs (chain_first x xs h) _ n) (all_in (R y) ys (chain_first y ys g) _ m)))

      later : x ≡ y → (z : A) → IsIn z xs → IsIn z (y ∷ ys) → IsIn z ys
      later e z m (inl q) = absurd (none x (subst (R x) (q ∙ sym e) (all_in (R x) xs (chain_first x xs h) _ m)))
      later e z m (inr n) = n

      sooner : x ≡ y → (z : A) → IsIn z ys → IsIn z (x ∷ xs) → IsIn z xs
      sooner e z m (inl q) = absurd (none y (subst (R y) (q ∙ e) (all_in (R y) ys (chain_first y ys g) _ m)))
      sooner e z m (inr n) = n
