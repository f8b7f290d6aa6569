-- What is listed place by place: what stands at a place, lists whose places agree, a test of each of them; and stores in the places of a list. Assumes nothing.
use mathlib.Core.Bool.{Bool, true, false, not, ◌&&◌, ◌||◌, not-not, and-true}
use mathlib.Core.List.{List, [], ◌∷◌, ◌++◌, map}
use mathlib.Core.Path.{◌≡◌, refl, sym, ap, ap₂, subst, ◌∙◌}
use Prim.Native.Nat.{ℕ, zero, suc, ◌+◌, ◌<◌, ◌≤◌}
use native.Mathlib.Nat.{add-zero, zero-add}
use native.Mathlib.Numerals.{add-one}
use native.Mathlib.Omega.{arith}
use lib.Dec.{T}
use lib.ListN.{length, get_or, set, take, length-set}
use lib.Seq.{get_or-set_same, get_or-set_other, take-suc, take_all}
use Rattle.records.specs.Lists.{listed_from, listed}
use Rattle.records.proofs.Lists.{listed-snoc}
use Rattle.tesl.specs.Lists.{all, any, below}
use Rattle.tesl.proofs.FormulaLists.{all_append, below_at, below_of}
use Rattle.theory.proofs.Lists.{any_snoc}
use Rattle.work.proofs.Below.{below-miss}

or-not : (a b : Bool) → (not a || b) ≡ not (a && not b)
or-not true b = sym (not-not b)
or-not false b = refl

module _ {A : Type 0} (f : ℕ → A) where
  -- ---- what stands at a place
  module _ (d : A) where
    from_at : (i n k : ℕ) → k < n → get_or (listed_from f i n) k d ≡ f (i + k)
    unfolding listed_from
    from_at i zero k h = absurd (omega arith)
    from_at i (suc n) zero h = rw add-zero
    from_at i (suc n) (suc k) h = let e : i + 1 + k ≡ i + suc k = omega arith in from_at (i + 1) n k (omega arith) ∙ ap f e

    pub listed_at : (n k : ℕ) → k < n → get_or (listed f n) k d ≡ f k
    listed_at n k h = from_at 0 n k h ∙ ap f (zero-add k)

  -- ---- each seen through g
  map-from : {B : Type 0} (g : A → B) (i n : ℕ) → map g (listed_from f i n) ≡ listed_from (λ j. g (f j)) i n
  unfolding listed_from
  map-from g i zero = refl
  map-from g i (suc n) = ap (λ (xs : List _). g (f i) ∷ xs) (map-from g (i + 1) n)

  pub map-listed : {B : Type 0} (g : A → B) (n : ℕ) → map g (listed f n) ≡ listed (λ j. g (f j)) n
  map-listed g n = map-from g 0 n

  -- ---- a test of each
  one_more : (n : ℕ) → listed f (suc n) ≡ listed f n ++ (f n ∷ [])
  one_more n = ap (listed f) (sym (add-one n)) ∙ listed-snoc f n

  module _ (p : A → Bool) where
    pub all_listed : (n : ℕ) → all p (listed f n) ≡ below n (λ k. p (f k))
    unfolding listed_from
    all_listed zero = refl
    all_listed (suc n) = ap (all p) (one_more n) ∙ all_append p (listed f n) (f n ∷ []) ∙ ap₂ ◌&&◌ (all_listed n) (and-true (p (f n)))

    pub any-listed : (n : ℕ) → any p (listed f n) ≡ not (below n (λ k. not (p (f k))))
    unfolding listed_from
    any-listed zero = refl
    any-listed (suc n) =
        ap (any p) (one_more n) ∙ any_snoc p (listed f n) (f n) ∙ ap (λ (b : Bool). b || p (f n)) (any-listed n) ∙ or-not (below n (λ k. not (p (f k)))) (p (f n))

    pub one_of : (n : ℕ) → T (all p (listed f n)) → (k : ℕ) → k < n → T (p (f k))
    one_of n t = below_at n (λ k. p (f k)) (subst T (all_listed n) t)

    pub all_of : (n : ℕ) → ((k : ℕ) → k < n → T (p (f k))) → T (all p (listed f n))
    all_of n h = subst T (sym (all_listed n)) (below_of n (λ k. p (f k)) h)

    pub any_of : (n k : ℕ) → k < n → p (f k) ≡ true → any p (listed f n) ≡ true
    any_of n k h e = any-listed n ∙ ap not (below-miss (λ j. not (p (f j))) n k h (ap not e))

-- ---- places that agree
module _ {A : Type 0} {f g : ℕ → A} where
  from-same : (i n : ℕ) → ((j : ℕ) → j < i + n → g j ≡ f j) → listed_from g i n ≡ listed_from f i n
  unfolding listed_from
  from-same i zero h = refl
  from-same i (suc n) h = rw (h i (omega arith), from-same (i + 1) n (λ j l. h j (omega arith)))

  -- they give one list
  pub listed_same : (n : ℕ) → ((j : ℕ) → j < n → g j ≡ f j) → listed g n ≡ listed f n
  listed_same n h = from-same 0 n (λ j l. h j (omega arith))

  -- and one place more is one element more
  pub listed_next : (n : ℕ) {xs : List A} {a : A} → ((j : ℕ) → j < n → g j ≡ f j) → g n ≡ a → listed f n ≡ xs → listed g (n + 1) ≡ xs ++ (a ∷ [])
  listed_next n h e w = listed-snoc g n ∙ rw (listed_same n h, w, e)

-- ---- stores in a list that reads d past its end
module _ {A : Type 0} (d : A) where
  -- the places before b are as they were
  abbrev pub PlacesStay : ℕ → List A → List A → Type 0
  PlacesStay b was l = (p : ℕ) → p < b → get_or l p d ≡ get_or was p d

  -- what stands at n places from b on
  abbrev places_from : ℕ → ℕ → List A → List A
  places_from b n l = listed (λ k. get_or l (b + k) d) n

  stay-set : (b p : ℕ) (a : A) (was l : List A) → b ≤ p → PlacesStay b was l → PlacesStay b was (set l p a)
  stay-set b p a was l h k q m = get_or-set_other l p q a d (λ e. omega arith) ∙ k q m

  -- places that end before b
  pub places-stay : (b s n : ℕ) (was l : List A) → s + n ≤ b → PlacesStay b was l → places_from s n l ≡ places_from s n was
  places-stay b s n was l h k = listed_same n (λ j m. k (s + j) (omega arith))

  -- ---- the first k elements of x, stored from place b on
  module _ (b : ℕ) (was x : List A) where
    abbrev pub Copied : List A → ℕ → Type 0
    Copied l k = (length l ≡ length was) × (places_from b k l ≡ take k x) × PlacesStay b was l

    pub copied-start : Copied was 0
    unfolding listed_from
    copied-start = (refl, refl, λ p h. refl)

    module _ (l : List A) (k : ℕ) (w : Copied l k) where
      pub copied_more : b + k < length was → k < length x → Copied (set l (b + k) (get_or x k d)) (k + 1)
      copied_more h m =
          let r : b + k < length l = omega (arith, w.0) in (
            length-set l (b + k) (get_or x k d) ∙ w.0,
            listed_next k (λ j i. get_or-set_other l (b + k) (b + j) (get_or x k d) d (λ e. omega arith)) (get_or-set_same l (b + k) (get_or x k d) d r) w.1 ∙ rw (add-one, take-suc x k d m),
            stay-set b (b + k) (get_or x k d) was l (omega arith) w.2,
          )

      pub copied_all : (n : ℕ) → length x ≡ n → n ≡ k → places_from b n l ≡ x
      copied_all n e f = rw f (w.1 ∙ take_all k x (omega arith))
