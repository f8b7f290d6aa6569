-- Tests over lists, number by number: a test of a whole list is true exactly when it is true at each number below the length. Assumes nothing.
use mathlib.Core.Bool.{Bool, true, false, not, cond, ◌&&◌, ◌||◌, and_assoc}
use mathlib.Core.List.{List, [], ◌∷◌, ◌++◌, map, append-nil}
use mathlib.Core.Option.{some}
use mathlib.Core.Path.{◌≡◌, refl, sym, ap, ◌∙◌, subst}
use Prim.Native.Nat.{ℕ, zero, suc, ◌+◌, ◌<◌}
use native.Mathlib.Nat.{le_of_suc-le-suc, not-suc-le-zero}
use native.Mathlib.Decide.{ℕ_discrete}
use native.Mathlib.Omega.{arith}
use lib.Dec.{T}
use lib.ListN.{length, get_or, take}
use lib.Seq.{append_snoc}
use Rattle.tesl.proofs.Tests.{and_l, and_r, and_i, or_l, or_r, or-e}
use Rattle.tesl.specs.Lists.{all, any, filter, count, last_of, always, below}

-- ---- at each number

module _ {A : Type 0} where
  pub any-find : (p : A → Bool) (xs : List A) (d : A) → T (any p xs) → (m : ℕ) × (m < length xs) × T (p (get_or xs m d))
  any-find p [] d t = absurd t
  any-find p (x ∷ xs) d t = or-e (p x) (any p xs) t (λ u. (0, omega arith, u)) (λ u. next (any-find p xs d u))
    where
      next : ((m : ℕ) × (m < length xs) × T (p (get_or xs m d))) → (m : ℕ) × (m < length (x ∷ xs)) × T (p (get_or (x ∷ xs) m d))
      next w = (suc w.0, let h = w.1 in omega arith, w.2)

  pub any-has : (p : A → Bool) (xs : List A) (d : A) (m : ℕ) → m < length xs → T (p (get_or xs m d)) → T (any p xs)
  any-has p [] d m h t = absurd (not-suc-le-zero h)
  any-has p (x ∷ xs) d zero h t = or_l (p x) (any p xs) t
  any-has p (x ∷ xs) d (suc m) h t = or_r (p x) (any p xs) (any-has p xs d m (le_of_suc-le-suc h) t)

  -- p of each element and the ones before it, those in `before` first
  pub always-each : (p : List A → A → Bool) (before xs : List A) (d : A) → T (always p before xs) → (n : ℕ) → n < length xs → T (p (before ++ take n xs) (get_or xs n d))
  always-each p before [] d t n h = absurd (not-suc-le-zero h)
  always-each p before (x ∷ xs) d t zero h = rw append-nil (and_l (p before x) (always p (before ++ (x ∷ [])) xs) t)
  always-each p before (x ∷ xs) d t (suc n) h =
      rw (← append_snoc before x (take n xs)) (always-each p (before ++ (x ∷ [])) xs d (and_r (p before x) (always p (before ++ (x ∷ [])) xs) t) n (le_of_suc-le-suc h))

  pub always-of : (p : List A → A → Bool) (before xs : List A) (d : A) → ((n : ℕ) → n < length xs → T (p (before ++ take n xs) (get_or xs n d))) → T (always p before xs)
  always-of p before [] d h = tt
  always-of p before (x ∷ xs) d h = and_i (p before x) (always p (before ++ (x ∷ [])) xs)
      (rw append-nil at (h 0 (omega arith)))
      (always-of p (before ++ (x ∷ [])) xs d (λ n b. rw (append_snoc before x (take n xs)) (h (suc n) (omega arith))))

  pub all_append : (p : A → Bool) (xs ys : List A) → all p (xs ++ ys) ≡ (all p xs && all p ys)
  all_append p [] ys = refl
  all_append p (x ∷ xs) ys = ap (λ (b : Bool). p x && b) (all_append p xs ys) ∙ sym (and_assoc (p x) (all p xs) (all p ys))

  pub all_true : (xs : List A) → all (λ x. true) xs ≡ true
  all_true [] = refl
  all_true (x ∷ xs) = all_true xs

  -- p of those that q leaves
  pub all_filter : (p q : A → Bool) (xs : List A) → all p (filter (λ x. not (q x)) xs) ≡ all (λ x. q x || p x) xs
  all_filter p q [] = refl
  all_filter p q (x ∷ xs) =
      elim (q x) as (λ b. all p (cond (not b) (x ∷ filter (λ x. not (q x)) xs) (filter (λ x. not (q x)) xs)) ≡ ((b || p x) && all (λ x. q x || p x) xs))
      [ true ↦ all_filter p q xs | false ↦ ap (λ (b : Bool). p x && b) (all_filter p q xs) ]

  pub count-snoc : (p : A → Bool) (xs : List A) (x : A) → count p (xs ++ (x ∷ [])) ≡ cond (p x) 1 0 + count p xs
  count-snoc p [] x = omega arith
  count-snoc p (y ∷ xs) x =
      elim (p y) as (λ b. cond b (suc (count p (xs ++ (x ∷ [])))) (count p (xs ++ (x ∷ []))) ≡ cond (p x) 1 0 + cond b (suc (count p xs)) (count p xs))
      [ true ↦ omega (arith, count-snoc p xs x) | false ↦ count-snoc p xs x ]

  pub count-append : (p : A → Bool) (xs ys : List A) → count p (xs ++ ys) ≡ count p xs + count p ys
  count-append p [] ys = omega arith
  count-append p (x ∷ xs) ys =
      elim (p x) as (λ b. cond b (suc (count p (xs ++ ys))) (count p (xs ++ ys)) ≡ cond b (suc (count p xs)) (count p xs) + count p ys)
      [ true ↦ omega (arith, count-append p xs ys) | false ↦ count-append p xs ys ]

  pub last_of_snoc : {B : Type 0} (f : A → B) (xs : List A) (x : A) → last_of (map f (xs ++ (x ∷ []))) ≡ some (f x)
  last_of_snoc f [] x = refl
  last_of_snoc f (y ∷ []) x = refl
  last_of_snoc f (y ∷ (z ∷ zs)) x = last_of_snoc f (z ∷ zs) x

pub below_at : (n : ℕ) (p : ℕ → Bool) → T (below n p) → (k : ℕ) → k < n → T (p k)
below_at zero p t k h = absurd (not-suc-le-zero h)
below_at (suc n) p t k h = go (ℕ_discrete k n) (λ l. below_at n p (and_l (below n p) (p n) t) k l)
  where
    go : Dec (k ≡ n) → (k < n → T (p k)) → T (p k)
    go (yes e) r = subst (λ (j : ℕ). T (p j)) (sym e) (and_r (below n p) (p n) t)
    go (no d) r = r (omega arith)

pub below_of : (n : ℕ) (p : ℕ → Bool) → ((k : ℕ) → k < n → T (p k)) → T (below n p)
below_of zero p h = tt
below_of (suc n) p h = and_i (below n p) (p n) (below_of n p (λ k b. h k (omega arith))) (h n (omega arith))
