-- A turn of a loop over lines, of which each begins an obligation or none, as it is stored or as it is read; and of the loop that gathers each once. Assumes nothing.
use mathlib.Core.Bool.{Bool, true, false, cond}
use mathlib.Core.List.{List, [], ◌∷◌, ◌++◌, map, map-append}
use mathlib.Core.Path.{◌≡◌, refl, sym, ap, ap₂, subst, ◌∙◌}
use Prim.Native.Nat.{ℕ, zero, suc, ◌+◌, ◌-◌, ◌<◌, ◌≤◌}
use native.Mathlib.Omega.{arith}
use lib.Dec.{T}
use lib.ListN.{drop, take, length-take, drop_of_length-le}
use Rattle.records.specs.declared.line.Line.{Line}
use Rattle.records.specs.Lists.{listed_from, listed}
use Rattle.records.proofs.Lists.{listed_cons, listed-end}
use Rattle.tesl.specs.Lists.{all, any, filter, flat_map}
use Rattle.tesl.proofs.Tests.{T→≡, ≡→T, and_i}
use Rattle.theory.specs.Adding.{insert_all}
use Rattle.work.proofs.Listing.{one_of}

-- none of the first n stand from there on
pub none_from : {A : Type 0} (xs : List A) (n i : ℕ) → n ≤ i → drop i (take n xs) ≡ []
none_from xs n i h = drop_of_length-le (take n xs) {i = i} (omega (arith, length-take n xs))

-- ---- what lines begin: those from place i on
module _ {E : Type 0} (begins : Line → List E) (f : ℕ → Line) where
  abbrev pub begun_from : ℕ → ℕ → List E
  begun_from n i = flat_map begins (listed_from f i (n - i))

  pub begun-start : (n : ℕ) → flat_map begins (listed f n) ≡ begun_from n 0
  begun-start n = let k : n - 0 ≡ n = omega arith in rw k

  module _ (n i : ℕ) where
    pub begun-end : n ≤ i → begun_from n i ≡ []
    begun-end h = rw (listed-end f n i h)

    pub begun-line : i < n → {l : Line} → l ≡ f i → (os : List E) → os ≡ begins l → begun_from n i ≡ os ++ begun_from n (i + 1)
    begun-line h e os g = rw (listed_cons f n i h, g, e)

-- ---- what all lines begin, each once: what is begun so far, xs, with what those from i on begin
module _ {E : Type 0} (same : E → E → Bool) (begins : Line → List E) (f : ℕ → Line) (n i : ℕ) (xs : List E) {whole : List E} (w : whole ≡ insert_all same xs (begun_from begins f n i)) where
  pub gathering-end : n ≤ i → xs ≡ whole
  gathering-end h = sym (w ∙ rw (begun-end begins f n i h))

  module _ (h : i < n) {l : Line} (e : l ≡ f i) where
    pub gathering-nothing : [] ≡ begins l → whole ≡ insert_all same xs (begun_from begins f n (i + 1))
    gathering-nothing g = w ∙ ap (insert_all same xs) (begun-line begins f n i h e [] g)

    module _ (o : E) (g : o ∷ [] ≡ begins l) (t : Bool) (a : t ≡ any (same o) xs) where
      one : whole ≡ insert_all same (cond t xs (xs ++ (o ∷ []))) (begun_from begins f n (i + 1))
      one = w ∙ ap (insert_all same xs) (begun-line begins f n i h e (o ∷ []) g) ∙ rw a

      pub gathering-again : t ≡ true → whole ≡ insert_all same xs (begun_from begins f n (i + 1))
      gathering-again u = one ∙ rw u

      pub gathering-more : t ≡ false → (ys : List E) → ys ≡ xs ++ (o ∷ []) → whole ≡ insert_all same ys (begun_from begins f n (i + 1))
      gathering-more u ys v = one ∙ rw (u, v)

-- ---- what lines begin, read
module _ {A E : Type 0} (read : A → E) (stored : Line → List A) (begins : Line → List E) (f : ℕ → Line) where
  from-read : (i n : ℕ) → ((j : ℕ) → j < i + n → map read (stored (f j)) ≡ begins (f j)) → map read (flat_map stored (listed_from f i n)) ≡ flat_map begins (listed_from f i n)
  unfolding listed_from
  from-read i zero h = refl
  from-read i (suc n) h = map-append read (stored (f i)) (flat_map stored (listed_from f (i + 1) n)) ∙ ap₂ ◌++◌ (h i (omega arith)) (from-read (i + 1) n (λ j l. h j (omega arith)))

  pub begun-read : (n : ℕ) → ((j : ℕ) → j < n → map read (stored (f j)) ≡ begins (f j)) → map read (flat_map stored (listed f n)) ≡ flat_map begins (listed f n)
  begun-read n h = from-read 0 n (λ j l. h j (omega arith))

-- ---- the lines of a part of the plan are of its kind
filtered : (p : Line → Bool) (ls : List Line) → T (all p (filter p ls))
filtered p [] = tt
filtered p (l ∷ ls) = by-test (p l) refl (filtered p ls)
  where
    by-test : (b : Bool) → p l ≡ b → T (all p (filter p ls)) → T (all p (cond b (l ∷ filter p ls) (filter p ls)))
    by-test true e t = and_i (p l) (all p (filter p ls)) (≡→T e) t
    by-test false e t = t

pub of-kind : (p : Line → Bool) (f : ℕ → Line) (n : ℕ) (ls : List Line) → listed f n ≡ filter p ls → (j : ℕ) → j < n → p (f j) ≡ true
of-kind p f n ls e j h = T→≡ (p (f j)) (one_of f p n (subst (λ (xs : List Line). T (all p xs)) (sym e) (filtered p ls)) j h)
