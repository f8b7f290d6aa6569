-- A loop that sets one place after the other of an array of blank places, for any elements. Assumes nothing.
use mathlib.Core.Bool.{Bool, true, false}
use mathlib.Core.List.{List, map}
use mathlib.Core.Logic.{⊎_elim}
use mathlib.Core.Path.{◌≡◌, refl, sym, ap, ◌∙◌}
use Prim.Native.Nat.{ℕ, zero, suc, ◌+◌, ◌-◌, ◌<◌, ◌≤◌}
use native.Mathlib.Nat.{eq-or-lt_of_le}
use native.Mathlib.Numerals.{add-one}
use native.Mathlib.Omega.{arith}
use lib.Dec.{ltb}
use lib.ListN.{length, get_or, set, take, replicate, length-set, length-replicate}
use lib.Seq.{get_or-append-add, get_or-set_same, get_or-set_other, ext_get_or}
use borrow.Author.Tests.{ltb-true, ltb-false}
use Rattle.records.specs.Lists.{listed_from, listed, filled}
use Rattle.records.proofs.Lists.{length-listed}
use Rattle.work.proofs.Listing.{listed_at, listed_next}
use Rattle.remainders.proofs.Places.{first_more}

pub blank-at : {A : Type 0} (d : A) (n k : ℕ) → get_or (replicate n d) k d ≡ d
blank-at d zero k = refl
blank-at d (suc n) zero = refl
blank-at d (suc n) (suc k) = blank-at d n k

-- past what fills the front
pub filled-past : {A : Type 0} (d : A) (n : ℕ) (xs : List A) (k : ℕ) → length xs ≤ k → get_or (filled n d xs) k d ≡ d
filled-past d n xs k h =
    let e : k ≡ length xs + (k - length xs) = omega arith in
    ap (λ j. get_or (filled n d xs) j d) e ∙ get_or-append-add xs (replicate (n - length xs) d) (k - length xs) d ∙ blank-at d (n - length xs) (k - length xs)

-- the first i places are what P asks of each, the others are blank
pub record Placing {A : Type 0} (P : ℕ → A → Type 0) (d : A) (room : ℕ) (xs : List A) (i : ℕ) : Type 0 where
  pub size : length xs ≡ room
  pub places : (k : ℕ) → k < i → P k (get_or xs k d)
  pub rest : (k : ℕ) → i ≤ k → get_or xs k d ≡ d

module _ {A : Type 0} (P : ℕ → A → Type 0) (d : A) (room : ℕ) where
  pub placing-start : Placing P d room (replicate room d) 0
  placing-start = record { size = length-replicate room d; places = λ k h. absurd (omega arith); rest = λ k h. blank-at d room k }

  pub placing-more : {xs : List A} {i : ℕ} → Placing P d room xs i → i < room → (a : A) → P i a → Placing P d room (set xs i a) (i + 1)
  placing-more {xs} {i} w h a p =
      record {
        size = length-set xs i a ∙ w.size;
        places = λ k l. ⊎_elim
            (λ (e : k ≡ i). rw (e, get_or-set_same xs i a d (omega (arith, w.size))) p)
            (λ (g : k < i). rw (get_or-set_other xs i k a d (λ e. omega arith)) (w.places k g))
            (eq-or-lt_of_le (omega arith));
        rest = λ k l. get_or-set_other xs i k a d (λ e. omega arith) ∙ w.rest k (omega arith);
      }

-- what holds of the first n places and of the blank, which the others hold, holds of each
pub each-place : {A : Type 0} (P : A → Type 0) (d : A) (xs : List A) (n : ℕ) → ((k : ℕ) → k < n → P (get_or xs k d)) → ((k : ℕ) → n ≤ k → get_or xs k d ≡ d) → P d → (k : ℕ) → P (get_or xs k d)
each-place P d xs n first rest p k = by-test (ltb k n) refl
  where
    by-test : (b : Bool) → ltb k n ≡ b → P (get_or xs k d)
    by-test true e = first k (ltb-true k n e)
    by-test false e = rw (rest k (ltb-false k n e)) p

-- the first n elements of an array, seen through g, are listed, if each place is
pub first-listed : {A B : Type 0} (g : A → B) (f : ℕ → B) (d : A) (xs : List A) (n : ℕ) → n ≤ length xs → ((k : ℕ) → k < n → g (get_or xs k d) ≡ f k) → map g (take n xs) ≡ listed f n
unfolding listed_from
first-listed g f d xs zero h p = refl
first-listed g f d xs (suc n) h p =
    ap (λ (m : ℕ). map g (take m xs)) (sym (add-one n)) ∙ first_more g xs d n h
    ∙ sym (listed_next n (λ j l. refl) (sym (p n (omega arith))) (sym (first-listed g f d xs n (omega arith) (λ k l. p k (omega arith))))) ∙ ap (listed f) (add-one n)

-- what is listed is an array, if each place is
pub listed-is : {A : Type 0} (d : A) (f : ℕ → A) (n : ℕ) (xs : List A) → length xs ≡ n → ((k : ℕ) → k < n → f k ≡ get_or xs k d) → listed f n ≡ xs
listed-is d f n xs l h =
    ext_get_or d (listed f n) xs (length-listed f n ∙ sym l) (λ k m. let e : k < n = omega (arith, length-listed f n) in listed_at f d n k e ∙ h k e)
