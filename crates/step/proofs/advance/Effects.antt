-- The clocks in both of two lists, and in either. Assumes nothing.
use mathlib.Core.Bool.{Bool, true, false, ◌&&◌, ◌||◌, and-false, or-false}
use mathlib.Core.List.{List, [], ◌∷◌}
use mathlib.Core.Path.{◌≡◌, refl, sym, ap, ◌∙◌}
use Prim.Native.Nat.{ℕ, zero, suc, ◌+◌, ◌-◌, ◌<◌, ◌≤◌}
use native.Mathlib.Numerals.{add-one}
use native.Mathlib.Omega.{arith}
use lib.ListN.{length, drop, get_or}
use lib.Seq.{drop-cons, ext_get_or}
use Rattle.records.specs.Lists.{listed_from, listed}
use Rattle.records.proofs.Lists.{listed_cons, listed-end, length-listed}
use Rattle.theory.specs.Step.{overlap}
use Rattle.work.specs.Carried.{either}
use Rattle.work.proofs.Listing.{listed_at}

-- ---- a clock in both, from place k on
module _ (xs : List Bool) (f : ℕ → Bool) (n k : ℕ) {whole : Bool} (w : whole ≡ overlap (drop k xs) (listed_from f k (n - k))) where
  nothing : (ys : List Bool) → overlap ys [] ≡ false
  nothing [] = refl
  nothing (y ∷ ys) = refl

  pub overlap-end : n ≤ k → false ≡ whole
  overlap-end h = sym (w ∙ rw (listed-end f n k h) (nothing (drop k xs)))

  module _ (h : k < n) (l : k < length xs) where
    turn : whole ≡ ((get_or xs k false && f k) || overlap (drop (k + 1) xs) (listed_from f (k + 1) (n - (k + 1))))
    turn = w ∙ rw (listed_cons f n k h, drop-cons xs k false l, add-one k)

    pub overlap-here : get_or xs k false ≡ true → f k ≡ true → true ≡ whole
    overlap-here a b = sym (turn ∙ rw (a, b))

    pub overlap-more : (get_or xs k false && f k) ≡ false → whole ≡ overlap (drop (k + 1) xs) (listed_from f (k + 1) (n - (k + 1)))
    overlap-more a = turn ∙ rw a

pub not-here : (a : Bool) {b : Bool} → b ≡ false → (a && b) ≡ false
not-here a e = rw e (and-false a)

pub not-barred : {a : Bool} (b : Bool) → a ≡ false → (a && b) ≡ false
not-barred b e = rw e

-- ---- the clocks in either
length-either : (xs ys : List Bool) → length (either xs ys) ≡ length xs
length-either [] ys = refl
length-either (x ∷ xs) [] = refl
length-either (x ∷ xs) (y ∷ ys) = ap suc (length-either xs ys)

either-at : (xs ys : List Bool) (k : ℕ) → k < length xs → get_or (either xs ys) k false ≡ (get_or xs k false || get_or ys k false)
either-at [] ys k h = absurd (omega arith)
either-at (x ∷ xs) [] k h = sym (or-false (get_or (x ∷ xs) k false))
either-at (x ∷ xs) (y ∷ ys) zero h = refl
either-at (x ∷ xs) (y ∷ ys) (suc k) h = either-at xs ys k (omega arith)

pub either_listed : (f g : ℕ → Bool) (n : ℕ) (ys : List Bool) → ((k : ℕ) → k < n → g k ≡ (f k || get_or ys k false)) → listed g n ≡ either (listed f n) ys
either_listed f g n ys h =
    ext_get_or false (listed g n) (either (listed f n) ys) (length-listed g n ∙ sym (length-either (listed f n) ys ∙ length-listed f n))
    (λ k l.
    let m : k < n = omega (arith, length-listed g n) in
    listed_at g false n k m ∙ h k m ∙ rw (either-at (listed f n) ys k (omega (arith, length-listed f n)), listed_at f false n k m))
