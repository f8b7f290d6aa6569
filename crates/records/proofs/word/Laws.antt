-- Two's complement on the machine: what it works out, reading and writing, are the definitions of specs/Word.antt. Assumes nothing.
use mathlib.Core.Path.{◌≡◌, refl, sym, ap, ◌∙◌}
use mathlib.Core.Bool.{Bool, true, false, cond}
use Prim.Native.Nat.{ℕ, zero, suc, ◌+◌, ◌-◌, ◌%◌, ◌^◌, ◌<◌, ◌≤◌}
use native.Mathlib.Nat.{mod-lt}
use native.Mathlib.Omega.{arith}
use lib.IntN.{ℤ, pos, negsuc, ◌-ℤ◌}
use lib.Dec.{ltb}
use lib.Pow.{pow_mono}
use lib.Signed.{lt_z, mag}
use borrow.Author.Tests.{le-ltb, ltb-true, ltb-false}
use mir.Syntax.{Width, w16}
use mir.Val.{bits, hbits, to_z, of_z, SFits}
use mir.ValLaws.{bits-suc}
use mir.Facts.{to_z-of_z, to_z_pos}
use Rattle.records.specs.Word.{signed, from_least, unsigned}
use Rattle.records.proofs.word.Inverse.{signed-by-remainder, signed_range}

-- ---- reading by the remainder

-- n less m, below h and not below - h
mag-difference : (n m h : ℕ) → n < m + h → m ≤ h → mag (pos n -ℤ pos m) < h
mag-difference n zero h a b = omega arith
mag-difference n (suc m) h a b = by-test (ltb n (suc m)) refl
  where
    by-test : (t : Bool) → ltb n (suc m) ≡ t → mag (cond t (negsuc (suc m - suc n)) (pos (n - suc m))) < h
    by-test true e = omega arith
    by-test false e = omega (arith, ltb-false n (suc m) e)

-- a remainder by k less m, worked out in the width v. What is asked of k and m are comparisons of numbers, so that `search` closes them
module _ (v : Width) (n k m : ℕ) (one : 1 ≤ k) (room : k ≤ 2 ^ hbits v) where
  as_number : to_z v (n % k) ≡ pos (n % k)
  as_number = to_z_pos v {n = n % k} (omega (arith, mod-lt n one))

  pub difference-fits : m ≤ 2 ^ hbits v → SFits v (to_z v (n % k) -ℤ pos m)
  difference-fits h = rw as_number (record { sfits = mag-difference (n % k) m (2 ^ hbits v) (omega (arith, mod-lt n one)) h })

  worked : m ≤ 2 ^ hbits v → to_z v (of_z v (to_z v (n % k) -ℤ pos m)) ≡ pos (n % k) -ℤ pos m
  worked h = to_z-of_z {w = v} (difference-fits h) ∙ ap (λ (z : ℤ). z -ℤ pos m) as_number

  -- and narrowed to w
  pub narrowed-fits : (w : Width) → hbits w ≤ hbits v → m ≤ 2 ^ hbits w → k ≤ m + 2 ^ hbits w → SFits w (to_z v (of_z v (to_z v (n % k) -ℤ pos m)))
  narrowed-fits w narrower h l =
      rw (worked (omega (arith, h, pow_mono narrower))) (record { sfits = mag-difference (n % k) m (2 ^ hbits w) (omega (arith, mod-lt n one)) h })

-- a word of the width w, worked out in a width v that has room for it beside the sign
module _ (w v : Width) (room : bits w ≤ hbits v) (n : ℕ) (l : n < 2 ^ bits w) where
  pub read-by-remainder : to_z w (of_z w (to_z v (of_z v (to_z v (from_least (bits w) n) -ℤ pos (2 ^ (bits w - 1)))))) ≡ signed (bits w) n
  read-by-remainder =
      let one_bit = bits-suc w in
      let half : bits w - 1 ≡ hbits w = omega arith in
      let f : SFits w (signed (bits w) n) = record { sfits = rw (sym half) (signed_range (bits w) n (omega arith) l) } in
      let e = worked v (n + 2 ^ (bits w - 1)) (2 ^ bits w) (2 ^ (bits w - 1)) (omega arith) (pow_mono room) (pow_mono (omega arith)) in
      rw (e, signed-by-remainder (bits w) n (omega arith) l) (to_z-of_z {w = w} f)

-- ---- writing

-- -1 - z of a negative z
minus-one-neg : (n : ℕ) → negsuc 0 -ℤ negsuc n ≡ pos n
minus-one-neg n = rw (le-ltb (suc n) 1 (omega arith)) (ap pos (omega arith))

module _ (w : Width) where
  -- t < 0 as the machine tests it, on the bits
  pub record Negative (t : ℤ) : Type 0 where
    pub is : t ≡ negsuc (mag t)
    pub minus : to_z w (of_z w (negsuc 0 -ℤ to_z w (of_z w t))) ≡ pos (mag t)
    pub sub-fits : SFits w (negsuc 0 -ℤ to_z w (of_z w t))
    pub word : unsigned (bits w) t ≡ 2 ^ bits w - 1 - mag t
    pub small : mag t < 2 ^ hbits w

  pub negative : (t : ℤ) → SFits w t → lt_z (to_z w (of_z w t)) (pos 0) ≡ true → Negative t
  unfolding unsigned
  negative (pos n) f h = let z = ltb-true n 0 (rw (to_z-of_z {w = w} f) at h) in absurd (omega arith)
  negative (negsuc n) f h =
      let e : negsuc 0 -ℤ to_z w (of_z w (negsuc n)) ≡ pos n = rw (to_z-of_z {w = w} f) (minus-one-neg n) in
      record {
        is = refl;
        minus = rw e (to_z-of_z {w = w} (record { sfits = f.sfits }));
        sub-fits = rw e (record { sfits = f.sfits });
        word = omega arith;
        small = f.sfits;
      }

  pub record NonNegative (t : ℤ) : Type 0 where
    pub is : t ≡ pos (mag t)
    pub same : to_z w (of_z w t) ≡ pos (mag t)
    pub word : unsigned (bits w) t ≡ mag t
    pub small : mag t < 2 ^ hbits w

  pub non_negative : (t : ℤ) → SFits w t → lt_z (to_z w (of_z w t)) (pos 0) ≡ false → NonNegative t
  unfolding unsigned
  non_negative (pos n) f h = record { is = refl; same = to_z-of_z {w = w} f; word = refl; small = f.sfits }
  non_negative (negsuc n) f h = let z : true ≡ false = rw (to_z-of_z {w = w} f) at h in let y : ◌≡◌ {A = ℕ} 0 1 = cc in absurd (omega arith)

-- what the machine reads back of an i16 that it holds
pub back : {z t : ℤ} → mag z < 32768 → z ≡ t → to_z w16 (of_z w16 z) ≡ t
back h e = to_z-of_z {w = w16} (record { sfits = h }) ∙ e
