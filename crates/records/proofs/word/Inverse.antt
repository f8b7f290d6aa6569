-- Two's complement is inverse both ways at every width, and is read by arithmetic without a test; a word and its two bytes are inverse to each other. Assumes nothing.
use mathlib.Core.Path.{◌≡◌, refl, ap, ◌∙◌}
use mathlib.Core.Bool.{Bool, true, false, cond}
use mathlib.Core.List.{[], ◌∷◌}
use Prim.Native.Nat.{ℕ, zero, suc, ◌+◌, ◌-◌, ◌/◌, ◌%◌, ◌^◌, ◌≤◌, ◌<◌}
use native.Mathlib.Omega.{arith}
use native.Mathlib.Nat.{mod-eq_of_lt, mod-eq-sub-mod}
use lib.IntN.{ℤ, pos, negsuc, ◌-ℤ◌, +ℤ-neg_ℤ_cancel}
use lib.Signed.{mag}
use lib.Dec.{ltb}
use lib.Pow.{pow-add}
use borrow.Author.Tests.{lt-ltb, le-ltb, ltb-true, ltb-false}
use Rattle.records.specs.Word.{word_of, word_bytes, signed, from_least, signed_by_remainder, unsigned, tag_of, raw_of}
use Rattle.records.specs.Types.{IsByte, IsWord, IsTag}

twice : (k : ℕ) → 1 ≤ k → 2 ^ k ≡ 2 ^ (k - 1) + 2 ^ (k - 1)
twice k h =
    let e : k ≡ k - 1 + 1 = omega arith in
    ap (λ (i : ℕ). 2 ^ i) e ∙ pow-add 2 (k - 1) 1 ∙ omega arith

pub signed-unsigned : (k : ℕ) (z : ℤ) → 1 ≤ k → mag z < 2 ^ (k - 1) → signed k (unsigned k z) ≡ z
unfolding signed unsigned
signed-unsigned k (pos n) h l = rw (lt-ltb n (2 ^ (k - 1)) l)
signed-unsigned k (negsuc n) h l =
    let e = twice k h in
    rw (le-ltb (2 ^ k - suc n) (2 ^ (k - 1)) (omega arith)) (ap negsuc (omega arith))

-- a difference below 0
difference_below : (a b : ℕ) → a < b → pos a -ℤ pos b ≡ negsuc (b - suc a)
difference_below a zero h = absurd (omega arith)
difference_below a (suc b) h = rw (lt-ltb a (suc b) h)

-- what the signed number z of a word says: the word, and its range
record Says (k w : ℕ) (z : ℤ) : Type 0 where
  word : unsigned k z ≡ w
  range : mag z < 2 ^ (k - 1)

module _ (k w : ℕ) (h : 1 ≤ k) (l : w < 2 ^ k) where
  by-half : (t : Bool) → ltb w (2 ^ (k - 1)) ≡ t → Says k w (cond t (pos w) (negsuc (2 ^ k - suc w)))
  unfolding unsigned
  by-half true e = record { word = refl; range = ltb-true w (2 ^ (k - 1)) e }
  by-half false e =
      let b = ltb-false w (2 ^ (k - 1)) e in
      let d = twice k h in
      record { word = omega arith; range = omega arith }

  says : Says k w (signed k w)
  unfolding signed
  says = by-half (ltb w (2 ^ (k - 1))) refl

  pub unsigned_signed : unsigned k (signed k w) ≡ w
  unsigned_signed = says.word

  pub signed_range : mag (signed k w) < 2 ^ (k - 1)
  signed_range = says.range

  -- below the half nothing is taken off by the remainder, from the half on 2 ^ k
  remainder-by-half : (t : Bool) → ltb w (2 ^ (k - 1)) ≡ t → signed_by_remainder k w ≡ cond t (pos w) (negsuc (2 ^ k - suc w))
  remainder-by-half true e =
      let b = ltb-true w (2 ^ (k - 1)) e in
      let d = twice k h in
      let m : from_least k w ≡ w + 2 ^ (k - 1) = mod-eq_of_lt (omega arith) in
      rw m (+ℤ-neg_ℤ_cancel (pos w) (pos (2 ^ (k - 1))))
  remainder-by-half false e =
      let b = ltb-false w (2 ^ (k - 1)) e in
      let d = twice k h in
      let s : w + 2 ^ (k - 1) - 2 ^ k ≡ w - 2 ^ (k - 1) = omega arith in
      let m : from_least k w ≡ w - 2 ^ (k - 1) = mod-eq-sub-mod (omega arith) ∙ rw s (mod-eq_of_lt (omega arith)) in
      rw m (difference_below (w - 2 ^ (k - 1)) (2 ^ (k - 1)) (omega arith) ∙ ap negsuc (omega arith))

  pub signed-by-remainder : signed_by_remainder k w ≡ signed k w
  unfolding signed
  signed-by-remainder = remainder-by-half (ltb w (2 ^ (k - 1))) refl

-- ---- the 65,536 tags
pub tag-raw : {t : ℤ} → IsTag t → tag_of (raw_of t) ≡ t
tag-raw {t} h = signed-unsigned 16 t (omega arith) h

pub raw-tag : {w : ℕ} → IsWord w → raw_of (tag_of w) ≡ w
raw-tag {w} h = unsigned_signed 16 w (omega arith) h

pub tag-range : {w : ℕ} → IsWord w → IsTag (tag_of w)
tag-range {w} h = signed_range 16 w (omega arith) h

-- ---- the two bytes of a word and of a tag
pub word_back : (w : ℕ) → word_of (w % 256) (w / 256) ≡ w
word_back w = omega arith

pub tag_back : {t : ℤ} → IsTag t → tag_of (word_of (raw_of t % 256) (raw_of t / 256)) ≡ t
tag_back {t} h = ap tag_of (word_back (raw_of t)) ∙ tag-raw h

module _ {low high : ℕ} (l : IsByte low) (h : IsByte high) where
  pub word-range : IsWord (word_of low high)
  word-range = omega arith

  pub word-bytes : word_bytes (word_of low high) ≡ low ∷ high ∷ []
  word-bytes =
      let p : word_of low high % 256 ≡ low = omega arith in
      let q : word_of low high / 256 ≡ high = omega arith in
      rw (p, q)

  pub tag-bytes : word_bytes (raw_of (tag_of (word_of low high))) ≡ low ∷ high ∷ []
  tag-bytes = rw (raw-tag word-range) word-bytes

-- the four ends
ends : (tag_of 0xFFFF ≡ negsuc 0) × (tag_of 0 ≡ pos 0) × (tag_of 0x8000 ≡ negsuc 32767) × (tag_of 0x7FFF ≡ pos 32767)
    × (raw_of (negsuc 0) ≡ 0xFFFF) × (raw_of (pos 0) ≡ 0) × (raw_of (negsuc 32767) ≡ 0x8000) × (raw_of (pos 32767) ≡ 0x7FFF)
unfolding signed unsigned
ends = (refl, refl, refl, refl, refl, refl, refl, refl)
