-- A number's digits: the last one and those before it, and how many there are; a tag's count by its sign. Assumes nothing.
use mathlib.Core.Bool.{Bool, true, false, cond}
use mathlib.Core.List.{List, [], ◌∷◌, ◌++◌}
use mathlib.Core.Path.{◌≡◌, refl, sym, ap, ◌∙◌}
use Prim.Native.Nat.{ℕ, zero, suc, ◌+◌, ◌/◌, ◌%◌, ◌^◌, ◌≤◌, ◌<◌}
use native.Mathlib.Omega.{arith}
use lib.Dec.{ltb}
use lib.ListN.{length, length-append}
use borrow.Author.Tests.{lt-ltb, le-ltb, ltb-true, ltb-false}
use lib.IntN.{ℤ, pos, nat_abs}
use lib.Signed.{lt_z}
use mir.Syntax.{w16}
use mir.Val.{to_z, of_z, SFits}
use mir.Facts.{to_z-of_z}
use Rattle.records.proofs.word.Laws.{negative, non_negative}
use Rattle.text.specs.Text.{ascii, digit, digits, decimal, cents, hundredths}

-- more than enough places change nothing
enough : (k m n : ℕ) → n < k → n < m → digits k n ≡ digits m n
unfolding digits
enough zero m n h l = absurd (omega arith)
enough (suc k) zero n h l = absurd (omega arith)
enough (suc k) (suc m) n h l = by-test (ltb n 10) refl (λ e. enough k m (n / 10) (omega arith) (omega arith))
  where
    by-test : (b : Bool) → ltb n 10 ≡ b → (10 ≤ n → digits k (n / 10) ≡ digits m (n / 10)) → cond b (digit n ∷ []) (digits k (n / 10) ++ (digit (n % 10) ∷ [])) ≡ cond b (digit n ∷ []) (digits m (n / 10) ++ (digit (n % 10) ∷ []))
    by-test true e rest = refl
    by-test false e rest = ap (λ (ds : List ℕ). ds ++ (digit (n % 10) ∷ [])) (rest (ltb-false n 10 e))

pub decimal-one : (n : ℕ) → n < 10 → decimal n ≡ digit n ∷ []
unfolding digits
decimal-one n h = rw (lt-ltb n 10 h)

pub decimal-more : (n : ℕ) → 10 ≤ n → decimal n ≡ decimal (n / 10) ++ (digit (n % 10) ∷ [])
unfolding digits
decimal-more n h = rw (le-ltb n 10 h, enough n (suc (n / 10)) (n / 10) (omega arith) (omega arith))

pub longer : (n : ℕ) → 10 ≤ n → length (decimal n) ≡ length (decimal (n / 10)) + 1
longer n h = ap length (decimal-more n h) ∙ length-append (decimal (n / 10)) (digit (n % 10) ∷ [])

pub length_digits : (k n : ℕ) → n < 10 ^ suc k → length (decimal n) ≤ suc k
length_digits zero n h = omega (arith, ap length (decimal-one n h))
length_digits (suc k) n h = by-test (ltb n 10) refl (length_digits k (n / 10) (omega arith))
  where
    by-test : (b : Bool) → ltb n 10 ≡ b → length (decimal (n / 10)) ≤ suc k → length (decimal n) ≤ suc (suc k)
    by-test true e l = omega (arith, ap length (decimal-one n (ltb-true n 10 e)))
    by-test false e l = omega (arith, l, longer n (ltb-false n 10 e))

-- 64 bits hold numbers of at most 20 digits
pub length-decimal : (n : ℕ) → n < 2 ^ 64 → length (decimal n) ≤ 20
length-decimal n h = length_digits 19 n (omega arith)

-- ---- a tag's count, by its sign and its size as the code has them

module _ (tag : ℤ) {count : ℕ} (f : SFits w16 tag) (e : count ≡ nat_abs (to_z w16 (of_z w16 tag))) where
  pub below-zero : lt_z (to_z w16 (of_z w16 tag)) (pos 0) ≡ true → ascii "-" ++ cents count ≡ hundredths tag
  unfolding hundredths
  below-zero h = let n = negative w16 tag f h in ap (λ (m : ℕ). ascii "-" ++ cents m) (e ∙ ap nat_abs (to_z-of_z f ∙ n.is)) ∙ sym (ap hundredths n.is)

  pub from_zero : lt_z (to_z w16 (of_z w16 tag)) (pos 0) ≡ false → cents count ≡ hundredths tag
  unfolding hundredths
  from_zero h = let n = non_negative w16 tag f h in ap cents (e ∙ ap nat_abs (to_z-of_z f ∙ n.is)) ∙ sym (ap hundredths n.is)
