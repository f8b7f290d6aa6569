-- Whole numbers: the tests `eq_z` and `le_z`, and the range of a due. Assumes nothing.
use mathlib.Core.Bool.{true, false, not, cond}
use Prim.Native.Nat.{ℕ, suc, ◌-◌, ◌≤◌, ◌<◌}
use native.Mathlib.Omega.{arith}
use lib.Dec.{T, leb, ltb, leb→le, le→leb, ltb→lt, nltb→le, eqb_refl}
use lib.IntN.{ℤ, pos, negsuc, ◌+ℤ◌, sub_ℕ}
use lib.Signed.{le_z}
use Rattle.records.specs.Types.{IsTag}
use Rattle.tesl.specs.Fits.{eq_z, most_tag}
use Rattle.theory.specs.Limits.{least_tag, due_ok}
use Rattle.tesl.proofs.Tests.{and_i}

pub eq_z-refl : (a : ℤ) → T (eq_z a a)
eq_z-refl (pos a) = eqb_refl a
eq_z-refl (negsuc a) = eqb_refl a

pub le_z-trans : (a b c : ℤ) → T (le_z a b) → T (le_z b c) → T (le_z a c)
le_z-trans (pos a) (pos b) (pos c) h k = le→leb a c (let p = leb→le a b h in let q = leb→le b c k in omega arith)
le_z-trans (pos a) (pos b) (negsuc c) h k = k
le_z-trans (pos a) (negsuc b) c h k = absurd h
le_z-trans (negsuc a) (pos b) (pos c) h k = tt
le_z-trans (negsuc a) (pos b) (negsuc c) h k = absurd k
le_z-trans (negsuc a) (negsuc b) (pos c) h k = tt
le_z-trans (negsuc a) (negsuc b) (negsuc c) h k = le→leb c a (let p = leb→le b a h in let q = leb→le c b k in omega arith)

-- ---- dues: a tag; and a tag and a delay, from −32,768 on

pub tag-due : (z : ℤ) → IsTag z → T (due_ok most_tag z)
tag-due (pos n) h = le→leb n 32767 (omega arith)
tag-due (negsuc n) h = and_i (leb n 32767) true (le→leb n 32767 (omega arith)) tt

-- a − b, by cases on which is larger
subℕ-ind : (P : ℤ → Type 0) (a b : ℕ) → (a < b → P (negsuc (b - suc a))) → (b ≤ a → P (pos (a - b))) → P (sub_ℕ a b)
subℕ-ind P a b f g =
    elim (ltb a b) as (λ c. (T c → a < b) → (T (not c) → b ≤ a) → P (cond c (negsuc (b - suc a)) (pos (a - b)))) [
      | true ↦ λ u v. f (u tt)
      | false ↦ λ u v. g (v tt)
    ] (ltb→lt a b) (nltb→le a b)

pub delay-due : (z : ℤ) (d : ℕ) → IsTag z → T (le_z least_tag (z +ℤ pos d))
delay-due (pos n) d t = tt
delay-due (negsuc n) d t = subℕ-ind (λ z. T (le_z least_tag z)) d (suc n) (λ l. le→leb (suc n - suc d) 32767 (omega arith)) (λ l. tt)
