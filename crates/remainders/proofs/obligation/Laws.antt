-- Dues as numbers, counted from the least tag: they compare as their dues do. Assumes nothing.
use mathlib.Core.Bool.{Bool, true, false, not, cond, ◌&&◌, and_assoc, and_comm}
use mathlib.Core.Path.{◌≡◌, refl, sym, ap, subst, ◌∙◌}
use Prim.Native.Nat.{ℕ, suc, ◌-◌, ◌<◌, ◌≤◌}
use native.Mathlib.Nat.{add-zero}
use native.Mathlib.Omega.{arith}
use lib.Dec.{T, eqb, ltb, leb}
use lib.IntN.{ℤ, pos, negsuc, nat_abs, ◌+ℤ◌, +ℤ_assoc}
use lib.Signed.{mag, le_z}
use mir.Syntax.{w16}
use mir.Val.{to_z, of_z}
use borrow.Author.Tests.{eq-eqb, ne_eqb, le-leb, le-ltb, lt-leb, ltb-true, ltb-false}
use Rattle.records.proofs.word.Laws.{back}
use Rattle.tesl.specs.Fits.{eq_z}
use Rattle.tesl.specs.Remainder.{same_obligation, same_countdown}
use Rattle.tesl.proofs.FormulaOwed.{eq_z→eq, eq→eq_z}
use Rattle.tesl.proofs.Tests.{≡→T}
use Rattle.remainders.specs.declared.obligation.Obligation as code
use Rattle.remainders.specs.Word.{due_of, due_number}
use Rattle.remainders.specs.View.{obligation_of, countdown_of, same_stored}
use Rattle.remainders.proofs.Whole.{ltb-at}

-- ---- the number of a due

pub number-due : (n : ℕ) → due_number (due_of n) ≡ n
unfolding due_of due_number
number-due n = ap nat_abs (+ℤ_assoc (pos n) (negsuc 32767) (pos 32768)) ∙ add-zero n

-- ---- compared

leb-by : (a b c d : ℕ) → (a ≤ b → c ≤ d) → (b < a → d < c) → leb c d ≡ leb a b
leb-by a b c d f g = by-test (ltb b a) refl
  where
    by-test : (t : Bool) → ltb b a ≡ t → leb c d ≡ leb a b
    by-test true e = let h = ltb-true b a e in lt-leb c d (g h) ∙ sym (lt-leb a b h)
    by-test false e = let h = ltb-false b a e in le-leb c d (f h) ∙ sym (le-leb a b h)

pub due-le : (a b : ℕ) → le_z (due_of a) (due_of b) ≡ leb a b
unfolding due_of
due-le a b = by_tests (ltb a 32768) refl (ltb b 32768) refl
  where
    by_tests : (s : Bool) → ltb a 32768 ≡ s → (t : Bool) → ltb b 32768 ≡ t → le_z (cond s (negsuc (32768 - suc a)) (pos (a - 32768))) (cond t (negsuc (32768 - suc b)) (pos (b - 32768))) ≡ leb a b
    by_tests true e true f = let h = ltb-true a 32768 e in let k = ltb-true b 32768 f in leb-by a b (32768 - suc b) (32768 - suc a) (λ l. omega arith) (λ l. omega arith)
    by_tests true e false f = let h = ltb-true a 32768 e in let k = ltb-false b 32768 f in sym (le-leb a b (omega arith))
    by_tests false e true f = let h = ltb-false a 32768 e in let k = ltb-true b 32768 f in sym (lt-leb a b (omega arith))
    by_tests false e false f = let h = ltb-false a 32768 e in let k = ltb-false b 32768 f in leb-by a b (a - 32768) (b - 32768) (λ l. omega arith) (λ l. omega arith)

pub due-eq : (a b : ℕ) → eq_z (due_of a) (due_of b) ≡ eqb a b
due-eq a b = by-test (eq_z (due_of a) (due_of b)) refl
  where
    by-test : (t : Bool) → eq_z (due_of a) (due_of b) ≡ t → t ≡ eqb a b
    by-test true e = sym (eq-eqb a b (sym (number-due a) ∙ ap due_number (eq_z→eq (due_of a) (due_of b) (≡→T e)) ∙ number-due b))
    by-test false e = sym (ne_eqb a b (λ q. subst T e (eq→eq_z (ap due_of q))))

-- the number of a tag against one of a due
module _ (r n : ℕ) {tag : ℤ} (e : due_of r ≡ tag) where
  pub number-late : ltb n r ≡ not (le_z tag (due_of n))
  number-late = ltb-at n r (ltb n r) refl ∙ ap not (sym (due-le r n) ∙ ap (λ (z : ℤ). le_z z (due_of n)) e)

  pub number-met : eqb r n ≡ eq_z tag (due_of n)
  number-met = sym (due-eq r n) ∙ ap (λ (z : ℤ). eq_z z (due_of n)) e

-- of `due_number`, handed a tag
pub held-due : {z t u : ℤ} (d : ℕ) → mag t < 32768 → z ≡ to_z w16 (of_z w16 t) +ℤ pos d → t ≡ u → z ≡ u +ℤ pos d
held-due d h e f = e ∙ ap (λ (x : ℤ). x +ℤ pos d) (back h f)

-- of `tag_number`, handed a tag
pub held_number : {z t u : ℤ} → mag t < 32768 → z ≡ to_z w16 (of_z w16 t) → t ≡ u → z ≡ u
held_number h e f = e ∙ back h f

-- the number of a tag has 16 bits
number_small : (t : ℤ) → mag t < 32768 → due_number t < 65536
unfolding due_number
number_small (pos a) h = omega arith
number_small (negsuc a) h = rw (le-ltb 32768 (suc a) (omega arith)) (omega arith)

pub tag_small : (n : ℕ) (t : ℤ) → mag t < 32768 → due_of n ≡ t → n < 65536
tag_small n t h e = omega (arith, number_small t h, sym (number-due n) ∙ ap due_number e)

-- what `==` tests of two
pub same_fields : (a b : code.Obligation) → (eqb a.clock b.clock && (eqb a.on b.on && eqb a.number b.number)) ≡ same_stored a b
same_fields a b = ap (λ (t : Bool). eqb a.clock b.clock && t) (and_comm (eqb a.on b.on) (eqb a.number b.number))

-- obligations are the same where they are stored the same
pub same_read : (a b : code.Obligation) → same_obligation (obligation_of a) (obligation_of b) ≡ same_stored a b
same_read a b = ap (λ (t : Bool). (eqb a.clock b.clock && t) && eqb a.on b.on) (due-eq a.number b.number) ∙ and_assoc (eqb a.clock b.clock) (eqb a.number b.number) (eqb a.on b.on)

-- countdowns too
pub same-counted : (a b : code.Obligation) → same_countdown (countdown_of a) (countdown_of b) ≡ same_stored a b
same-counted a b = and_assoc (eqb a.clock b.clock) (eqb a.number b.number) (eqb a.on b.on)
