-- What a chain over a range of numbers answers, and the array that a function of the place makes. Assumes nothing.
use mathlib.Core.Bool.{Bool, ◌&&◌}
use mathlib.Core.List.{List}
use mathlib.Core.Logic.{⊎_elim}
use mathlib.Core.Path.{◌≡◌, refl, sym, ap, ap₂, subst, ◌∙◌}
use Prim.Native.Nat.{ℕ, zero, suc, ◌+◌, ◌<◌, ◌≤◌}
use native.Mathlib.Nat.{eq-or-lt_of_le}
use native.Mathlib.Omega.{arith}
use denote.Param.Members.{Mut, Called}
use lib.ListN.{get_or}
use Rattle.std.specs.Array.{IsFromFnResult, IsFromFnResultFrom}
use Rattle.std.specs.List.{list_all, range_with_len}
use Rattle.records.specs.Lists.{listed}
use Rattle.tesl.specs.Lists.{below}
use Rattle.work.proofs.Below.{below-ext, below-front}
use Rattle.remainders.proofs.rows.Placing.{listed-is}

-- ---- a question of each number
pub all-from : (p : ℕ → Bool) (a n : ℕ) → list_all p (range_with_len a n) ≡ below n (λ k. p (a + k))
all-from p a zero = refl
all-from p a (suc n) =
    ap₂ ◌&&◌ (ap p (omega arith)) (all-from p (a + 1) n ∙ below-ext n (λ k. p (a + 1 + k)) (λ k. p (a + suc k)) (λ k h. ap p (omega arith)))
    ∙ sym (below-front (λ k. p (a + k)) n)

pub all-below : (p : ℕ → Bool) (n : ℕ) → list_all p (range_with_len 0 n) ≡ below n p
all-below p n = all-from p 0 n ∙ below-ext n (λ k. p (0 + k)) p (λ k h. ap p (omega arith))

-- ---- an array made place by place
module _ {F B : Type 0} {g : Mut F (ℕ × Unit {0}) B} {f : F} (h : ℕ → B) (ys : List B) (gives : (i : ℕ) (y : B) (q : F) → Called g f (i, tt) y q → (q ≡ f) × (y ≡ h i)) where
  each-made : (n i : ℕ) → IsFromFnResultFrom g f ys i n → (j : ℕ) → i ≤ j → j < i + n → (d : B) → get_or ys j d ≡ h j
  each-made zero i e j l m d = absurd (omega arith)
  each-made (suc n) i (q, y, at, called, rest) j l m d =
      let r = gives i y q called in
      ⊎_elim
      (λ (z : i ≡ j). subst (λ (x : ℕ). get_or ys x d ≡ h x) z (at.1 d ∙ r.1))
      (λ (z : i < j). each-made n (i + 1) (subst (λ (p : F). IsFromFnResultFrom g p ys (i + 1) n) r.0 rest) j (omega arith) (omega arith) d)
      (eq-or-lt_of_le l)

  pub made-listed : (d : B) {n : ℕ} → IsFromFnResult g f ys n → ys ≡ listed h n
  made-listed d {n} m = sym (listed-is d h n ys m.long (λ k l. sym (each-made n 0 m.each k (omega arith) (omega arith) d)))
