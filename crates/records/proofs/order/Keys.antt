-- Lines by what they are compared by: of one kind by their bodies, else by their kinds; and a line is told by its key. Assumes nothing.
use mathlib.Core.Path.{◌≡◌, refl, sym, ap, ◌∙◌}
use mathlib.Core.Bool.{Bool, true, false, ◌||◌}
use mathlib.Core.List.{List, [], ◌∷◌, ◌++◌, map}
use Prim.Native.Nat.{ℕ, ◌+◌, ◌-◌}
use native.Mathlib.Omega.{arith}
use lib.ListN.{length}
use lib.Dec.{ltb}
use borrow.Author.Tests.{ne_eqb}
use Rattle.records.specs.declared.line.Line.{Line}
use Rattle.records.specs.Lists.{listed_from, listed, filled}
use Rattle.records.specs.Line.{length_of, kind_of, body_of}
use Rattle.records.specs.Order.{above, key_of, above_last}
use Rattle.records.specs.Types.{IsLineValue}
use Rattle.records.proofs.Lists.{map-append, listed-snoc}
use Rattle.records.proofs.line.Table.{shaped}
use Rattle.records.proofs.line.Inverse.{line-back}
use Rattle.records.proofs.order.Laws.{first-same, above-front}

-- ---- what `is_above` compares

module _ (l m : Line) {k j : ℕ} (p : k ≡ kind_of l) (q : j ≡ kind_of m) where
  -- lines of one kind are compared by their six bytes
  pub key-body : {r : Bool} {x y : List ℕ} → k ≡ j → x ≡ filled 6 0 (body_of l) → y ≡ filled 6 0 (body_of m)
      → r ≡ above x y → r ≡ above (key_of l) (key_of m)
  key-body e f g h =
      let same : kind_of l ≡ kind_of m = sym p ∙ e ∙ q in
      let size : length (body_of l) ≡ length (body_of m) = (shaped l).size ∙ ap length_of same ∙ sym (shaped m).size in
      h ∙ rw (f, g, size) (above-front (body_of l) (body_of m) _ size) ∙ sym (first-same _ _ (body_of l) (body_of m) same)

  -- others by their kinds
  pub key-kind : (k ≡ j → ⊥) → ltb j k ≡ above (key_of l) (key_of m)
  unfolding above
  key-kind n =
      let other : kind_of l ≡ kind_of m → ⊥ = λ e. n (p ∙ e ∙ sym q) in
      rw (ne_eqb (kind_of l) (kind_of m) other, p, q) (or-false (ltb (kind_of m) (kind_of l)))
    where
      or-false : (b : Bool) → b ≡ (b || false)
      or-false true = refl
      or-false false = refl

-- a line's key tells it
pub key-line : (l m : Line) → IsLineValue l → IsLineValue m → key_of l ≡ key_of m → l ≡ m
key-line l m h g e =
    let kinds : kind_of l ≡ kind_of m = ap head_of e in
    let bodies : body_of l ≡ body_of m = ap tail_of e in
    sym (line-back l h) ∙ rw (kinds, bodies) (line-back m g)
  where
    head_of : List ℕ → ℕ
    head_of [] = 0
    head_of (x ∷ xs) = x

    tail_of : List ℕ → List ℕ
    tail_of [] = []
    tail_of (x ∷ xs) = xs

-- ---- the last of some lines
pub above-last : (ks : List (List ℕ)) (k key : List ℕ) → above_last (ks ++ (k ∷ [])) key ≡ above key k
above-last [] k key = refl
above-last (x ∷ []) k key = refl
above-last (x ∷ y ∷ ks) k key = above-last (y ∷ ks) k key

-- of the lines at the places below n
pub above-none : (f : ℕ → Line) (n : ℕ) (key : List ℕ) → n ≡ 0 → true ≡ above_last (map key_of (listed f n)) key
unfolding listed_from
above-none f n key e = rw e

pub above-some : (f : ℕ → Line) (n : ℕ) (key : List ℕ) → (n ≡ 0 → ⊥) → above key (key_of (f (n - 1))) ≡ above_last (map key_of (listed f n)) key
above-some f n key h =
    let e : n ≡ n - 1 + 1 = omega (arith, h) in
    sym (ap (λ (m : ℕ). above_last (map key_of (listed f m)) key) e ∙ rw (listed-snoc f (n - 1), map-append) (above-last (map key_of (listed f (n - 1))) _ key))
