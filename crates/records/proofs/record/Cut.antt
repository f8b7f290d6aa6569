-- The records of a byte string, cut one by one: after a whole record come those of the rest, and a torn one is the last. Assumes nothing.
use mathlib.Core.Path.{◌≡◌, refl}
use mathlib.Core.Bool.{Bool, true, false, true≢false}
use mathlib.Core.List.{List, [], ◌∷◌}
use Prim.Native.Nat.{ℕ, zero, suc, ◌+◌, ◌-◌, ◌≤◌}
use native.Mathlib.Omega.{arith}
use lib.ListN.{length, take, drop, length-drop}
use lib.Dec.{ltb}
use borrow.Author.Tests.{ltb-false, le-ltb}
use Rattle.records.specs.Record.{length_field, kind_field, is_torn, Piece, whole, torn, front, cut, pieces}
use Rattle.records.proofs.Lists.{neither}

pub cut-drop : (k : ℕ) (b : List ℕ) → cut k b ≡ pieces (drop k b)
unfolding cut
cut-drop zero b = refl
cut-drop (suc k) [] = refl
cut-drop (suc k) (x ∷ b) = cut-drop k b

-- a record is whole exactly if its 4 bytes and its body are there
pub whole-fits : (b : List ℕ) → is_torn b ≡ false → 4 + length_field b ≤ length b
unfolding is_torn
whole-fits b h =
    let r = neither (ltb (length b) 4) h in
    omega (arith, ltb-false (length b) 4 r.0, ltb-false (length b - 4) (length_field b) r.1)

pub fits_whole : (b : List ℕ) → 4 + length_field b ≤ length b → is_torn b ≡ false
unfolding is_torn
fits_whole b h = rw (le-ltb (length b) 4 (omega arith), le-ltb (length b - 4) (length_field b) (omega arith))

pub front-whole : (b : List ℕ) → is_torn b ≡ false → front b ≡ whole (kind_field b) (take (length_field b) (drop 4 b))
unfolding front
front-whole b h = rw h

pub no_pieces : pieces [] ≡ []
unfolding cut
no_pieces = refl

pub pieces_whole : (b : List ℕ) → is_torn b ≡ false → pieces b ≡ whole (kind_field b) (take (length_field b) (drop 4 b)) ∷ pieces (drop (4 + length_field b) b)
unfolding cut is_torn
pieces_whole [] h = absurd (true≢false h)
pieces_whole (x ∷ b) h =
    let k : 4 + length_field (x ∷ b) ≡ suc (3 + length_field (x ∷ b)) = omega arith in
    rw (h, front-whole (x ∷ b) h, k, ← cut-drop)

pub pieces-torn : (b : List ℕ) → 1 ≤ length b → is_torn b ≡ true → pieces b ≡ torn ∷ []
unfolding cut front
pieces-torn [] l h = absurd (omega arith)
pieces-torn (x ∷ b) l h = rw h

-- what holds of no records, of a torn one, and of a whole one before others, holds of the records of every byte string
module _ (P : List ℕ → List Piece → Type 0) (none : P [] []) (last : (b : List ℕ) → P b (torn ∷ []))
    (more : (b : List ℕ) (ps : List Piece) → is_torn b ≡ false → P (drop (4 + length_field b) b) ps → P b (whole (kind_field b) (take (length_field b) (drop 4 b)) ∷ ps)) where
  within : (n : ℕ) (b : List ℕ) → length b ≤ n → P b (pieces b)
  within zero [] l = rw no_pieces none
  within (suc n) [] l = rw no_pieces none
  within zero (x ∷ b) l = absurd (omega arith)
  within (suc n) (x ∷ b) l = by-test (is_torn (x ∷ b)) refl (within n)
    where
      by-test : (t : Bool) → is_torn (x ∷ b) ≡ t → ((d : List ℕ) → length d ≤ n → P d (pieces d)) → P (x ∷ b) (pieces (x ∷ b))
      by-test true h ih = rw (pieces-torn (x ∷ b) (omega arith) h) (last (x ∷ b))
      by-test false h ih = rw (pieces_whole (x ∷ b) h) (more (x ∷ b) _ h (ih _ (rw length-drop (omega arith))))

  pub by-pieces : (b : List ℕ) → P b (pieces b)
  by-pieces b = within (length b) b (omega arith)
