-- Laws of `puts`: stores one after the other join, keep the buffer's length, and from place 0 on fill its front. Assumes nothing.
use mathlib.Core.Path.{◌≡◌, refl, ap, ◌∙◌, sym}
use mathlib.Core.List.{List, [], ◌∷◌, ◌++◌, append_assoc}
use Prim.Native.Nat.{ℕ, suc, ◌+◌, ◌-◌, ◌≤◌, ◌<◌}
use native.Mathlib.Omega.{arith}
use native.Mathlib.Nat.{add-zero, zero-add}
use native.Mathlib.Numerals.{add-one}
use lib.ListN.{length, get_or, take, drop, set, length-set}
use lib.Seq.{sets, sets-eq, drop-cons, drop-drop}
use borrow.Rule.Slice.PartMut.{put_mid}
use Rattle.records.specs.Store.{puts}

pub puts-append : (l : List ℕ) (i : ℕ) (xs ys : List ℕ) → puts l i (xs ++ ys) ≡ puts (puts l i xs) (i + length xs) ys
puts-append l i [] ys = rw add-zero
puts-append l i (x ∷ xs) ys =
    let k : i + 1 + length xs ≡ i + suc (length xs) = omega arith in
    puts-append (set l i x) (i + 1) xs ys ∙ ap (λ (j : ℕ). puts (puts (set l i x) (i + 1) xs) j ys) k

pub length-puts : (l : List ℕ) (i : ℕ) (xs : List ℕ) → length (puts l i xs) ≡ length l
length-puts l i [] = refl
length-puts l i (x ∷ xs) = length-puts (set l i x) (i + 1) xs ∙ length-set l i x

puts-sets : (l : List ℕ) (i : ℕ) (xs : List ℕ) → puts l i xs ≡ sets l i xs
puts-sets l i [] = refl
puts-sets l i (x ∷ xs) = rw add-one (puts-sets (set l i x) (suc i) xs)

-- stored from the front on, the bytes are the front, and the rest stays
pub puts-front : (l xs : List ℕ) → length xs ≤ length l → puts l 0 xs ≡ xs ++ drop (length xs) l
puts-front l xs h = puts-sets l 0 xs ∙ sets-eq xs l 0 (omega arith) ∙ rw zero-add

-- copied into a part of the buffer, bytes are stored there
pub puts-part : (l : List ℕ) (i k : ℕ) (xs ys : List ℕ) → ys ≡ xs → length xs ≡ k → i + k ≤ length l → put_mid i k l ys ≡ puts l i xs
puts-part l i k xs ys e f h = rw (e, drop-drop, ← f) (sym (puts-sets l i xs ∙ sets-eq xs l i (omega arith) ∙ append_assoc (take i l) xs _))

-- the elements from i up to n, the first of them and the rest
pub part-cons : {A : Type 0} (d : A) (l : List A) (n i : ℕ) → i < n → n ≤ length l → take (n - i) (drop i l) ≡ get_or l i d ∷ take (n - (i + 1)) (drop (i + 1) l)
part-cons d l n i h g =
    let k : n - i ≡ suc (n - (i + 1)) = omega arith in
    rw (k, drop-cons l i d (omega arith), add-one)

pub part_end : {A : Type 0} (l : List A) (n i : ℕ) → n ≤ i → take (n - i) (drop i l) ≡ []
part_end l n i h = let k : n - i ≡ 0 = omega arith in rw k

-- two stores, one behind the other
pub puts-both : (l : List ℕ) (i : ℕ) (xs ys : List ℕ) {l₁ l₂ : List ℕ} → l₁ ≡ puts l i xs → l₂ ≡ puts l₁ (i + length xs) ys → l₂ ≡ puts l i (xs ++ ys)
puts-both l i xs ys p q = q ∙ rw p (sym (puts-append l i xs ys))

-- a turn of a loop that stores the first n elements of a list
module _ {w : List ℕ} (l b : List ℕ) (at n i : ℕ) (inv : w ≡ puts l (at + i) (take (n - i) (drop i b))) where
  pub stored_more : i < n → n ≤ length b → w ≡ puts (set l (at + i) (get_or b i 0)) (at + (i + 1)) (take (n - (i + 1)) (drop (i + 1) b))
  stored_more h g =
      let k : at + i + 1 ≡ at + (i + 1) = omega arith in
      inv ∙ rw (part-cons 0 b n i h g) (ap (λ (j : ℕ). puts (set l (at + i) (get_or b i 0)) j (take (n - (i + 1)) (drop (i + 1) b))) k)

  pub stored-all : n ≤ i → l ≡ w
  stored-all h = sym (inv ∙ rw (part_end b n i h))
