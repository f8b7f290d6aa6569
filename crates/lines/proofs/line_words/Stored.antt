-- Six words stored from a place on: they are read there, and the others stay. Assumes nothing.
use mathlib.Core.List.{List, [], ◌∷◌}
use mathlib.Core.Path.{◌≡◌, refl, ap, ◌∙◌}
use Prim.Native.Nat.{ℕ, zero, suc, ◌+◌, ◌<◌, ◌≤◌}
use native.Mathlib.Omega.{arith}
use lib.ListN.{length, get_or, set, length-set}
use lib.Seq.{get_or-set_same, get_or-set_other}
use Rattle.records.specs.Store.{puts}
use Rattle.records.proofs.Store.{length-puts}
use Rattle.lines.specs.declared.line_words.LineWords.{LineWords}
use Rattle.lines.specs.LineWords.{words_at}

puts-other : (ws : List ℕ) (i : ℕ) (xs : List ℕ) (p : ℕ) → (i ≤ p → p < i + length xs → ⊥) → get_or (puts ws i xs) p 0 ≡ get_or ws p 0
puts-other ws i [] p h = refl
puts-other ws i (x ∷ xs) p h = puts-other (set ws i x) (i + 1) xs p (λ m l. h (omega arith) (omega arith)) ∙ get_or-set_other ws i p x 0 (λ e. h (omega arith) (omega arith))

puts-at : (ws : List ℕ) (i : ℕ) (xs : List ℕ) (k p : ℕ) → i + k ≡ p → k < length xs → i + length xs ≤ length ws → get_or (puts ws i xs) p 0 ≡ get_or xs k 0
puts-at ws i [] k p e h l = absurd (omega arith)
puts-at ws i (x ∷ xs) zero p e h l =
    let f : p ≡ i = omega arith in
    rw f (puts-other (set ws i x) (i + 1) xs i (λ m n. omega arith) ∙ get_or-set_same ws i x 0 (omega arith))
puts-at ws i (x ∷ xs) (suc k) p e h l = puts-at (set ws i x) (i + 1) xs k p (omega arith) (omega arith) (omega (arith, length-set ws i x))

-- the six words of w from place i on
module _ (ws : List ℕ) (i : ℕ) (w : LineWords) where
  abbrev six : List ℕ
  six = w.kind ∷ w.a ∷ w.b ∷ w.d ∷ w.x ∷ w.y ∷ []

  abbrev pub stored : List ℕ
  stored = set (set (set (set (set (set ws i w.kind) (i + 1) w.a) (i + 2) w.b) (i + 3) w.d) (i + 4) w.x) (i + 5) w.y

  stored-puts : stored ≡ puts ws i six
  stored-puts =
      let two : i + 1 + 1 ≡ i + 2 = omega arith in
      let three : i + 2 + 1 ≡ i + 3 = omega arith in
      let four : i + 3 + 1 ≡ i + 4 = omega arith in
      let five : i + 4 + 1 ≡ i + 5 = omega arith in
      rw (two, three, four, five)

  pub stored-length : length stored ≡ length ws
  stored-length = ap length stored-puts ∙ length-puts ws i six

  pub stored_other : (p : ℕ) → (i ≤ p → p < i + 6 → ⊥) → get_or stored p 0 ≡ get_or ws p 0
  stored_other p h = rw stored-puts (puts-other ws i six p h)

  module _ (l : i + 5 < length ws) where
    at : (k p : ℕ) → i + k ≡ p → k < 6 → get_or stored p 0 ≡ get_or six k 0
    at k p e h = rw stored-puts (puts-at ws i six k p e h (omega arith))

    pub stored_there : words_at stored i ≡ w
    stored_there = rw (at 0 i (omega arith) (omega arith), at 1 (i + 1) refl (omega arith), at 2 (i + 2) refl (omega arith), at 3 (i + 3) refl (omega arith), at 4 (i + 4) refl (omega arith), at 5 (i + 5) refl (omega arith))
