-- The six words of a line in their places: they are read there, and the other places stay. Assumes nothing.
use mathlib.Core.Bool.{Bool, true, false}
use mathlib.Core.List.{List}
use mathlib.Core.Path.{◌≡◌, refl, ◌∙◌}
use Prim.Native.Nat.{ℕ, ◌+◌, ◌*◌, ◌<◌}
use native.Mathlib.Omega.{arith}
use lib.Dec.{ltb}
use lib.ListN.{length, get_or, set, length-set}
use lib.Seq.{get_or-set_same, get_or-set_other}
use borrow.Author.Tests.{ltb-true, ltb-false}
use Rattle.lines.specs.declared.line_words.LineWords.{LineWords}
use Rattle.lines.specs.LineWords.{words_by}
use Rattle.remainders.specs.Rows.{width, all_words, word}
use Rattle.lent.specs.State.{state_words, PutWords}

pub same-words : {k k' a a' b b' d d' x x' y y' : ℕ} → k ≡ k' → a ≡ a' → b ≡ b' → d ≡ d' → x ≡ x' → y ≡ y' → words_by k a b d x y ≡ words_by k' a' b' d' x' y'
same-words e f g h i j = rw (e, f, g, h, i, j)

-- words of the lines' rows that are the same are the same line's
pub words_same : (a b : List ℕ) → ((h p : ℕ) → 0 < h → h < 3 → p < width → word b h p ≡ word a h p) → (k : ℕ) → k < 16 → state_words b k ≡ state_words a k
words_same a b f k l =
    same-words
    (f 1 k (omega arith) (omega arith) (omega arith))
    (f 1 (16 + k) (omega arith) (omega arith) (omega arith))
    (f 1 (32 + k) (omega arith) (omega arith) (omega arith))
    (f 1 (48 + k) (omega arith) (omega arith) (omega arith))
    (f 2 k (omega arith) (omega arith) (omega arith))
    (f 2 (16 + k) (omega arith) (omega arith) (omega arith))

-- a place of a line is in row 1, or among the first 32 words of row 2
in_lines : (h p i k : ℕ) → p < width → k < 16 → width * h + p ≡ width * 1 + 16 * i + k → (h ≡ 1 → ⊥) → (h ≡ 2 → p < 32 → ⊥) → i < 6 → ⊥
in_lines h p i k m few z f g n = by-test (ltb i 4) refl
  where
    by-test : (t : Bool) → ltb i 4 ≡ t → ⊥
    by-test true e = let l = ltb-true i 4 e in f (omega arith)
    by-test false e = let l = ltb-false i 4 e in g (omega arith) (omega arith)

module _ (l : List ℕ) (k : ℕ) (r : LineWords) where
  -- the array after each store
  abbrev l₁ : List ℕ
  l₁ = set l (width * 1 + k) r.kind

  abbrev l₂ : List ℕ
  l₂ = set l₁ (width * 1 + (16 + k)) r.a

  abbrev l₃ : List ℕ
  l₃ = set l₂ (width * 1 + (32 + k)) r.b

  abbrev l₄ : List ℕ
  l₄ = set l₃ (width * 1 + (48 + k)) r.d

  abbrev l₅ : List ℕ
  l₅ = set l₄ (width * 2 + k) r.x

  abbrev pub line_put : List ℕ
  line_put = set l₅ (width * 2 + (16 + k)) r.y

  -- the places before a store are as they were
  stays₅ : (p : ℕ) → p < width * 2 + (16 + k) → get_or line_put p 0 ≡ get_or l₅ p 0
  stays₅ p h = get_or-set_other l₅ (width * 2 + (16 + k)) p r.y 0 (λ e. omega arith)

  stays₄ : (p : ℕ) → p < width * 2 + k → get_or line_put p 0 ≡ get_or l₄ p 0
  stays₄ p h = stays₅ p (omega arith) ∙ get_or-set_other l₄ (width * 2 + k) p r.x 0 (λ e. omega arith)

  module _ (few : k < 16) where
    stays₃ : (p : ℕ) → p < width * 1 + (48 + k) → get_or line_put p 0 ≡ get_or l₃ p 0
    stays₃ p h = stays₄ p (omega arith) ∙ get_or-set_other l₃ (width * 1 + (48 + k)) p r.d 0 (λ e. omega arith)

    stays₂ : (p : ℕ) → p < width * 1 + (32 + k) → get_or line_put p 0 ≡ get_or l₂ p 0
    stays₂ p h = stays₃ p (omega arith) ∙ get_or-set_other l₂ (width * 1 + (32 + k)) p r.b 0 (λ e. omega arith)

    stays₁ : (p : ℕ) → p < width * 1 + (16 + k) → get_or line_put p 0 ≡ get_or l₁ p 0
    stays₁ p h = stays₂ p (omega arith) ∙ get_or-set_other l₁ (width * 1 + (16 + k)) p r.a 0 (λ e. omega arith)

    -- any other place than the six
    other : (p : ℕ) → ((m : ℕ) → m < 6 → p ≡ width * 1 + 16 * m + k → ⊥) → get_or line_put p 0 ≡ get_or l p 0
    other p f =
        get_or-set_other l₅ (width * 2 + (16 + k)) p r.y 0 (λ e. f 5 (omega arith) (omega arith))
        ∙ get_or-set_other l₄ (width * 2 + k) p r.x 0 (λ e. f 4 (omega arith) (omega arith))
        ∙ get_or-set_other l₃ (width * 1 + (48 + k)) p r.d 0 (λ e. f 3 (omega arith) (omega arith))
        ∙ get_or-set_other l₂ (width * 1 + (32 + k)) p r.b 0 (λ e. f 2 (omega arith) (omega arith))
        ∙ get_or-set_other l₁ (width * 1 + (16 + k)) p r.a 0 (λ e. f 1 (omega arith) (omega arith))
        ∙ get_or-set_other l (width * 1 + k) p r.kind 0 (λ e. f 0 (omega arith) (omega arith))

    pub words-put : length l ≡ all_words → PutWords k r l line_put
    words-put e =
        let e₁ : length l₁ ≡ all_words = simp length-set e in
        let e₂ : length l₂ ≡ all_words = simp length-set e in
        let e₃ : length l₃ ≡ all_words = simp length-set e in
        let e₄ : length l₄ ≡ all_words = simp length-set e in
        let e₅ : length l₅ ≡ all_words = simp length-set e in
        record {
          size = simp length-set;
          here = same-words
              (stays₁ (width * 1 + k) (omega arith) ∙ get_or-set_same l (width * 1 + k) r.kind 0 (omega arith))
              (stays₂ (width * 1 + (16 + k)) (omega arith) ∙ get_or-set_same l₁ (width * 1 + (16 + k)) r.a 0 (omega arith))
              (stays₃ (width * 1 + (32 + k)) (omega arith) ∙ get_or-set_same l₂ (width * 1 + (32 + k)) r.b 0 (omega arith))
              (stays₄ (width * 1 + (48 + k)) (omega arith) ∙ get_or-set_same l₃ (width * 1 + (48 + k)) r.d 0 (omega arith))
              (stays₅ (width * 2 + k) (omega arith) ∙ get_or-set_same l₄ (width * 2 + k) r.x 0 (omega arith))
              (get_or-set_same l₅ (width * 2 + (16 + k)) r.y 0 (omega arith));
          others = λ j h f. same-words
              (other (width * 1 + j) (λ m n z. f (omega arith)))
              (other (width * 1 + (16 + j)) (λ m n z. f (omega arith)))
              (other (width * 1 + (32 + j)) (λ m n z. f (omega arith)))
              (other (width * 1 + (48 + j)) (λ m n z. f (omega arith)))
              (other (width * 2 + j) (λ m n z. f (omega arith)))
              (other (width * 2 + (16 + j)) (λ m n z. f (omega arith)));
          rows = λ h p m f g. other (width * h + p) (λ i n z. in_lines h p i k m few z f g n);
        }
