-- A line is told by its kind and its body: reading a line's body gives the line, and what is read has that kind and that body. Assumes nothing.
use mathlib.Core.Path.{◌≡◌, refl}
use mathlib.Core.Bool.{true}
use mathlib.Core.List.{List}
use Prim.Native.Nat.{ℕ, zero, suc, ◌+◌, ◌-◌, ◌<◌}
use native.Mathlib.Omega.{arith}
use lib.ListN.{length}
use lib.Dec.{leb}
use borrow.Author.Tests.{leb-true}
use Rattle.records.specs.declared.line.Line.{Line}
use Rattle.records.specs.declared.line.Line.TheVariants.{Sporadic, Relation, Implies, Excludes, Delayed, Weakly, Strictly, Kills, Counted}
use Rattle.records.specs.Lists.{listed_from}
use Rattle.records.specs.Word.{word_at, tag_of}
use Rattle.records.specs.Line.{is_line, length_of, line_of, kind_of, body_of}
use Rattle.records.specs.Types.{IsBytes, IsTag, IsLineValue}
use Rattle.records.proofs.Lists.{both}
use Rattle.records.proofs.word.Inverse.{word_back, tag_back, word-bytes, tag-bytes, tag-range, word-range}
use Rattle.records.proofs.word.Bytes.{byte_at, all-bytes}

pub line-back : (l : Line) → IsLineValue l → line_of (kind_of l) (body_of l) ≡ l
unfolding line_of
line-back (Sporadic a b t) h = rw (tag_back h.2)
line-back (Relation a b p q) h = rw (tag_back {t = p} h.2, tag_back h.3)
line-back (Implies a b) h = refl
line-back (Excludes a b) h = refl
line-back (Delayed a b d by) h = rw (word_back by)
line-back (Weakly a b) h = refl
line-back (Strictly a b) h = refl
line-back (Kills a b) h = refl
line-back (Counted a b d n) h = refl

-- what holds of the nine kinds holds of each kind of a line
module _ (P : ℕ → Type 0) (p16 : P 16) (p17 : P 17) (p18 : P 18) (p19 : P 19) (p20 : P 20) (p21 : P 21) (p22 : P 22) (p23 : P 23) (p24 : P 24) where
  from-16 : (n : ℕ) → n < 9 → P (16 + n)
  from-16 zero h = p16
  from-16 (suc zero) h = p17
  from-16 (suc (suc zero)) h = p18
  from-16 (suc (suc (suc zero))) h = p19
  from-16 (suc (suc (suc (suc zero)))) h = p20
  from-16 (suc (suc (suc (suc (suc zero))))) h = p21
  from-16 (suc (suc (suc (suc (suc (suc zero)))))) h = p22
  from-16 (suc (suc (suc (suc (suc (suc (suc zero))))))) h = p23
  from-16 (suc (suc (suc (suc (suc (suc (suc (suc zero)))))))) h = p24
  from-16 (suc (suc (suc (suc (suc (suc (suc (suc (suc n))))))))) h = absurd (omega arith)

  pub by_kind : (kind : ℕ) → is_line kind ≡ true → P kind
  by_kind kind h =
      let r = both (leb 16 kind) h in
      let lo = leb-true 16 kind r.0 in
      let hi = leb-true kind 24 r.1 in
      let e : 16 + (kind - 16) ≡ kind = omega arith in
      rw e at (from-16 (kind - 16) (omega arith))

pub kind-back : (kind : ℕ) (body : List ℕ) → is_line kind ≡ true → kind_of (line_of kind body) ≡ kind
unfolding line_of
kind-back kind body = by_kind (λ (k : ℕ). kind_of (line_of k body) ≡ k) refl refl refl refl refl refl refl refl refl kind

module _ (body : List ℕ) (h : IsBytes body) where
  pub body_back : (kind : ℕ) → is_line kind ≡ true → length body ≡ length_of kind → body_of (line_of kind body) ≡ body
  unfolding line_of length_of listed_from
  body_back =
      let b = byte_at body h in
      let t₂ = tag-bytes (b 2) (b 3) in
      let t₄ = tag-bytes (b 4) (b 5) in
      let w₃ = word-bytes (b 3) (b 4) in
      by_kind (λ (k : ℕ). length body ≡ length_of k → body_of (line_of k body) ≡ body)
      (λ e. cc (all-bytes body 4 e, t₂))
      (λ e. cc (all-bytes body 6 e, t₂, t₄))
      (all-bytes body 2)
      (all-bytes body 2)
      (λ e. cc (all-bytes body 5 e, w₃))
      (all-bytes body 2)
      (all-bytes body 2)
      (all-bytes body 2)
      (all-bytes body 4)

  pub line-value : (kind : ℕ) → is_line kind ≡ true → IsLineValue (line_of kind body)
  unfolding line_of
  line-value =
      let b = byte_at body h in
      let tag : (i : ℕ) → IsTag (tag_of (word_at body i)) = λ i. tag-range (word-range (b i) (b (i + 1))) in
      by_kind (λ (k : ℕ). IsLineValue (line_of k body))
      (b 0, b 1, tag 2)
      (b 0, b 1, tag 2, tag 4)
      (b 0, b 1)
      (b 0, b 1)
      (b 0, b 1, b 2, word-range (b 3) (b 4))
      (b 0, b 1)
      (b 0, b 1)
      (b 0, b 1)
      (b 0, b 1, b 2, b 3)
