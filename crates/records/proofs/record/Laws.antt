-- Laws of `record_at`, and what a caller learns of a record. Assumes nothing.
use mathlib.Core.Path.{◌≡◌, refl, sym, ap, ◌∙◌}
use mathlib.Core.Bool.{Bool, true, false, cond, ◌||◌}
use mathlib.Core.List.{List, [], ◌∷◌}
use Prim.Native.Nat.{ℕ, ◌+◌, ◌-◌, ◌<◌, ◌≤◌}
use native.Mathlib.Omega.{arith}
use lib.ListN.{length, take, drop, length-drop, drop_of_length-le}
use lib.Seq.{length-take-le, take_all, drop-drop}
use lib.Dec.{ltb}
use borrow.Author.Tests.{lt-ltb, le-ltb, ltb-false}
use Rattle.std.specs.Prelude.{Some, None}
use Rattle.records.specs.declared.record.Record.{Record}
use Rattle.records.specs.Word.{word_of, at}
use Rattle.records.specs.Record.{is_torn, kind_field, length_field, whole, torn, front, pieces, record_of, record_at}
use Rattle.records.proofs.record.Cut.{front-whole, pieces_whole, pieces-torn}

-- the part of b from place i on
pub part-from : (b : List ℕ) (i : ℕ) → take (length b - i) (drop i b) ≡ drop i b
part-from b i = take_all (length b - i) (drop i b) (simp length-drop (omega arith))

or-true : (t : Bool) → (t || true) ≡ true
or-true true = refl
or-true false = refl

module _ (b : List ℕ) where
  torn-front : is_torn b ≡ true → record_at b 0 ≡ None
  unfolding record_at front
  torn-front e = rw e

  pub torn-short : length b < 4 → record_at b 0 ≡ None
  unfolding is_torn
  torn-short h = torn-front (rw (lt-ltb (length b) 4 h))

  pub torn-body : {n : ℕ} → n ≡ word_of (at b 0) (at b 1) → length b - 4 < n → record_at b 0 ≡ None
  unfolding is_torn
  torn-body {n} e h = torn-front (rw (← e, lt-ltb (length b - 4) n h) (or-true (ltb (length b) 4)))

  pub whole-front : {n k : ℕ} → 4 ≤ length b → n ≡ word_of (at b 0) (at b 1) → n ≤ length b - 4 → k ≡ word_of (at b 2) (at b 3) → record_at b 0 ≡ Some (record { kind = k; len = n })
  unfolding record_at front is_torn
  whole-front {n} {k} h e g f =
      rw (← e, ← f, le-ltb (length b) 4 h, le-ltb (length b - 4) n g)
      (ap (λ (m : ℕ). Some (record { kind = k; len = m })) (length-take-le n (drop 4 b) (simp length-drop (omega arith))))

pub torn-past : (b : List ℕ) (i : ℕ) → length b < i → record_at b i ≡ None
unfolding record_at front is_torn
torn-past b i h = rw (drop_of_length-le b {i = i} (omega arith))

-- what a caller learns of a record that is whole
pub record WholeAt (b : List ℕ) (i : ℕ) (r : Record) : Type 0 where
  pub piece : front (drop i b) ≡ whole r.kind (take r.len (drop (i + 4) b))
  pub sound : is_torn (drop i b) ≡ false
  pub body : length_field (drop i b) ≡ r.len
  pub fits : i + 4 + r.len ≤ length b

module _ (b : List ℕ) (i : ℕ) where
  module _ {r : Record} where
    short-test : (x y : Bool) → ltb (length (drop i b)) 4 ≡ x → ltb (length (drop i b) - 4) (length_field (drop i b)) ≡ y
        → record_of (cond (x || y) torn (whole (kind_field (drop i b)) (take (length_field (drop i b)) (drop 4 (drop i b))))) ≡ Some r → WholeAt b i r
    unfolding front is_torn
    short-test true y p q e = cc
    short-test false true p q e = cc
    short-test false false p q e =
        let g = ltb-false (length (drop i b)) 4 p in
        let h = ltb-false (length (drop i b) - 4) (length_field (drop i b)) q in
        let l : length (take (length_field (drop i b)) (drop 4 (drop i b))) ≡ length_field (drop i b) = length-take-le (length_field (drop i b)) (drop 4 (drop i b)) (simp length-drop (omega (arith, length-drop i b))) in
        let s : record { kind = kind_field (drop i b); len = length (take (length_field (drop i b)) (drop 4 (drop i b))) } ≡ r = cc in
        let m : length_field (drop i b) ≡ r.len = sym l ∙ ap (λ (x : Record). x.len) s in
        let f : kind_field (drop i b) ≡ r.kind = ap (λ (x : Record). x.kind) s in
        record {
          piece = rw (p, q, m, f, drop-drop);
          sound = rw (p, q);
          body = m;
          fits = omega (arith, length-drop i b);
        }

  pub whole-at : {r : Record} → record_at b i ≡ Some r → WholeAt b i r
  unfolding record_at front is_torn
  whole-at e = short-test (ltb (length (drop i b)) 4) (ltb (length (drop i b) - 4) (length_field (drop i b))) refl refl e

  pub torn-at : record_at b i ≡ None → is_torn (drop i b) ≡ true
  unfolding record_at front
  torn-at e = test (is_torn (drop i b)) refl e
    where
      test : (x : Bool) → is_torn (drop i b) ≡ x → record_of (cond x torn (whole (kind_field (drop i b)) (take (length_field (drop i b)) (drop 4 (drop i b))))) ≡ None → is_torn (drop i b) ≡ true
      test true p e = p
      test false p e = cc

pub at_front : (b : List ℕ) (i : ℕ) → record_at (drop i b) 0 ≡ record_at b i
unfolding record_at
at_front b i = refl

-- the records of a byte string from a place on
pub pieces-at : (b : List ℕ) (i : ℕ) {r : Record} → record_at b i ≡ Some r → pieces (drop i b) ≡ whole r.kind (take r.len (drop (i + 4) b)) ∷ pieces (drop (i + 4 + r.len) b)
pieces-at b i {r} e =
    let w = whole-at b i e in
    let j : i + (4 + r.len) ≡ i + 4 + r.len = omega arith in
    pieces_whole (drop i b) w.sound ∙ rw (← front-whole (drop i b) w.sound, w.piece, w.body, drop-drop, j)

pub pieces-torn-at : (b : List ℕ) (i : ℕ) → i < length b → record_at b i ≡ None → pieces (drop i b) ≡ torn ∷ []
pieces-torn-at b i h e = pieces-torn (drop i b) (rw length-drop (omega arith)) (torn-at b i e)
