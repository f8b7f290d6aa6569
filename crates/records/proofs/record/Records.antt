-- What is cut out of a byte string are its records, one behind the other, and no other list is. Assumes nothing.
use mathlib.Core.Path.{◌≡◌, refl, sym, ◌∙◌}
use mathlib.Core.Bool.{Bool, true, false, true≢false}
use mathlib.Core.Logic.{◌⊎◌, inl, inr}
use mathlib.Core.List.{List, [], ◌∷◌}
use Prim.Native.Nat.{ℕ, zero, suc, ◌+◌, ◌<◌, ◌≤◌}
use native.Mathlib.Omega.{arith}
use native.Mathlib.Nat.{add-zero}
use lib.ListN.{length, take, drop, length-drop, drop_of_length-le}
use lib.Seq.{length-take-le, get_or-take, get_or-drop, ext_get_or}
use lib.Dec.{leb, ltb}
use borrow.Author.Tests.{leb-true, leb-false, ltb-true, ltb-false}
use Rattle.std.specs.Prelude.{Option, Some, None}
use Rattle.records.specs.declared.record.Record.{Record}
use Rattle.records.specs.Word.{word_at}
use Rattle.records.specs.Record.{Piece, whole, torn, Stands, Breaks, Records, length_field, kind_field, is_torn, pieces, PiecesAre, record_at}
use Rattle.records.proofs.record.Cut.{no_pieces, fits_whole, front-whole}
use Rattle.records.proofs.record.Laws.{whole-at, torn-at, pieces-at, pieces-torn-at}

module _ (b : List ℕ) where
  -- ---- each is a record

  module _ (i : ℕ) where
    field : length_field (drop i b) ≡ word_at b i
    field = rw (get_or-drop i b 0 0, get_or-drop i b 1 0, add-zero)

    breaks : i < length b → is_torn (drop i b) ≡ true → Breaks b i
    breaks h e = by-test (leb (i + 4 + word_at b i) (length b)) refl
      where
        by-test : (t : Bool) → leb (i + 4 + word_at b i) (length b) ≡ t → Breaks b i
        by-test true g =
            let l = leb-true (i + 4 + word_at b i) (length b) g in
            let w : is_torn (drop i b) ≡ false = fits_whole (drop i b) (omega (arith, field, length-drop i b)) in
            absurd (true≢false (sym e ∙ w))
        by-test false g = record { some = h; short = inr (leb-false (i + 4 + word_at b i) (length b) g) }

    module _ {r : Record} (e : record_at b i ≡ Some r) where
      size : length (take r.len (drop (i + 4) b)) ≡ r.len
      size = length-take-le r.len (drop (i + 4) b) (rw length-drop (omega (arith, (whole-at b i e).fits)))

      stands : Stands b i r.kind (take r.len (drop (i + 4) b))
      stands =
          let w = whole-at b i e in
          let p : i + 2 + 1 ≡ i + 3 = omega arith in
          let q : kind_field (drop i b) ≡ word_at b (i + 2) = rw (get_or-drop i b 2 0, get_or-drop i b 3 0, p) in
          let f = sym (front-whole (drop i b) w.sound) ∙ w.piece in
          let s : kind_field (drop i b) ≡ r.kind = cc in
          record {
            body_length = size ∙ sym w.body ∙ field;
            kind_number = sym s ∙ q;
            body_bytes = λ j h. get_or-take r.len (drop (i + 4) b) j 0 (omega (arith, size)) ∙ get_or-drop (i + 4) b j 0;
            all_there = omega (arith, size, w.fits);
          }

  -- the records from a place on are found there
  abbrev Found : ℕ → Type 0
  Found i = Records b i (pieces (drop i b))

  -- at the end; and before it, given it at every later place
  at-end : (i : ℕ) → i ≡ length b → Found i
  at-end i e = rw (drop_of_length-le b {i = i} (omega arith), no_pieces) e

  before-end : (i : ℕ) → i < length b → ((j : ℕ) → i < j → j ≤ length b → Found j) → (o : Option Record) → record_at b i ≡ o → Found i
  before-end i h later None e = rw (pieces-torn-at b i h e) (breaks i h (torn-at b i e), refl)
  before-end i h later (Some r) e = rw (pieces-at b i e) (stands i e, rw (size i e) (later (i + 4 + r.len) (omega arith) (whole-at b i e).fits))

  -- with at most n bytes behind the place
  found : (n i : ℕ) → i ≤ length b → length b ≤ i + n → Found i
  found zero i h l = at-end i (omega arith)
  found (suc n) i h l = by-test (ltb i (length b)) refl (found n)
    where
      by-test : (t : Bool) → ltb i (length b) ≡ t → ((j : ℕ) → j ≤ length b → length b ≤ j + n → Found j) → Found i
      by-test true g later = before-end i (ltb-true i (length b) g) (λ j p q. later j q (omega arith)) (record_at b i) refl
      by-test false g later = at-end i (omega (arith, ltb-false i (length b) g))

  -- ---- and there is one list of them

  same_body : (i : ℕ) {k m : ℕ} {xs ys : List ℕ} → Stands b i k xs → Stands b i m ys → xs ≡ ys
  same_body i {xs = xs} {ys} s t =
      let l : length xs ≡ length ys = s.body_length ∙ sym t.body_length in
      ext_get_or 0 xs ys l (λ j h. s.body_bytes j h ∙ sym (t.body_bytes j (omega arith)))

  not-both : (i : ℕ) {k : ℕ} {body : List ℕ} {X : Type 0} → Stands b i k body → Breaks b i → X
  not-both i {body = body} s t = absurd (by-case t.short)
    where
      by-case : (length b < i + 4) ⊎ (length b < i + 4 + word_at b i) → ⊥
      by-case (inl h) = omega (arith, s.all_there)
      by-case (inr h) = omega (arith, s.all_there, s.body_length)

  one_list : (i : ℕ) (ps qs : List Piece) → Records b i ps → Records b i qs → ps ≡ qs
  one_list i [] [] h g = refl
  one_list i [] (whole k xs ∷ qs) h g = absurd (omega (arith, g.0.all_there))
  one_list i [] (torn ∷ qs) h g = absurd (omega (arith, g.0.some))
  one_list i (whole k xs ∷ ps) [] h g = absurd (omega (arith, h.0.all_there))
  one_list i (whole k xs ∷ ps) (whole m ys ∷ qs) h g =
      let e : xs ≡ ys = same_body i h.0 g.0 in
      let f : k ≡ m = h.0.kind_number ∙ sym g.0.kind_number in
      let r : ps ≡ qs = one_list (i + 4 + length xs) ps qs h.1 (rw e g.1) in
      rw (e, f, r)
  one_list i (whole k xs ∷ ps) (torn ∷ qs) h g = not-both i h.0 g.0
  one_list i (torn ∷ ps) [] h g = absurd (omega (arith, h.0.some))
  one_list i (torn ∷ ps) (whole m ys ∷ qs) h g = not-both i g.0 h.0
  one_list i (torn ∷ ps) (torn ∷ qs) h g = rw (h.1, g.1)

pub pieces_are : (b : List ℕ) → PiecesAre b
pieces_are b =
    let are : Records b 0 (pieces b) = found b (length b) 0 (omega arith) (omega arith) in
    record { are = are; only = λ ps h. one_list b 0 ps (pieces b) h are }
