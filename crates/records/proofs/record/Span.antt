-- The bytes of the record at a place of a byte string: what `record_bytes` gives, and what a caller learns of them. Assumes nothing.
use mathlib.Core.Path.{◌≡◌, refl, sym, ◌∙◌}
use mathlib.Core.List.{List, [], ◌∷◌, ◌++◌}
use Prim.Native.Nat.{ℕ, ◌+◌, ◌-◌, ◌<◌, ◌≤◌}
use native.Mathlib.Omega.{arith}
use lib.ListN.{length, take, drop, length-drop, drop_of_length-le}
use lib.Seq.{length-take-le, get_or-take, take-add, take-take, drop-append_seam}
use Rattle.std.specs.Prelude.{Option, Some, None}
use Rattle.records.specs.declared.record.Record.{Record}
use Rattle.records.specs.Record.{length_field, kind_field, whole, torn, front, pieces, record_at, record_span, TheRecord}
use Rattle.records.proofs.record.Cut.{no_pieces, fits_whole, front-whole, pieces_whole}
use Rattle.records.proofs.record.Laws.{part-from, torn-past, whole-at, torn-at, pieces-at, pieces-torn-at}

-- ---- the three ways through the code

module _ (b : List ℕ) (i : ℕ) where
  of-torn : record_at b i ≡ None → record_span b i ≡ drop i b
  unfolding record_span
  of-torn e = rw e

  of-whole : {r : Record} → record_at b i ≡ Some r → record_span b i ≡ take (4 + r.len) (drop i b)
  unfolding record_span
  of-whole e = rw e

  pub past-span : length b < i → [] ≡ record_span b i
  past-span h = rw (of-torn (torn-past b i h)) (sym (drop_of_length-le b {i = i} (omega arith)))

  pub torn-span : record_at b i ≡ None → take (length b - i) (drop i b) ≡ record_span b i
  torn-span e = rw (of-torn e) (part-from b i)

  pub whole-span : {r : Record} → record_at b i ≡ Some r → take (i + 4 + r.len - i) (drop i b) ≡ record_span b i
  whole-span {r} e =
      let s : i + 4 + r.len - i ≡ 4 + r.len = omega arith in
      rw (of-whole e, s)

-- ---- the record of a place before the end

-- behind the end there is no record
none_left : (b : List ℕ) (i : ℕ) → length b ≤ i → pieces (drop i b) ≡ []
none_left b i h = rw (drop_of_length-le b {i = i} h) no_pieces

front-torn : (b : List ℕ) (i : ℕ) → record_at b i ≡ None → front (drop i b) ≡ torn
unfolding front
front-torn b i e = rw (torn-at b i e)

-- the record that stands alone at the front of some bytes
alone : (b : List ℕ) (n : ℕ) → 4 + n ≤ length b → length_field b ≡ n → pieces (take (4 + n) b) ≡ whole (kind_field b) (take n (drop 4 b)) ∷ []
alone b n h e =
    let p : List ℕ = take (4 + n) b in
    let l : length p ≡ 4 + n = length-take-le (4 + n) b h in
    let f : length_field p ≡ n = rw (get_or-take (4 + n) b 0 0 (omega arith), get_or-take (4 + n) b 1 0 (omega arith)) e in
    let k : kind_field p ≡ kind_field b = rw (get_or-take (4 + n) b 2 0 (omega arith), get_or-take (4 + n) b 3 0 (omega arith)) in
    let m : length (take 4 b) ≡ 4 = length-take-le 4 b (omega arith) in
    let q : drop 4 (take 4 b ++ take n (drop 4 b)) ≡ take n (drop 4 b) = rw m at (drop-append_seam (take 4 b) (take n (drop 4 b))) in
    let t : take n (drop 4 p) ≡ take n (drop 4 b) = rw (take-add 4 n b, q, take-take n n (drop 4 b) (omega arith)) in
    pieces_whole p (fits_whole p (omega arith)) ∙ rw (f, k, t, none_left p (4 + n) (omega arith))

module _ (b : List ℕ) (i : ℕ) where
  torn-record : i < length b → record_at b i ≡ None → TheRecord b i (drop i b)
  torn-record h e =
      let t = pieces-torn-at b i h e in
      let l : length (drop i b) ≡ length b - i = length-drop i b in
      record {
        one = t ∙ rw (front-torn b i e);
        others = t ∙ rw (front-torn b i e, none_left b (i + length (drop i b)) (omega arith));
        some = omega arith;
        within = omega arith;
      }

  whole-record : {r : Record} → record_at b i ≡ Some r → TheRecord b i (take (4 + r.len) (drop i b))
  whole-record {r} e =
      let w = whole-at b i e in
      let d : length (drop i b) ≡ length b - i = length-drop i b in
      let l : length (take (4 + r.len) (drop i b)) ≡ 4 + r.len = length-take-le (4 + r.len) (drop i b) (omega (arith, w.fits)) in
      let j : i + (4 + r.len) ≡ i + 4 + r.len = omega arith in
      record {
        one = alone (drop i b) r.len (omega (arith, w.fits)) w.body ∙ rw (front-whole (drop i b) w.sound, w.body);
        others = pieces-at b i e ∙ rw (l, j, w.piece);
        some = omega arith;
        within = omega (arith, w.fits);
      }

  -- what `record_bytes` gives there, in the shape that callers hold
  pub the-record : {p : List ℕ} → p ≡ record_span b i → i < length b → TheRecord b i p
  the-record g h = rw g (by-record (record_at b i) refl)
    where
      by-record : (o : Option Record) → record_at b i ≡ o → TheRecord b i (record_span b i)
      by-record None e = rw (of-torn b i e) (torn-record h e)
      by-record (Some r) e = rw (of-whole b i e) (whole-record e)
