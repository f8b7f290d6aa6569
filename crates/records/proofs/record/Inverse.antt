-- A record's bytes are read as that record, and the records of a byte string, none torn, are written as that byte string. Assumes nothing.
use mathlib.Core.Path.{◌≡◌, refl, sym, ap, ◌∙◌}
use mathlib.Core.Bool.{false}
use mathlib.Core.List.{List, [], ◌∷◌, ◌++◌, map}
use Prim.Native.Nat.{ℕ, ◌+◌, ◌≤◌}
use native.Mathlib.Omega.{arith}
use lib.ListN.{length, take, drop, length-append, length-drop, take-append-drop}
use lib.Seq.{take-append_seam, drop-append_seam, drop-drop, length-take-le}
use Rattle.records.specs.Lists.{listed_from, joined}
use Rattle.records.specs.Word.{at}
use Rattle.records.specs.Record.{length_field, kind_field, is_torn, Piece, whole, torn, pieces, record_bytes}
use Rattle.records.specs.Types.{All, IsByte, IsBytes}
use Rattle.records.proofs.Lists.{all_take, all_drop}
use Rattle.records.proofs.word.Inverse.{word_back, word-bytes}
use Rattle.records.proofs.word.Bytes.{byte_at, first-bytes}
use Rattle.records.proofs.record.Cut.{whole-fits, fits_whole, pieces_whole, by-pieces}

-- a record's bytes, and that it is whole
abbrev pub piece_bytes : Piece → List ℕ
piece_bytes (whole kind body) = record_bytes kind body
piece_bytes torn = []

abbrev pub IsWhole : Piece → Type 0
IsWhole (whole kind body) = Unit {0}
IsWhole torn = ⊥

-- the bytes of its body are bytes
abbrev pub IsBody : Piece → Type 0
IsBody (whole kind body) = IsBytes body
IsBody torn = Unit {0}

pub pieces-record : (kind : ℕ) (body rest : List ℕ) → pieces (record_bytes kind body ++ rest) ≡ whole kind body ∷ pieces rest
pieces-record kind body rest =
    let b : List ℕ = record_bytes kind body ++ rest in
    let n : length_field b ≡ length body = word_back (length body) in
    let k : kind_field b ≡ kind = word_back kind in
    let w : is_torn b ≡ false = fits_whole b (omega (arith, length-append body rest)) in
    let d : drop (4 + length_field b) b ≡ rest = sym (drop-drop (length_field b) 4 b) ∙ rw n (drop-append_seam body rest) in
    pieces_whole b w ∙ rw (d, k, n, take-append_seam body rest)

-- the first four bytes and the rest
four : (b : List ℕ) → 4 ≤ length b → at b 0 ∷ at b 1 ∷ at b 2 ∷ at b 3 ∷ drop 4 b ≡ b
unfolding listed_from
four b h = ap (λ (front : List ℕ). front ++ drop 4 b) (first-bytes b 4 h) ∙ take-append-drop 4 b

pub whole-bytes : (b : List ℕ) → IsBytes b → is_torn b ≡ false → record_bytes (kind_field b) (take (length_field b) (drop 4 b)) ++ drop (4 + length_field b) b ≡ b
whole-bytes b h w =
    let f = whole-fits b w in
    let n : length (take (length_field b) (drop 4 b)) ≡ length_field b = length-take-le (length_field b) (drop 4 b) (rw length-drop (omega arith)) in
    let r : take (length_field b) (drop 4 b) ++ drop (4 + length_field b) b ≡ drop 4 b = rw (← drop-drop (length_field b) 4 b) (take-append-drop (length_field b) (drop 4 b)) in
    let x = word-bytes (byte_at b h 0) (byte_at b h 1) in
    let y = word-bytes (byte_at b h 2) (byte_at b h 3) in
    rw (n, r) (cc (four b (omega arith)))

record Cuts (b : List ℕ) (ps : List Piece) : Type 0 where
  bodies : All IsBody ps
  bytes : All IsWhole ps → joined (map piece_bytes ps) ≡ b

cuts : (b : List ℕ) → IsBytes b → Cuts b (pieces b)
cuts b = by-pieces (λ (b : List ℕ) (ps : List Piece). IsBytes b → Cuts b ps)
    (λ h. record { bodies = tt; bytes = λ w. refl })
    (λ b h. record { bodies = (tt, tt); bytes = λ w. absurd w.0 })
    (λ b ps w ih h.
    let r = ih (all_drop IsByte (4 + length_field b) b h) in
    record {
      bodies = (all_take IsByte (length_field b) (drop 4 b) (all_drop IsByte 4 b h), r.bodies);
      bytes = λ u. rw (r.bytes u.1) (whole-bytes b h w);
    })
    b

module _ (b : List ℕ) (h : IsBytes b) where
  pub pieces-bodies : All IsBody (pieces b)
  pieces-bodies = (cuts b h).bodies

  pub pieces-bytes : All IsWhole (pieces b) → joined (map piece_bytes (pieces b)) ≡ b
  pieces-bytes = (cuts b h).bytes
