-- Who reads record by record, and goes on behind short records only and only so often, needs no more than the front of the bytes: where many are left, the next record is whole, and the front has it too. Assumes nothing.
use mathlib.Core.Path.{◌≡◌, refl, sym, ap, ◌∙◌}
use mathlib.Core.Bool.{Bool, true, false}
use mathlib.Core.List.{List, ◌∷◌}
use Prim.Native.Nat.{ℕ, zero, suc, ◌+◌, ◌-◌, ◌*◌, ◌≤◌, ◌<◌}
use native.Mathlib.Omega.{arith}
use native.Mathlib.Nat.{suc-mul}
use lib.ListN.{length, take, drop, length-drop}
use lib.Seq.{take_all, take-add, take-take, drop_at, length-take-le, get_or-take}
use lib.Dec.{leb}
use borrow.Author.Tests.{leb-true, leb-false}
use Rattle.records.specs.Record.{length_field, kind_field, is_torn, Piece, whole, pieces}
use Rattle.records.specs.Types.{IsByte, IsBytes}
use Rattle.records.proofs.Lists.{all_take, all_drop}
use Rattle.records.proofs.word.Bytes.{byte_at}
use Rattle.records.proofs.record.Cut.{fits_whole, pieces_whole}

-- a length is at most 65,535
field-small : (b : List ℕ) → IsBytes b → length_field b ≤ 65535
field-small b h = omega (arith, byte_at b h 0, byte_at b h 1)

-- where many bytes are left, the next record is whole
long-whole : (b : List ℕ) → IsBytes b → 65539 ≤ length b → is_torn b ≡ false
long-whole b h l = fits_whole b (omega (arith, field-small b h))

drop-take : (k n : ℕ) (b : List ℕ) → k ≤ n → k ≤ length b → drop k (take n b) ≡ take (n - k) (drop k b)
drop-take k n b h l =
    let e : n ≡ k + (n - k) = omega arith in
    ap (λ (m : ℕ). drop k (take m b)) e ∙ rw (take-add k (n - k) b) (drop_at (take k b) (take (n - k) (drop k b)) k (length-take-le k b l))

-- the first n bytes are all; or the same record stands at the front, and then the front of the rest
pub data Front (n : ℕ) (b : List ℕ) : Type 0 where
  every : take n b ≡ b → Front n b
  some : (kind : ℕ) (body rest : List ℕ) → IsBytes rest → pieces b ≡ whole kind body ∷ pieces rest
      → pieces (take n b) ≡ whole kind body ∷ pieces (take (n - (4 + length body)) rest) → Front n b

pub front_of : (n : ℕ) (b : List ℕ) → IsBytes b → 65539 ≤ n → Front n b
front_of n b h l = by-test (leb (length b) n) refl
  where
    by-test : (t : Bool) → leb (length b) n ≡ t → Front n b
    by-test true e = every (take_all n b (leb-true (length b) n e))
    by-test false e =
        let g = leb-false (length b) n e in
        let p : List ℕ = take n b in
        let k : ℕ = length_field b in
        let small : k ≤ 65535 = field-small b h in
        let size : length p ≡ n = length-take-le n b (omega arith) in
        let field : length_field p ≡ k = rw (get_or-take n b 0 0 (omega arith), get_or-take n b 1 0 (omega arith)) in
        let kind : kind_field p ≡ kind_field b = rw (get_or-take n b 2 0 (omega arith), get_or-take n b 3 0 (omega arith)) in
        let four : drop 4 p ≡ take (n - 4) (drop 4 b) = drop-take 4 n b (omega arith) (omega arith) in
        let body : take k (drop 4 p) ≡ take k (drop 4 b) = ap (take k) four ∙ take-take k (n - 4) (drop 4 b) (omega arith) in
        let rest : drop (4 + k) p ≡ take (n - (4 + k)) (drop (4 + k) b) = drop-take (4 + k) n b (omega arith) (omega arith) in
        let length-body : length (take k (drop 4 b)) ≡ k = length-take-le k (drop 4 b) (rw length-drop (omega arith)) in
        some (kind_field b) (take k (drop 4 b)) (drop (4 + k) b) (all_drop IsByte (4 + k) b h)
        (pieces_whole b (long-whole b h (omega arith)))
        (pieces_whole p (long-whole p (all_take IsByte n b h) (omega arith)) ∙ rw (field, kind, body, rest, length-body))

-- ---- a reader that goes record by record

-- what it does at a whole record: it ends there, whatever follows; or goes on behind it, which it does at most `left` times, and behind records of at most `size` bytes
pub data Turn {S X : Type 0} (read : S → List Piece → X) (left : S → ℕ) (size : ℕ) (s : S) (kind : ℕ) (body : List ℕ) : Type 0 where
  ends : (x : X) → ((ps : List Piece) → read s (whole kind body ∷ ps) ≡ x) → Turn read left size s kind body
  goes : (next : S) → left next < left s → 4 + length body ≤ size → ((ps : List Piece) → read s (whole kind body ∷ ps) ≡ read next ps) → Turn read left size s kind body

module _ {S X : Type 0} (read : S → List Piece → X) (left : S → ℕ) (size : ℕ) (turn : (s : S) (kind : ℕ) (body : List ℕ) → Turn read left size s kind body) where
  -- the first n bytes are read as all are
  abbrev Same : ℕ → S → List ℕ → Type 0
  Same n s b = read s (pieces (take n b)) ≡ read s (pieces b)

  one-turn : (n : ℕ) (s : S) (b : List ℕ) → IsBytes b → 65539 ≤ n → ((next : S) (m : ℕ) (rest : List ℕ) → left next < left s → IsBytes rest → n ≤ m + size → Same m next rest) → Same n s b
  one-turn n s b d l later = by_front (front_of n b d l)
    where
      by_turn : (kind : ℕ) (body rest : List ℕ) → IsBytes rest → Turn read left size s kind body → read s (whole kind body ∷ pieces (take (n - (4 + length body)) rest)) ≡ read s (whole kind body ∷ pieces rest)
      by_turn kind body rest r (ends x e) = e _ ∙ sym (e (pieces rest))
      by_turn kind body rest r (goes next f g e) = e _ ∙ later next (n - (4 + length body)) rest f r (omega arith) ∙ sym (e (pieces rest))

      by_front : Front n b → Same n s b
      by_front (every e) = ap (λ (x : List ℕ). read s (pieces x)) e
      by_front (some kind body rest r e f) = rw (e, f) (by_turn kind body rest r (turn s kind body))

  pub pieces-front : (j n : ℕ) (s : S) (b : List ℕ) → left s ≤ j → IsBytes b → j * size + 65539 ≤ n → Same n s b
  pieces-front zero n s b h d l = one-turn n s b d (omega arith) (λ next m rest f r g. absurd (omega arith))
  pieces-front (suc j) n s b h d l = one-turn n s b d (omega arith) (λ next m rest f r g. pieces-front j m next rest (omega arith) r (omega (arith, suc-mul j size)))
