-- A record that is read as an instant is short, and what it is read as is small; so is a refusal's number. Assumes nothing.
use mathlib.Core.Path.{◌≡◌, sym, ap, ◌∙◌, subst}
use mathlib.Core.Bool.{not}
use mathlib.Core.List.{List, [], ◌∷◌, append-nil}
use Prim.Native.Nat.{ℕ, ◌+◌, ◌*◌, ◌≤◌}
use native.Mathlib.Omega.{arith}
use lib.ListN.{length}
use lib.Dec.{leb, eqb}
use borrow.Author.Tests.{leb-true, eqb-true, not-false}
use Rattle.records.specs.Outcome.{taken, refused, Check, ◌⇒◌}
use Rattle.records.specs.Record.{Piece, whole, torn, pieces, record_bytes}
use Rattle.records.specs.Sheet.{clock_count}
use Rattle.records.specs.Instant.{InstantValue, instant_checks, one_instant_checks, number_length, instant_in, read_instant}
use Rattle.records.specs.Types.{All, IsBytes, IsInstantValue}
use Rattle.records.proofs.Lists.{both, taken-passed, refused-number}
use Rattle.records.proofs.record.Cut.{no_pieces}
use Rattle.records.proofs.record.Inverse.{pieces-record}
use Rattle.records.proofs.form.Laws.{number-few}
use Rattle.records.proofs.instant.Pieces.{instant-taken}

-- C is at most 8, so its record has at most 30 bytes, a number's two among them; its tags are of 16 bits where its bytes are bytes
pub record Short (body : List ℕ) (v : InstantValue) : Type 0 where
  pub bytes : 4 + length body ≤ 30
  pub few : IsBytes body → length v.cells ≤ 8
  pub value : IsBytes body → IsInstantValue v

pub taken-short : (c kind : ℕ) (body : List ℕ) {v : InstantValue} → read_instant c (record_bytes kind body) ≡ taken v → Short body v
unfolding read_instant
taken-short c kind body {v} e =
    let p : pieces (record_bytes kind body) ≡ whole kind body ∷ [] = ap pieces (sym (append-nil (record_bytes kind body))) ∙ pieces-record kind body [] ∙ rw no_pieces in
    let t = taken-passed ((not (clock_count c) ⇒ 4) ∷ instant_checks c (whole kind body)) (rw p at e) in
    let most = leb-true c 8 (both (leb 1 c) (not-false (clock_count c) t.0.0)).1 in
    let size = eqb-true (length body) (3 * c + number_length kind) (not-false (eqb (length body) (3 * c + number_length kind)) t.0.1.1.0) in
    record {
      bytes = omega (arith, number-few kind);
      few = λ d. omega (arith, ap (λ (x : InstantValue). length x.cells) t.1, (instant-taken c (whole kind body ∷ []) (d, tt) t.0.1).size);
      value = λ d. subst IsInstantValue t.1 (instant-taken c (whole kind body ∷ []) (d, tt) t.0.1).value;
    }

-- ---- what it is refused with

instant-low : (c : ℕ) (p : Piece) → All (λ (k : Check). k.number ≤ 15) (instant_checks c p)
instant-low c torn = (omega arith, tt)
instant-low c (whole kind body) = (omega arith, (omega arith, (omega arith, tt)))

one-low : (c : ℕ) (ps : List Piece) → All (λ (k : Check). k.number ≤ 15) (one_instant_checks c ps)
one-low c [] = (omega arith, tt)
one-low c (p ∷ []) = instant-low c p
one-low c (p ∷ q ∷ ps) = (omega arith, tt)

pub read_number : (c : ℕ) (b : List ℕ) {n : ℕ} → read_instant c b ≡ refused n → n ≤ 15
unfolding read_instant
read_number c b e = refused-number (λ (n : ℕ). n ≤ 15) ((not (clock_count c) ⇒ 4) ∷ one_instant_checks c (pieces b)) (instant_in (pieces b)) (omega arith, one-low c (pieces b)) e
