-- An instant value as a record: its bytes are cut into this one, which is not refused, and what is not refused is this one. Assumes nothing.
use mathlib.Core.Path.{◌≡◌, refl, sym, ap, ◌∙◌}
use mathlib.Core.Bool.{false, true≢false}
use mathlib.Core.List.{List, [], ◌∷◌, ◌++◌, map, append-nil}
use Prim.Native.Nat.{ℕ, zero, suc, ◌+◌, ◌-◌, ◌*◌}
use native.Mathlib.Omega.{arith}
use lib.ListN.{length, length-append, length-drop}
use lib.Dec.{ltb, eqb}
use borrow.Author.Tests.{ltb-false, eq-eqb, eqb-true, not-false}
use Rattle.records.specs.declared.instant.Tick.{Tick}
use Rattle.records.specs.declared.instant.Tick.TheVariants.{Idle, Ticks, Unseen}
use Rattle.records.specs.Lists.{joined}
use Rattle.records.specs.Record.{Piece, whole, torn, pieces, record_bytes}
use Rattle.records.specs.Instant.{Cell, InstantValue, tick_of, tick_byte, raw_cells, tick_above, cell_of, is_instant_kind, number_length, clocks_part, one_instant_checks, instant_in, form_kind, number_bytes, cells_bytes, instant_bytes}
use Rattle.records.specs.Types.{All, IsByte, IsBytes, IsInstant, IsInstantValue}
use Rattle.records.proofs.Lists.{Passed, neither, all_drop}
use Rattle.records.proofs.word.Inverse.{tag_back, tag-bytes, tag-range, word-range}
use Rattle.records.proofs.record.Cut.{no_pieces}
use Rattle.records.proofs.record.Inverse.{piece_bytes, IsBody, pieces-record}
use Rattle.records.proofs.form.Laws.{kind-known, number-length, form-back, clocks-back, form-read}

-- ---- a tick and its byte
tick-back : (t : Tick) → tick_of (tick_byte t) ≡ t
unfolding tick_of
tick-back Idle = refl
tick-back Ticks = refl
tick-back Unseen = refl

tick-low : (t : Tick) → ltb 2 (tick_byte t) ≡ false
tick-low Idle = refl
tick-low Ticks = refl
tick-low Unseen = refl

byte-back : (n : ℕ) → ltb 2 n ≡ false → tick_byte (tick_of n) ≡ n
unfolding tick_of
byte-back zero h = refl
byte-back (suc zero) h = refl
byte-back (suc (suc zero)) h = refl
byte-back (suc (suc (suc n))) h = absurd (omega (arith, ltb-false 2 (suc (suc (suc n))) h))

-- ---- the cells and their bytes
cells-back : (cells : List Cell) → IsInstant cells → map cell_of (raw_cells (cells_bytes cells)) ≡ cells
unfolding raw_cells
cells-back [] h = refl
cells-back (c ∷ cells) h = rw (tick-back c.tick, tag_back h.0, cells-back cells h.1)

cells_low : (cells : List Cell) → tick_above (raw_cells (cells_bytes cells)) ≡ false
unfolding raw_cells
cells_low [] = refl
cells_low (c ∷ cells) = rw (tick-low c.tick) (cells_low cells)

pub length-cells : (cells : List Cell) → length (cells_bytes cells) ≡ 3 * length cells
length-cells [] = refl
length-cells (c ∷ cells) = omega (arith, length-cells cells)

record CellsRead (c : ℕ) (body : List ℕ) : Type 0 where
  bytes : cells_bytes (map cell_of (raw_cells body)) ≡ body
  values : IsInstant (map cell_of (raw_cells body))
  size : length (map cell_of (raw_cells body)) ≡ c

cells-read : (c : ℕ) (body : List ℕ) → IsBytes body → length body ≡ 3 * c → tick_above (raw_cells body) ≡ false → CellsRead c body
unfolding raw_cells
cells-read c [] h n l = record { bytes = refl; values = tt; size = omega arith }
cells-read c (t ∷ []) h n l = absurd (omega arith)
cells-read c (t ∷ low ∷ []) h n l = absurd (omega arith)
cells-read c (t ∷ low ∷ high ∷ body) h n l =
    let p = neither (ltb 2 t) l in
    let r = cells-read (c - 1) body h.1.1.1 (omega arith) p.1 in
    record {
      bytes = cc (byte-back t p.0, tag-bytes h.1.0 h.1.1.0, r.bytes);
      values = (tag-range (word-range h.1.0 h.1.1.0), r.values);
      size = omega (arith, r.size);
    }

-- ---- the record
abbrev body_bytes : InstantValue → List ℕ
body_bytes v = number_bytes v.form ++ cells_bytes v.cells

abbrev pub instant_pieces : InstantValue → List Piece
instant_pieces v = whole (form_kind v.form) (body_bytes v) ∷ []

pub length-body : (v : InstantValue) → length (body_bytes v) ≡ length (number_bytes v.form) + 3 * length v.cells
length-body v = omega (arith, length-append (number_bytes v.form) (cells_bytes v.cells), length-cells v.cells)

pub instant-pieces : (v : InstantValue) → pieces (instant_bytes v) ≡ instant_pieces v
unfolding instant_bytes
instant-pieces v =
    ap pieces (sym (append-nil (record_bytes (form_kind v.form) (body_bytes v)))) ∙ pieces-record (form_kind v.form) (body_bytes v) [] ∙ rw no_pieces

pub pieces-instant : (v : InstantValue) → joined (map piece_bytes (instant_pieces v)) ≡ instant_bytes v
unfolding instant_bytes
pieces-instant v = append-nil (record_bytes (form_kind v.form) (body_bytes v))

pub instant-passed : (c : ℕ) (v : InstantValue) → length v.cells ≡ c → Passed (one_instant_checks c (instant_pieces v))
instant-passed c v n =
    let k = kind-known v.form in
    let e : length (body_bytes v) ≡ 3 * c + number_length (form_kind v.form) = omega (arith, length-body v, number-length v.form) in
    (rw k, (rw (eq-eqb (length (body_bytes v)) (3 * c + number_length (form_kind v.form)) e), (rw (clocks-back v.form (cells_bytes v.cells)) (cells_low v.cells), tt)))

pub instant-back : (v : InstantValue) → IsInstant v.cells → instant_in (instant_pieces v) ≡ v
instant-back v h =
    let f = form-back v.form (cells_bytes v.cells) in
    let e : map cell_of (raw_cells (clocks_part (form_kind v.form) (body_bytes v))) ≡ v.cells = rw (clocks-back v.form (cells_bytes v.cells)) (cells-back v.cells h) in
    λ j. record { form = f j; cells = e j }

pub record InstantTaken (c : ℕ) (ps : List Piece) : Type 0 where
  pub same : instant_pieces (instant_in ps) ≡ ps
  pub value : IsInstantValue (instant_in ps)
  pub size : length (instant_in ps).cells ≡ c

pub instant-taken : (c : ℕ) (ps : List Piece) → All IsBody ps → Passed (one_instant_checks c ps) → InstantTaken c ps
instant-taken c [] d h = absurd (true≢false h.0)
instant-taken c (torn ∷ []) d h = absurd (true≢false h.0)
instant-taken c (p ∷ q ∷ ps) d h = absurd (true≢false h.0)
instant-taken c (whole kind body ∷ []) d h =
    let n = eqb-true (length body) (3 * c + number_length kind) (not-false (eqb (length body) (3 * c + number_length kind)) h.1.0) in
    let f = form-read kind body d.0 (not-false (is_instant_kind kind) h.0) (omega arith) in
    let r = cells-read c (clocks_part kind body) (all_drop IsByte (number_length kind) body d.0) (omega (arith, length-drop (number_length kind) body)) h.1.1.0 in
    record { same = rw (f.same, r.bytes, f.before); value = (f.value, r.values); size = r.size }
