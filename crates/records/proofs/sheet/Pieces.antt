-- A sheet value as records: its bytes are cut into these, reading checks these as writing checks the value, and what passes is these. Assumes nothing.
use mathlib.Core.Path.{◌≡◌, refl, ap, ◌∙◌}
use mathlib.Core.Bool.{◌&&◌, true≢false}
use mathlib.Core.List.{List, [], ◌∷◌, ◌++◌, map, map-map}
use Prim.Native.Nat.{ℕ, ◌+◌, ◌≤◌}
use native.Mathlib.Omega.{arith}
use lib.ListN.{length, length-map, length-append}
use lib.Dec.{leb, eqb}
use borrow.Author.Tests.{lt-leb, le-leb, le-ltb, leb-true, leb-false, eq-eqb, eqb-true, not-false}
use Rattle.records.specs.declared.line.Line.{Line}
use Rattle.records.specs.declared.order.Order.{Order}
use Rattle.records.specs.Outcome.{decide}
use Rattle.records.specs.Lists.{listed_from, joined}
use Rattle.records.specs.Word.{at}
use Rattle.records.specs.Record.{Piece, whole, torn, pieces}
use Rattle.records.specs.Line.{is_line, length_of, kind_of, body_of, line_bytes}
use Rattle.records.specs.Sheet.{SheetValue, line_in, kind_in, key_in, lines_checks, sheet_checks, sheet_in, value_lines_checks, sheet_value_checks, sheet_bytes}
use Rattle.records.specs.Types.{All, IsLineValue, IsSheet}
use Rattle.records.proofs.Lists.{both, Passed, map-append}
use Rattle.records.proofs.word.Bytes.{byte_at, all-bytes}
use Rattle.records.proofs.record.Cut.{no_pieces}
use Rattle.records.proofs.record.Inverse.{piece_bytes, IsWhole, IsBody, pieces-record}
use Rattle.records.proofs.line.Table.{shaped}
use Rattle.records.proofs.line.Inverse.{line-back, kind-back, body_back, line-value}

abbrev pub piece_of : Line → Piece
piece_of l = whole (kind_of l) (body_of l)

abbrev pub sheet_pieces : SheetValue → List Piece
sheet_pieces v = whole 1 (v.clocks ∷ []) ∷ map piece_of v.lines

-- ---- bytes
lines-pieces : (ls : List Line) → pieces (joined (map line_bytes ls)) ≡ map piece_of ls
lines-pieces [] = no_pieces
lines-pieces (l ∷ ls) = pieces-record (kind_of l) (body_of l) (joined (map line_bytes ls)) ∙ rw (lines-pieces ls)

pub sheet-pieces : (v : SheetValue) → pieces (sheet_bytes v) ≡ sheet_pieces v
unfolding sheet_bytes
sheet-pieces v = pieces-record 1 (v.clocks ∷ []) (joined (map line_bytes v.lines)) ∙ rw lines-pieces

pub pieces-sheet : (v : SheetValue) → joined (map piece_bytes (sheet_pieces v)) ≡ sheet_bytes v
unfolding sheet_bytes
pieces-sheet v = rw (map-map piece_bytes piece_of v.lines)

all_whole : (ls : List Line) → All IsWhole (map piece_of ls)
all_whole [] = tt
all_whole (l ∷ ls) = (tt, all_whole ls)

pub sheet-whole : (v : SheetValue) → All IsWhole (sheet_pieces v)
sheet-whole v = (tt, all_whole v.lines)

-- ---- checks

-- kinds up to a last one
abbrev pub KindsTo : ℕ → List Line → Type 0
KindsTo last ls = All (λ (l : Line). kind_of l ≤ last) ls

module _ {A : Type 0} (x : A) (order : Order) (last : ℕ) where
  lines-decide : (c : ℕ) (before ls : List Line) → length before + length ls ≤ 16 → KindsTo last ls
      → decide (lines_checks order last c (map piece_of before) (map piece_of ls)) x ≡ decide (value_lines_checks order c before ls) x
  lines-decide c before [] h k = refl
  lines-decide c before (l ∷ ls) h k =
      let s = shaped l in
      let n : length (before ++ (l ∷ [])) ≡ length before + 1 = length-append before (l ∷ []) in
      rw (
        length-map before piece_of,
        lt-leb 16 (length before) (omega arith),
        s.line,
        le-leb (kind_of l) last k.0,
        eq-eqb (length (body_of l)) (length_of (kind_of l)) s.size,
        map-map kind_in piece_of before,
        map-map key_in piece_of before,
        ← map-append piece_of before (l ∷ []),
        lines-decide c (before ++ (l ∷ [])) ls (omega arith) k.1,
      )

  pub sheet-decide : (v : SheetValue) → length v.lines ≤ 16 → KindsTo last v.lines → decide (sheet_checks order last (sheet_pieces v)) x ≡ decide (sheet_value_checks order v) x
  sheet-decide v h k = rw (le-ltb 16 (length v.lines) h, lines-decide v.clocks [] v.lines (omega arith) k)

-- ---- values
lines-back : (ls : List Line) → All IsLineValue ls → map line_in (map piece_of ls) ≡ ls
lines-back [] h = refl
lines-back (l ∷ ls) h = rw (line-back l h.0, lines-back ls h.1)

pub sheet-back : (v : SheetValue) → IsSheet v → sheet_in (sheet_pieces v) ≡ v
sheet-back v h = rw (lines-back v.lines h.1)

-- ---- what passes
record LinesRead (last n : ℕ) (ps : List Piece) : Type 0 where
  same : map piece_of (map line_in ps) ≡ ps
  values : All IsLineValue (map line_in ps)
  kinds : KindsTo last (map line_in ps)
  few : n + length ps ≤ 16

lines-read : (order : Order) (last c : ℕ) (before ps : List Piece) → length before ≤ 16 → All IsBody ps → Passed (lines_checks order last c before ps) → LinesRead last (length before) ps
lines-read order last c before [] l d h = record { same = refl; values = tt; kinds = tt; few = omega arith }
lines-read order last c before (torn ∷ ps) l d h = absurd (true≢false h.0)
lines-read order last c before (whole kind body ∷ ps) l d h =
    let room = leb-false 16 (length before) h.0 in
    let t = both (is_line kind) (not-false (is_line kind && leb kind last) h.1.0) in
    let k = t.0 in
    let n = eqb-true (length body) (length_of kind) (not-false (eqb (length body) (length_of kind)) h.1.1.0) in
    let grown : length (before ++ (whole kind body ∷ [])) ≡ length before + 1 = length-append before (whole kind body ∷ []) in
    let r = lines-read order last c (before ++ (whole kind body ∷ [])) ps (omega arith) d.1 h.1.1.1.1.1.1.1 in
    record {
      same = rw (kind-back kind body k, body_back body d.0 kind k n, r.same);
      values = (line-value body d.0 kind k, r.values);
      kinds = (rw (kind-back kind body k) (leb-true kind last t.1), r.kinds);
      few = omega (arith, r.few);
    }

pub record SheetTaken (last : ℕ) (ps : List Piece) : Type 0 where
  pub same : sheet_pieces (sheet_in ps) ≡ ps
  pub value : IsSheet (sheet_in ps)
  pub kinds : KindsTo last (sheet_in ps).lines
  pub few : length (sheet_in ps).lines ≤ 16

pub sheet-taken : (order : Order) (last : ℕ) (ps : List Piece) → All IsBody ps → Passed (sheet_checks order last ps) → SheetTaken last ps
unfolding listed_from
sheet-taken order last [] d h = absurd (true≢false h.0)
sheet-taken order last (torn ∷ ps) d h = absurd (true≢false h.0)
sheet-taken order last (whole kind body ∷ ps) d h =
    let k = eqb-true kind 1 (not-false (eqb kind 1) h.0) in
    let n = eqb-true (length body) 1 (not-false (eqb (length body) 1) h.1.0) in
    let r = lines-read order last (at body 0) [] ps (omega arith) d.1 h.1.1.1 in
    record {
      same = rw (k, r.same) (ap (λ (bs : List ℕ). whole 1 bs ∷ ps) (all-bytes body 1 n));
      value = (byte_at body d.0 0, r.values);
      kinds = r.kinds;
      few = rw length-map (omega (arith, r.few));
    }
