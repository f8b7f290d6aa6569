-- Laws of specs/Instant.antt, one for each way through the code. Assumes nothing.
use mathlib.Core.Path.{◌≡◌, refl, sym, ap, ◌∙◌}
use mathlib.Core.Bool.{Bool, true, false, cond}
use mathlib.Core.List.{List, [], ◌∷◌, ◌++◌, map, append-nil, append_assoc}
use Prim.Native.Nat.{ℕ, ◌+◌, ◌*◌, ◌<◌, ◌≤◌}
use native.Mathlib.Omega.{arith}
use native.Mathlib.Numerals.{add-one}
use lib.ListN.{length, take, drop, length-map, length-append, length-drop, drop_of_length-le}
use lib.Seq.{drop-cons, take_all}
use lib.IntN.{ℤ, pos}
use lib.Dec.{leb, ltb}
use lib.Signed.{mag}
use mir.Syntax.{w16}
use mir.Val.{to_z, of_z}
use borrow.Author.Tests.{leb-true, eq-eqb, ne_eqb}
use Rattle.records.specs.declared.form.Form.{Form}
use Rattle.records.specs.declared.instant.Tick.{Tick}
use Rattle.records.specs.declared.instant.Tick.TheVariants.{Idle}
use Rattle.records.specs.declared.instant.Instant.{Instant}
use Rattle.std.specs.Prelude.{Some, None}
use Rattle.records.specs.declared.record.Record.{Record}
use Rattle.records.specs.Outcome.{Outcome, taken, refused, decide, ◌⇒◌}
use Rattle.records.specs.Lists.{filled}
use Rattle.records.specs.Word.{at, word_at, tag_of}
use Rattle.records.specs.Record.{is_torn, whole, cut, pieces, record_at}
use Rattle.records.specs.Sheet.{clock_count}
use Rattle.records.specs.Instant.{Cell, InstantValue, RawCell, tick_of, raw_cells, tick_above, cell_of, is_instant_kind, number_length, form_of, one_instant_checks, instant_in, read_instant, instant_of, instant_read}
use Rattle.records.specs.Inner.{with_cell, cells_read, body_read}
use Rattle.records.proofs.Lists.{both, taken-passed, map-append, filled-set}
use Rattle.records.proofs.word.Laws.{back}
use Rattle.records.proofs.record.Laws.{whole-at, torn-at, pieces-at}
use Rattle.records.proofs.record.Cut.{no_pieces, pieces-torn}

-- ---- reading clocks

-- a struct with these clocks at place i and after it
abbrev pub with_cells : Instant → ℕ → List Cell → Instant
with_cells v i [] = v
with_cells v i (c ∷ cells) = with_cells (with_cell v i c.tick c.tag) (i + 1) cells

-- what the clocks from place i on answer, where those before are in a struct
unfoldable pub cells_from : Instant → ℕ → List RawCell → Outcome Instant
cells_from v i cells = cond (tick_above cells) (refused 15) (taken (with_cells v i (map cell_of cells)))

-- the struct of a form's value with these clocks
abbrev pub struct_of : Form → List Cell → Instant
struct_of form cells = instant_of (record { form = form; cells = cells })

cell_set : (form : Form) (cells : List Cell) (i : ℕ) (c : Cell) → length cells ≡ i → i < 8 → with_cell (struct_of form cells) i c.tick c.tag ≡ struct_of form (cells ++ (c ∷ []))
cell_set form cells i c e h =
    let tick : Cell → Tick = λ (x : Cell). x.tick in
    let tag : Cell → ℤ = λ (x : Cell). x.tag in
    let t = filled-set 8 i Idle c.tick (map tick cells) (rw length-map e) h ∙ ap (filled 8 Idle) (sym (map-append tick cells (c ∷ []))) in
    let g = filled-set 8 i (pos 0) c.tag (map tag cells) (rw length-map e) h ∙ ap (filled 8 (pos 0)) (sym (map-append tag cells (c ∷ []))) in
    λ j. record { form = form; ticks = t j; tags = g j }

cells-set : (form : Form) (front cells : List Cell) (i : ℕ) → length front ≡ i → i + length cells ≤ 8 → with_cells (struct_of form front) i cells ≡ struct_of form (front ++ cells)
cells-set form front [] i e h = ap (struct_of form) (sym (append-nil front))
cells-set form front (c ∷ cells) i e h =
    ap (λ (v : Instant). with_cells v (i + 1) cells) (cell_set form front i c e (omega arith))
    ∙ cells-set form (front ++ (c ∷ [])) cells (i + 1) (length-append front (c ∷ []) ∙ omega arith) (omega arith)
    ∙ ap (struct_of form) (append_assoc front (c ∷ []) cells)

raw-size : (b : List ℕ) → 3 * length (raw_cells b) ≤ length b
unfolding raw_cells
raw-size [] = omega arith
raw-size (t ∷ []) = omega arith
raw-size (t ∷ low ∷ []) = omega arith
raw-size (t ∷ low ∷ high ∷ b) = omega (arith, raw-size b)

-- `u` is what stands before the first clock
pub cells-start : (form : Form) (b : List ℕ) (c : ℕ) (u : Instant) → c ≤ 8 → length b ≡ 3 * c → u ≡ struct_of form [] → instant_read (cells_read form b) ≡ cells_from u 0 (raw_cells b)
unfolding cells_read cells_from
cells-start form b c u h l e = rw e (by-test (tick_above (raw_cells b)))
  where
    by-test : (t : Bool) → instant_read (cond t (refused 15) (taken (record { form = form; cells = map cell_of (raw_cells b) }))) ≡ cond t (refused 15) (taken (with_cells (struct_of form []) 0 (map cell_of (raw_cells b))))
    by-test true = refl
    by-test false = rw (cells-set form [] (map cell_of (raw_cells b)) 0 refl (rw length-map (omega (arith, raw-size b))))

next : (b : List ℕ) (k : ℕ) → k < length b → drop k b ≡ at b k ∷ drop (k + 1) b
next b k h = rw (add-one, drop-cons b k 0)

raw-next : (b : List ℕ) (i n : ℕ) → i < n → length b ≡ 3 * n → raw_cells (drop (3 * i) b) ≡ record { tick = at b (3 * i); word = word_at b (3 * i + 1) } ∷ raw_cells (drop (3 * (i + 1)) b)
unfolding raw_cells
raw-next b i n h l =
    let k : 3 * i + 1 + 1 + 1 ≡ 3 * (i + 1) = omega arith in
    rw (next b (3 * i) (omega arith), next b (3 * i + 1) (omega arith), next b (3 * i + 1 + 1) (omega arith), k)

-- a turn of the loop over clocks; `x` is the outcome of all
module _ (b : List ℕ) (n i : ℕ) (v : Instant) {x : Outcome Instant} (l : length b ≡ 3 * n) (inv : x ≡ cells_from v i (raw_cells (drop (3 * i) b))) where
  pub cells-end : n ≤ i → taken v ≡ x
  unfolding raw_cells cells_from
  cells-end h = sym (inv ∙ rw (drop_of_length-le b {i = 3 * i} (omega arith)))

  -- the tick byte of a clock is read, or refused
  module _ (h : i < n) where
    pub cells-no : {k : ℕ} → refused k ≡ decide ((ltb 2 (at b (3 * i)) ⇒ 15) ∷ []) (tick_of (at b (3 * i))) → refused k ≡ x
    unfolding cells_from
    cells-no {k} e = by-test (ltb 2 (at b (3 * i))) refl e
      where
        by-test : (t : Bool) → ltb 2 (at b (3 * i)) ≡ t → refused k ≡ cond t (refused 15) (taken (tick_of (at b (3 * i)))) → refused k ≡ x
        by-test true g e =
            let f : k ≡ 15 = cc in
            rw f (sym (inv ∙ rw (raw-next b i n h l, g)))
        by-test false g e = cc

    pub cells-more : {t : Tick} → taken t ≡ decide ((ltb 2 (at b (3 * i)) ⇒ 15) ∷ []) (tick_of (at b (3 * i))) → {v' : Instant} {z : ℤ} {w : ℕ} → v' ≡ with_cell v i t (to_z w16 (of_z w16 z)) → z ≡ tag_of w → mag z < 32768 → w ≡ word_at b (3 * i + 1)
        → x ≡ cells_from v' (i + 1) (raw_cells (drop (3 * (i + 1)) b))
    unfolding cells_from
    cells-more e q g f k =
        let p = taken-passed ((ltb 2 (at b (3 * i)) ⇒ 15) ∷ []) (sym e) in
        inv ∙ rw (raw-next b i n h l, p.0.0, q, back f g, k, p.1)

-- ---- reading the record

torn-refused : (c : ℕ) (b : List ℕ) → is_torn b ≡ true → decide (one_instant_checks c (pieces b)) (instant_in (pieces b)) ≡ refused 12
torn-refused c [] h = rw no_pieces
torn-refused c (x ∷ b) h = rw (pieces-torn (x ∷ b) (omega arith) h)

more-refused : (c k : ℕ) (body d : List ℕ) (v : InstantValue) → 1 ≤ length d → decide (one_instant_checks c (whole k body ∷ pieces d)) v ≡ refused 12
unfolding cut
more-refused c k body [] v h = absurd (omega arith)
more-refused c k body (x ∷ d) v h = refl

only-piece : (b : List ℕ) {r : Record} → record_at b 0 ≡ Some r → length b ≡ 4 + r.len → pieces b ≡ whole r.kind (drop 4 b) ∷ []
only-piece b {r} e l = pieces-at b 0 e ∙ rw (take_all r.len (drop 4 b) (simp length-drop (omega arith)), drop_of_length-le b {i = 4 + r.len} (omega arith), no_pieces)

-- a clock count is at most 8
pub few-clocks : (c : ℕ) → clock_count c ≡ true → c ≤ 8
few-clocks c h = leb-true c 8 (both (leb 1 c) h).1

-- the answers of `read_body`
module _ (c k : ℕ) (body : List ℕ) where
  pub read-13 : is_instant_kind k ≡ false → refused 13 ≡ instant_read (body_read c k body)
  unfolding body_read
  read-13 h = rw h

  module _ (h : is_instant_kind k ≡ true) where
    pub read-14 : (length body ≡ 3 * c + number_length k → ⊥) → refused 14 ≡ instant_read (body_read c k body)
    unfolding body_read
    read-14 y = rw (h, ne_eqb (length body) (3 * c + number_length k) y)

    pub read-clocks : length body ≡ 3 * c + number_length k → instant_read (cells_read (form_of k body) (drop (number_length k) body)) ≡ instant_read (body_read c k body)
    unfolding body_read cells_read
    read-clocks y = rw (h, eq-eqb (length body) (3 * c + number_length k) y)

-- the answers of `read_instant`
module _ (c : ℕ) (b : List ℕ) where
  pub read-4 : clock_count c ≡ false → refused 4 ≡ instant_read (read_instant c b)
  unfolding read_instant
  read-4 h = rw h

  module _ (h : clock_count c ≡ true) where
    pub read-torn : record_at b 0 ≡ None → refused 12 ≡ instant_read (read_instant c b)
    unfolding read_instant
    read-torn e = rw (h, torn-refused c b (torn-at b 0 e))

    module _ {r : Record} (e : record_at b 0 ≡ Some r) where
      pub read-12 : (length b ≡ 4 + r.len → ⊥) → refused 12 ≡ instant_read (read_instant c b)
      unfolding read_instant
      read-12 l =
          let w = whole-at b 0 e in
          rw (h, pieces-at b 0 e, more-refused c r.kind (take r.len (drop 4 b)) (drop (4 + r.len) b) _ (simp length-drop (omega arith)))

      -- 13, 14, 15 and the instant, as the body's own
      pub read_whole : length b ≡ 4 + r.len → instant_read (body_read c r.kind (drop 4 b)) ≡ instant_read (read_instant c b)
      unfolding read_instant body_read
      read_whole l = rw (h, only-piece b e l)
