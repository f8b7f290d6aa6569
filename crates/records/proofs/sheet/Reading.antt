-- Laws for the functions that read a sheet, one for each way through the code. Assumes nothing.
use mathlib.Core.Path.{◌≡◌, refl, sym, ap, ◌∙◌}
use mathlib.Core.Bool.{true, false, ◌&&◌}
use mathlib.Core.List.{List, [], ◌∷◌, ◌++◌, map, append-nil}
use Prim.Native.Nat.{ℕ, ◌+◌, ◌-◌, ◌<◌, ◌≤◌}
use native.Mathlib.Omega.{arith}
use lib.ListN.{length, take, drop, set, length-map, length-append, length-drop, drop_of_length-le}
use lib.Seq.{append_snoc, length-take-le, get_or-take, get_or-drop}
use lib.Dec.{leb, eqb}
use borrow.Author.Tests.{leb-false, eq-eqb, eqb-true, ne_eqb, not-false}
use Rattle.std.specs.Prelude.{None, Some}
use Rattle.records.specs.declared.line.Line.{Line}
use Rattle.records.specs.declared.order.Order.{Order}
use Rattle.records.specs.declared.sheet.Sheet.{Sheet}
use Rattle.records.specs.declared.record.Record.{Record}
use Rattle.records.specs.Outcome.{Outcome, taken, refused, Check, decide}
use Rattle.records.specs.Lists.{listed, filled}
use Rattle.records.specs.Word.{at}
use Rattle.records.specs.Record.{Piece, whole, pieces, record_at}
use Rattle.records.specs.Line.{is_line, length_of, sporadics, line_checks, line_of, blank_line}
use Rattle.records.specs.Order.{key_of, in_order}
use Rattle.records.specs.Sheet.{SheetValue, clock_count, kind_in, key_in, line_in, order_checks, lines_checks, read_by, line_at, sheet_value, sheet_of, sheet_read}
use Rattle.records.specs.Types.{IsByte, IsBytes}
use Rattle.records.specs.Inner.{sporadic_of, sheet_from, with_line}
use Rattle.records.proofs.Lists.{both, all_take, all_drop, Passed, taken-passed, decide-passed, decide-refused, map-append, filled-set}
use Rattle.records.proofs.record.Cut.{no_pieces}
use Rattle.records.proofs.record.Laws.{whole-at, pieces-at, pieces-torn-at}
use Rattle.records.proofs.line.Inverse.{kind-back, body_back}
use Rattle.records.proofs.sheet.RoundTrip.{sheet_of-value}
use Rattle.records.proofs.sheet.Writing.{sporadics-snoc, sporadics-few}

-- a sheet with one line more
pub sheet-more : (c : ℕ) (ls : List Line) (l : Line) → length ls < 16 → with_line (sheet_of (record { clocks = c; lines = ls })) l ≡ sheet_of (record { clocks = c; lines = ls ++ (l ∷ []) })
sheet-more c ls l h =
    let k : length ls + 1 ≡ length (ls ++ (l ∷ [])) = sym (length-append ls (l ∷ [])) in
    let f : set (filled 16 blank_line ls) (length ls) l ≡ filled 16 blank_line (ls ++ (l ∷ [])) = filled-set 16 (length ls) blank_line l ls refl h in
    λ i. record { clocks = c; count = k i; lines = f i }

-- `before` are the records of the lines read, and the answer is that of the records left
pub record Reading (order : Order) (last : ℕ) (b : List ℕ) (c : ℕ) (s : Sheet) (spent at : ℕ) : Type 0 where
  pub before : List Piece
  pub sheet : s ≡ sheet_of (record { clocks = c; lines = map line_in before })
  pub few : length before ≤ 16
  pub counted : spent ≡ sporadics (map kind_in before)
  pub keys : map key_of (map line_in before) ≡ map key_in before
  pub left : sheet_from order last c (pieces (drop 5 b)) ≡ decide (lines_checks order last c before (pieces (drop at b))) (record { clocks = c; lines = map line_in (before ++ pieces (drop at b)) })

pub reading-start : (order : Order) (last : ℕ) (b : List ℕ) (c : ℕ) {s : Sheet} → s ≡ sheet_of (record { clocks = c; lines = [] }) → Reading order last b c s 0 5
unfolding sheet_from
reading-start order last b c e = record { before = []; sheet = e; few = omega arith; counted = refl; keys = refl; left = refl }

module _ (order : Order) (last : ℕ) (b : List ℕ) (c : ℕ) (s : Sheet) (spent at : ℕ) (m : Reading order last b c s spent at) where
  -- what is to be answered
  abbrev due : Outcome Sheet
  due = sheet_read (sheet_from order last c (pieces (drop 5 b)))

  count : s.count ≡ length m.before
  count = ap (λ (s : Sheet). s.count) m.sheet ∙ length-map m.before line_in

  pub reading-spent : spent ≤ 16
  reading-spent = omega (arith, m.counted, m.few, sporadics-few (map kind_in m.before), length-map m.before kind_in)

  pub reading-end : length b ≤ at → taken s ≡ due
  reading-end h = rw (m.left, drop_of_length-le b {i = at} h, no_pieces, append-nil) (ap taken m.sheet)

  pub reading-torn : at < length b → None ≡ record_at b at → refused 1 ≡ due
  reading-torn h e = rw (m.left, pieces-torn-at b at h (sym e))

  module _ {r : Record} (e : Some r ≡ record_at b at) where
    pub reading-fits : at + 4 + r.len ≤ length b
    reading-fits = (whole-at b at (sym e)).fits

    -- the record here, its checks, its place in the order, and the checks of the records after it
    abbrev body : List ℕ
    body = take r.len (drop (at + 4) b)

    abbrev these : List Check
    these = line_checks last c (length m.before) (sporadics (map kind_in m.before)) (whole r.kind body)

    abbrev place : List Check
    place = order_checks order (map key_in m.before) (r.kind ∷ body)

    abbrev later : List Check
    later = lines_checks order last c (m.before ++ (whole r.kind body ∷ [])) (pieces (drop (at + 4 + r.len) b))

    abbrev value : SheetValue
    value = record { clocks = c; lines = map line_in (m.before ++ whole r.kind body ∷ pieces (drop (at + 4 + r.len) b)) }

    turn : sheet_from order last c (pieces (drop 5 b)) ≡ decide (these ++ (place ++ later)) value
    turn = m.left ∙ rw (pieces-at b at (sym e))

    -- what reading its line answers, of the bytes of the record
    abbrev read : Outcome Line
    read = decide (line_checks last c s.count spent (whole r.kind (take (at + 4 + r.len - (at + 4)) (drop (at + 4) b)))) (line_of r.kind (take (at + 4 + r.len - (at + 4)) (drop (at + 4) b)))

    here : decide these (line_of r.kind body) ≡ read
    here =
        let z : at + 4 + r.len - (at + 4) ≡ r.len = omega arith in
        rw (← m.counted, ← count, z)

    pub reading-refused : {q : ℕ} → refused q ≡ read → refused q ≡ due
    reading-refused p = rw (turn, decide-refused (place ++ later) value these (line_of r.kind body) (here ∙ sym p))

    module _ {t : Line} (p : taken t ≡ read) where
      passed : Passed these × (line_of r.kind body ≡ t)
      passed = taken-passed these (here ∙ sym p)

      pub reading-room : s.count < 16
      reading-room = omega (arith, count, leb-false 16 (length m.before) passed.0.0)

      own : sheet_from order last c (pieces (drop 5 b)) ≡ decide (place ++ later) value
      own = turn ∙ decide-passed (place ++ later) value these passed.0

      module _ (is : IsBytes b) where
        -- the line is compared by the record's kind and body
        key : key_of t ≡ r.kind ∷ body
        key =
            let known = (both (is_line r.kind) (not-false (is_line r.kind && leb r.kind last) passed.0.1.0)).0 in
            let size = eqb-true (length body) (length_of r.kind) (not-false (eqb (length body) (length_of r.kind)) passed.0.1.1.0) in
            let bytes = all_take IsByte r.len (drop (at + 4) b) (all_drop IsByte (at + 4) b is) in
            rw (← passed.1, kind-back r.kind body known, body_back body bytes r.kind known size)

        stands : in_order order (map key_of (listed (line_at s) s.count)) (key_of t) ≡ in_order order (map key_in m.before) (r.kind ∷ body)
        stands =
            let v : (sheet_value s).lines ≡ map line_in m.before = ap (λ (s : Sheet). (sheet_value s).lines) m.sheet ∙ ap (λ (v : SheetValue). v.lines) (sheet_of-value (record { clocks = c; lines = map line_in m.before })) in
            rw (v, m.keys, key)

        pub reading-17 : in_order order (map key_of (listed (line_at s) s.count)) (key_of t) ≡ false → refused 17 ≡ due
        reading-17 h = rw (own, sym stands ∙ h)

        pub reading-more : in_order order (map key_of (listed (line_at s) s.count)) (key_of t) ≡ true → {s' : Sheet} {j : ℕ} → s' ≡ with_line s t → j ≡ sporadic_of r.kind → Reading order last b c s' (spent + j) (at + 4 + r.len)
        reading-more h u v = record {
          before = m.before ++ (whole r.kind body ∷ []);
          sheet = u ∙ rw (m.sheet, map-append, passed.1) (sheet-more c (map line_in m.before) t (rw length-map (omega (arith, count, reading-room))));
          few = rw length-append (omega (arith, count, reading-room));
          counted = rw (map-append, sporadics-snoc, ← m.counted, v);
          keys = simp map-append (rw (m.keys, passed.1, key));
          left = own ∙ rw (sym stands ∙ h, append_snoc);
        }

-- the answers of `read_by`
torn-sheet : (order : Order) (last : ℕ) (b : List ℕ) → record_at b 0 ≡ None → read_by order last b ≡ refused 1
unfolding read_by
torn-sheet order last [] e = rw no_pieces
torn-sheet order last (y ∷ b) e = rw (pieces-torn-at (y ∷ b) 0 (omega arith) e)

module _ (order : Order) (last : ℕ) (b : List ℕ) where
  pub sheet-1 : None ≡ record_at b 0 → refused 1 ≡ sheet_read (read_by order last b)
  sheet-1 e = rw (torn-sheet order last b (sym e))

  module _ {r : Record} (e : Some r ≡ record_at b 0) where
    first : pieces b ≡ whole r.kind (take r.len (drop 4 b)) ∷ pieces (drop (4 + r.len) b)
    first = pieces-at b 0 (sym e)

    pub sheet-fits : 4 + r.len ≤ length b
    sheet-fits = (whole-at b 0 (sym e)).fits

    size : length (take r.len (drop 4 b)) ≡ r.len
    size = length-take-le r.len (drop 4 b) (rw length-drop (omega (arith, sheet-fits)))

    pub sheet-2 : (r.kind ≡ 1 → ⊥) → refused 2 ≡ sheet_read (read_by order last b)
    unfolding read_by
    sheet-2 h = rw (first, ne_eqb r.kind 1 h)

    module _ (p : r.kind ≡ 1) where
      pub sheet-3 : (r.len ≡ 1 → ⊥) → refused 3 ≡ sheet_read (read_by order last b)
      unfolding read_by
      sheet-3 h = rw (first, size, eq-eqb r.kind 1 p, ne_eqb r.len 1 h)

      module _ (q : r.len ≡ 1) where
        clocks : at (take r.len (drop 4 b)) 0 ≡ at b 4
        clocks = let l : 0 < 1 = omega arith in rw (q, get_or-take 1 (drop 4 b) 0 0 l, get_or-drop)

        pub sheet-4 : clock_count (at b 4) ≡ false → refused 4 ≡ sheet_read (read_by order last b)
        unfolding read_by
        sheet-4 h = rw (first, size, eq-eqb r.kind 1 p, eq-eqb r.len 1 q, clocks, h)

        pub sheet-lines : clock_count (at b 4) ≡ true → {o : Outcome Sheet} → o ≡ sheet_read (sheet_from order last (at b 4) (pieces (drop 5 b))) → o ≡ sheet_read (read_by order last b)
        unfolding read_by sheet_from
        sheet-lines h g =
            let lines : List Piece = pieces (drop 5 b) in
            g ∙ rw (first, size, eq-eqb r.kind 1 p, eq-eqb r.len 1 q, clocks, h, q)
            (ap (λ (c : ℕ). sheet_read (decide (lines_checks order last c [] lines) (record { clocks = at b 4; lines = map line_in lines }))) (sym clocks))
