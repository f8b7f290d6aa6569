-- The first 65,704 bytes of a sheet decide what it is read as: 5 of the clocks, 10 of each of 16 lines, and the longest record; a refusal has a number up to 18. Assumes nothing.
use mathlib.Core.Path.{◌≡◌, sym, ap, ◌∙◌}
use mathlib.Core.List.{List, [], ◌∷◌, ◌++◌, map}
use Prim.Native.Nat.{ℕ, ◌+◌, ◌-◌, ◌≤◌}
use native.Mathlib.Omega.{arith}
use lib.ListN.{length, take, length-append}
use lib.Seq.{append_snoc}
use lib.Dec.{eqb}
use borrow.Author.Tests.{leb-false, eqb-true, not-false}
use Rattle.records.specs.declared.order.Order.{Order}
use Rattle.records.specs.Outcome.{Outcome, refused, Check, decide, in_turn}
use Rattle.records.specs.Word.{at}
use Rattle.records.specs.Record.{Piece, whole, torn, pieces}
use Rattle.records.specs.Line.{sporadics, length_of, line_checks}
use Rattle.records.specs.Sheet.{SheetValue, clocks_checks, clocks_in, kind_in, key_in, line_in, order_checks, lines_checks, sheet_checks, sheet_in, read_by}
use Rattle.records.specs.Types.{All, IsBytes}
use Rattle.records.proofs.Lists.{Decided, passes, stops, decided, decide-passed, refused-number, all_append}
use Rattle.records.proofs.line.Table.{length_most}
use Rattle.records.proofs.record.Front.{Front, every, some, front_of, Turn, ends, goes, pieces-front}

-- what the lines after some others come to
abbrev lines_read : Order → ℕ → ℕ → List Piece → List Piece → Outcome SheetValue
lines_read order last c before ps = decide (lines_checks order last c before ps) (record { clocks = c; lines = map line_in (before ++ ps) })

-- a line that passes has at most 10 bytes, and 16 of them are the most
line-turn : (order : Order) (last c : ℕ) (before : List Piece) (kind : ℕ) (body : List ℕ) → Turn (lines_read order last c) (λ before. 16 - length before) 10 before kind body
line-turn order last c before kind body = by-checks (decided these)
  where
    these : List Check
    these = line_checks last c (length before) (sporadics (map kind_in before)) (whole kind body) ++ order_checks order (map key_in before) (kind ∷ body)

    after : List Piece
    after = before ++ (whole kind body ∷ [])

    value : List Piece → SheetValue
    value ps = record { clocks = c; lines = map line_in (before ++ whole kind body ∷ ps) }

    by-checks : Decided SheetValue these → Turn (lines_read order last c) (λ before. 16 - length before) 10 before kind body
    by-checks (stops n e) = ends (refused n) (λ ps. e (lines_checks order last c after ps) (value ps))
    by-checks (passes h) =
        let room = leb-false 16 (length before) h.0 in
        let size = eqb-true (length body) (length_of kind) (not-false (eqb (length body) (length_of kind)) h.1.1.0) in
        let grown : length after ≡ length before + 1 = length-append before (whole kind body ∷ []) in
        let same : (ps : List Piece) → lines_read order last c before (whole kind body ∷ ps) ≡ lines_read order last c after ps = λ ps. decide-passed (lines_checks order last c after ps) (value ps) these h ∙ rw append_snoc in
        goes after (omega arith) (omega (arith, length_most kind)) same

-- what the clocks and the lines after them come to
abbrev all_read : Order → ℕ → List Piece → Outcome SheetValue
all_read order last ps = decide (sheet_checks order last ps) (sheet_in ps)

-- clocks that pass have 5 bytes
clocks-front : (order : Order) (last n kind : ℕ) (body rest : List ℕ) → 65704 ≤ n → IsBytes rest → all_read order last (whole kind body ∷ pieces (take (n - (4 + length body)) rest)) ≡ all_read order last (whole kind body ∷ pieces rest)
clocks-front order last n kind body rest l d = by-checks (decided these)
  where
    c : ℕ
    c = at body 0

    m : ℕ
    m = n - (4 + length body)

    these : List Check
    these = clocks_checks (whole kind body)

    value : List Piece → SheetValue
    value ps = sheet_in (whole kind body ∷ ps)

    by-checks : Decided SheetValue these → all_read order last (whole kind body ∷ pieces (take m rest)) ≡ all_read order last (whole kind body ∷ pieces rest)
    by-checks (stops k e) = e (lines_checks order last c [] (pieces (take m rest))) (value (pieces (take m rest))) ∙ sym (e (lines_checks order last c [] (pieces rest)) (value (pieces rest)))
    by-checks (passes h) =
        let size = eqb-true (length body) 1 (not-false (eqb (length body) 1) h.1.0) in
        let same : (ps : List Piece) → all_read order last (whole kind body ∷ ps) ≡ lines_read order last c [] ps = λ ps. decide-passed (lines_checks order last c [] ps) (value ps) these h in
        same (pieces (take m rest))
        ∙ pieces-front (lines_read order last c) (λ before. 16 - length before) 10 (line-turn order last c) 16 m [] rest (omega arith) d (omega arith)
        ∙ sym (same (pieces rest))

pub read-front : (order : Order) (last n : ℕ) (b : List ℕ) → IsBytes b → 65704 ≤ n → read_by order last (take n b) ≡ read_by order last b
unfolding read_by
read-front order last n b d l = by_front (front_of n b d (omega arith))
  where
    by_front : Front n b → read_by order last (take n b) ≡ read_by order last b
    by_front (every e) = ap (read_by order last) e
    by_front (some kind body rest r e f) = rw (e, f) (clocks-front order last n kind body rest l r)

-- ---- what it is refused with

in-turn : (P : Check → Type 0) (checks : List Piece → Piece → List Check) → ((before : List Piece) (p : Piece) → All P (checks before p)) → (before ps : List Piece) → All P (in_turn checks before ps)
in-turn P checks each before [] = tt
in-turn P checks each before (p ∷ ps) = all_append P (checks before p) _ (each before p) (in-turn P checks each (before ++ (p ∷ [])) ps)

abbrev Low : Check → Type 0
Low c = c.number ≤ 18

clocks-low : (p : Piece) → All Low (clocks_checks p)
clocks-low torn = (omega arith, tt)
clocks-low (whole kind body) = (omega arith, (omega arith, (omega arith, tt)))

line_low : (last c n spent : ℕ) (p : Piece) → All Low (line_checks last c n spent p)
line_low last c n spent torn = (omega arith, tt)
line_low last c n spent (whole kind body) = (omega arith, (omega arith, (omega arith, (omega arith, (omega arith, (omega arith, tt))))))

sheet-low : (order : Order) (last : ℕ) (ps : List Piece) → All Low (sheet_checks order last ps)
sheet-low order last [] = (omega arith, tt)
sheet-low order last (p ∷ ps) =
    all_append Low (clocks_checks p) (lines_checks order last (clocks_in p) [] ps) (clocks-low p)
    (in-turn Low _ (λ before q. all_append Low (line_checks last (clocks_in p) (length before) (sporadics (map kind_in before)) q) (order_checks order (map key_in before) (key_in q)) (line_low last (clocks_in p) (length before) (sporadics (map kind_in before)) q) (omega arith, tt)) [] ps)

pub read_number : (order : Order) (last : ℕ) (b : List ℕ) {n : ℕ} → read_by order last b ≡ refused n → n ≤ 18
unfolding read_by
read_number order last b e = refused-number (λ (n : ℕ). n ≤ 18) (sheet_checks order last (pieces b)) (sheet_in (pieces b)) (sheet-low order last (pieces b)) e
