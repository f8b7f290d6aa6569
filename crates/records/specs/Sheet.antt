-- A sheet: the clocks record, then 0 to 16 lines up to the end of the bytes. What reading and writing one answer.
use Rattle.std.specs.Prelude.{ℕ, ◌≡◌, Bool, true, not, ◌&&◌, List, [], ◌∷◌, ◌++◌, map, length, get_or, leb, ltb, eqb}
use Rattle.records.specs.declared.line.Line.{Line}
use Rattle.records.specs.declared.order.Order.{Order}
use Rattle.records.specs.declared.order.Order.TheVariants.{Rising, Any}
use Rattle.records.specs.declared.sheet.Sheet.{Sheet}
use Rattle.records.specs.Outcome.{Outcome, kept_as, Check, ◌⇒◌, decide, in_turn}
use Rattle.records.specs.Lists.{listed, filled, joined}
use Rattle.records.specs.Word.{at}
use Rattle.records.specs.Record.{Piece, whole, torn, pieces, record_bytes}
use Rattle.records.specs.Line.{is_sporadic, length_of, clocks_below, sporadics, line_checks, value_line_checks, line_of, kind_of, body_of, line_bytes, blank_line}
use Rattle.records.specs.Order.{key_of, in_order}
use Rattle.records.specs.Store.{Wrote, leaves}

-- a sheet's value: the clock count C and the lines
pub record SheetValue : Type 0 where
  pub clocks : ℕ
  pub lines : List Line

-- C is 1 to 8
abbrev pub clock_count : ℕ → Bool
clock_count c = leb 1 c && leb c 8

-- ---- reading

-- the first record; 1: torn; 2: kind not 1; 3: length not 1; 4: C not 1 to 8
abbrev pub clocks_checks : Piece → List Check
clocks_checks torn = (true ⇒ 1) ∷ []
clocks_checks (whole kind body) =
    (not (eqb kind 1) ⇒ 2)
    ∷ (not (eqb (length body) 1) ⇒ 3)
    ∷ (not (clock_count (at body 0)) ⇒ 4)
    ∷ []

-- what a record holds, as the first of a sheet and as a line
abbrev pub clocks_in : Piece → ℕ
clocks_in torn = 0
clocks_in (whole kind body) = at body 0

abbrev pub kind_in : Piece → ℕ
kind_in torn = 0
kind_in (whole kind body) = kind

abbrev pub line_in : Piece → Line
line_in torn = blank_line
line_in (whole kind body) = line_of kind body

abbrev pub key_in : Piece → List ℕ
key_in torn = []
key_in (whole kind body) = kind ∷ body

-- a line by what it is compared by, `before` those before it; 17: not above the one before it, where lines must rise
abbrev pub order_checks : Order → List (List ℕ) → List ℕ → List Check
order_checks order before key = (not (in_order order before key) ⇒ 17) ∷ []

-- each line in turn, its own checks and then 17; `before` are those before it. A sheet is read by an order, and by the last kind that is a line
abbrev pub lines_checks : Order → ℕ → ℕ → List Piece → List Piece → List Check
lines_checks order last c before lines =
    in_turn
    (λ before line. line_checks last c (length before) (sporadics (map kind_in before)) line ++ order_checks order (map key_in before) (key_in line))
    before
    lines

-- the first record and then each line; no bytes at all: 1
abbrev pub sheet_checks : Order → ℕ → List Piece → List Check
sheet_checks order last [] = (true ⇒ 1) ∷ []
sheet_checks order last (first ∷ lines) = clocks_checks first ++ lines_checks order last (clocks_in first) [] lines

abbrev pub sheet_in : List Piece → SheetValue
sheet_in [] = record { clocks = 0; lines = [] }
sheet_in (first ∷ lines) = record { clocks = clocks_in first; lines = map line_in lines }

-- what reading a sheet answers for every byte string
unfoldable pub read_by : Order → ℕ → List ℕ → Outcome SheetValue
read_by order last b = decide (sheet_checks order last (pieces b)) (sheet_in (pieces b))

-- lines of every kind, in rising order
abbrev pub read_sheet : List ℕ → Outcome SheetValue
read_sheet b = read_by Rising 24 b

-- the same in any order, repeats allowed
abbrev pub read_unordered : List ℕ → Outcome SheetValue
read_unordered b = read_by Any 24 b

-- document 01's own rules: any order, repeats allowed, kinds 16 to 23
abbrev pub read_base : List ℕ → Outcome SheetValue
read_base b = read_by Any 23 b

-- ---- document 01's table for a sheet as it stands there

-- each line, after 1; 8: seventeenth line; 5: kind not 16 to 23; 6: length wrong; 7: clock not below C; 9: ninth sporadic
abbrev pub base_line_checks : ℕ → ℕ → ℕ → Piece → List Check
base_line_checks c lines spent torn = (true ⇒ 1) ∷ []
base_line_checks c lines spent (whole kind body) =
    (leb 16 lines ⇒ 8)
    ∷ (not (leb 16 kind && leb kind 23) ⇒ 5)
    ∷ (not (eqb (length body) (length_of kind)) ⇒ 6)
    ∷ (not (clocks_below c kind body) ⇒ 7)
    ∷ ((is_sporadic kind && leb 8 spent) ⇒ 9)
    ∷ []

-- the first record and then each line; no bytes at all: 1
abbrev pub base_checks : List Piece → List Check
base_checks [] = (true ⇒ 1) ∷ []
base_checks (first ∷ lines) = clocks_checks first ++ in_turn (λ before line. base_line_checks (clocks_in first) (length before) (sporadics (map kind_in before)) line) [] lines

-- what `read_base` answers for every byte string is what that table says (proved as `base-table`)
abbrev pub BaseTable : Type 0
BaseTable = (b : List ℕ) → read_base b ≡ decide (base_checks (pieces b)) (sheet_in (pieces b))

-- ---- the struct

abbrev pub line_at : Sheet → ℕ → Line
line_at s i = get_or s.lines i blank_line

-- the value of a struct: its first `count` lines; unused line places are no part of it
abbrev pub sheet_value : Sheet → SheetValue
sheet_value s = record { clocks = s.clocks; lines = listed (line_at s) s.count }

-- two sheets are the same up to unused places
abbrev pub SameSheet : Sheet → Sheet → Type 0
SameSheet s t = sheet_value s ≡ sheet_value t

-- the struct of a value, its unused line places filled with the blank line
abbrev pub sheet_of : SheetValue → Sheet
sheet_of v = record { clocks = v.clocks; count = length v.lines; lines = filled 16 blank_line v.lines }

-- what was read, as the struct
abbrev pub sheet_read : Outcome SheetValue → Outcome Sheet
sheet_read o = kept_as sheet_of o

-- ---- writing

-- line by line 7, 18, 9, 17; `before` are the lines before
abbrev pub value_lines_checks : Order → ℕ → List Line → List Line → List Check
value_lines_checks order c before lines =
    in_turn
    (λ before l. value_line_checks c (sporadics (map kind_of before)) (kind_of l) (body_of l) ++ order_checks order (map key_of before) (key_of l))
    before
    lines

-- 4; 8; then line by line 7, 18, 9, 17
abbrev pub sheet_value_checks : Order → SheetValue → List Check
sheet_value_checks order v =
    (not (clock_count v.clocks) ⇒ 4)
    ∷ (ltb 16 (length v.lines) ⇒ 8)
    ∷ value_lines_checks order v.clocks [] v.lines

unfoldable pub sheet_bytes : SheetValue → List ℕ
sheet_bytes v = record_bytes 1 (v.clocks ∷ []) ++ joined (map line_bytes v.lines)

-- what writing a sheet value answers and leaves for every buffer, its lines in rising order; last 10: buffer shorter than the result
unfoldable pub write_sheet : SheetValue → List ℕ → Wrote
write_sheet v buffer =
    leaves buffer (decide (sheet_value_checks Rising v ++ ((ltb (length buffer) (length (sheet_bytes v)) ⇒ 10) ∷ [])) (sheet_bytes v))
