-- What contracts cite beside the definitions above: the same outcomes in the functions' own types.
use Rattle.std.specs.Prelude.{ℕ, ◌+◌, ◌≤◌, ◌<◌, ◌≡◌, Bool, true, false, cond, List, [], ◌∷◌, ◌++◌, map, set, ltb, ℤ, Result, Ok}
use Rattle.records.specs.declared.form.Form.{Form}
use Rattle.records.specs.declared.instant.Tick.{Tick}
use Rattle.records.specs.declared.instant.Instant.{Instant}
use Rattle.records.specs.declared.order.Order.{Order}
use Rattle.records.specs.declared.sheet.Sheet.{Sheet}
use Rattle.records.specs.declared.line.Line.{Line}
use Rattle.records.specs.declared.refusal.Refusal.{Refusal}
use Rattle.records.specs.Outcome.{Outcome, outcome_of, kept_as, ◌⇒◌, decide}
use Rattle.records.specs.Record.{Piece, whole}
use Rattle.records.specs.Lists.{listed}
use Rattle.records.specs.Line.{is_sporadic, value_line_checks, kind_of, body_of}
use Rattle.records.specs.Order.{above, key_of, above_last}
use Rattle.records.specs.Sheet.{SheetValue, line_in, line_at, sheet_value, sheet_of, order_checks, lines_checks, value_lines_checks, sheet_value_checks}
use Rattle.records.specs.Instant.{InstantValue, tick_of, raw_cells, tick_above, cell_of, instant_checks, value_in}
use Rattle.records.specs.Sort.{Sorted}
use Rattle.records.specs.Types.{All, IsLineValue, IsSheet}

-- how many sporadic lines a line of a kind is
abbrev pub sporadic_of : ℕ → ℕ
sporadic_of kind = cond (is_sporadic kind) 1 0

-- whether, and not what
abbrev pub answered : {A : Type 0} → Outcome A → Outcome (Unit {0})
answered o = kept_as (λ v. tt) o

-- the tick of a byte, or 15
abbrev pub TickRead : ℕ → Result Tick Refusal → Type 0
TickRead byte r = outcome_of r ≡ decide ((ltb 2 byte ⇒ 15) ∷ []) (tick_of byte)

-- the sheet of c clocks whose lines are these records, or the first refusal among them
unfoldable pub sheet_from : Order → ℕ → ℕ → List Piece → Outcome SheetValue
sheet_from order last c lines = decide (lines_checks order last c [] lines) (record { clocks = c; lines = map line_in lines })

-- the first refusal among a value's lines
unfoldable pub lines_fault : Order → SheetValue → Outcome SheetValue
lines_fault order v = decide (value_lines_checks order v.clocks [] v.lines) v

-- what checking a sheet answers, its lines standing in an order
pub record Checked (order : Order) (s : Sheet) (r : Result (Unit {0}) Refusal) : Type 0 where
  -- the first refusal that applies, or none
  pub answer : outcome_of r ≡ answered (decide (sheet_value_checks order (sheet_value s)) (sheet_value s))
  -- the types of the code bound the value's numbers
  pub value : r ≡ Ok tt → IsSheet (sheet_value s)

-- the same of a line behind the first i lines of its sheet, `spent` sporadic ones among them
pub record LineChecked (order : Order) (s : Sheet) (i spent : ℕ) (l : Line) (r : Result (Unit {0}) Refusal) : Type 0 where
  pub answer : outcome_of r ≡ answered (decide (value_line_checks s.clocks spent (kind_of l) (body_of l) ++ order_checks order (map key_of (listed (line_at s) i)) (key_of l)) l)
  pub value : IsLineValue l

-- the same of its lines alone
pub record LinesChecked (order : Order) (s : Sheet) (r : Result (Unit {0}) Refusal) : Type 0 where
  pub answer : outcome_of r ≡ answered (lines_fault order (sheet_value s))
  pub values : r ≡ Ok tt → All IsLineValue (sheet_value s).lines

-- the instant of a form with the clocks of these bytes, or 15
unfoldable pub cells_read : Form → List ℕ → Outcome InstantValue
cells_read form clocks = decide ((tick_above (raw_cells clocks) ⇒ 15) ∷ []) (record { form = form; cells = map cell_of (raw_cells clocks) })

-- the instant of a record of a kind, or 13, 14 or 15
unfoldable pub body_read : ℕ → ℕ → List ℕ → Outcome InstantValue
body_read c kind body = decide (instant_checks c (whole kind body)) (value_in (whole kind body))

-- a struct with one place more
abbrev pub with_line : Sheet → Line → Sheet
with_line s l = record { clocks = s.clocks; count = s.count + 1; lines = set s.lines s.count l }

abbrev pub with_cell : Instant → ℕ → Tick → ℤ → Instant
with_cell v i t tag = record { form = v.form; ticks = set v.ticks i t; tags = set v.tags i tag }

-- what sorting asks of a sheet: at most 16 lines, their numbers within their types
pub record Sortable (s : Sheet) : Type 0 where
  pub few : s.count ≤ 16
  pub values : All IsLineValue (sheet_value s).lines

-- a line that is above those of `sorted`
abbrev pub is_higher : Sheet → Line → Bool
is_higher sorted l = above_last (map key_of (sheet_value sorted).lines) (key_of l)

-- of the lines at the places below n, the place of the least that is above those of `sorted`; the line count where none is
pub record NextAbove (s sorted : Sheet) (n r : ℕ) : Type 0 where
  pub most : r ≤ s.count
  pub higher : r < s.count → is_higher sorted (line_at s r) ≡ true
  pub least : r < s.count → (i : ℕ) → i < n → is_higher sorted (line_at s i) ≡ true → above (key_of (line_at s r)) (key_of (line_at s i)) ≡ false
  pub none : r ≡ s.count → (i : ℕ) → i < n → is_higher sorted (line_at s i) ≡ false

-- a sheet that is the sorted form of another
pub record SortedSheet (s r : Sheet) : Type 0 where
  pub value : SheetValue
  pub sorted : Sorted (sheet_value s) value
  pub same : r ≡ sheet_of value
