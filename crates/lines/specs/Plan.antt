-- A sheet's lines in an array of words, a row to each, and what is found out about a sheet once.
use Rattle.std.specs.Prelude.{Bool, false, cond, List, [], ◌∷◌, ◌++◌, ◌≡◌, ℕ, ◌+◌, ◌*◌, ◌≤◌, ◌<◌, length, get_or, replicate}
use Rattle.records.specs.declared.line.Line.{Line}
use Rattle.records.specs.declared.sheet.Sheet.{Sheet}
use Rattle.records.specs.Lists.{listed}
use Rattle.records.specs.Line.{blank_line}
use Rattle.records.specs.Sheet.{SheetValue, sheet_value}
use Rattle.tesl.specs.Lists.{filter, flat_map}
use Rattle.work.specs.Parts.{is_relation, is_rule, is_delay, is_counted, Leading}
use Rattle.work.specs.Relevant.{named_by, flagged}
use Rattle.lines.specs.declared.plan.Plan.{Plan}
use Rattle.lines.specs.declared.rules.Rule.{Rule}
use Rattle.lines.specs.LineWords.{line_by, words_at, line_of_words}

-- ---- lines in words

-- words of a row, rows, words in all
abbrev pub line_width : ℕ
line_width = 6

abbrev pub plan_rows : ℕ
plan_rows = 80

abbrev pub numbers : ℕ
numbers = line_width * plan_rows

-- the rows where relations, rules, delay lines and counted lines begin
abbrev pub relations_from : ℕ
relations_from = 16

abbrev pub rules_from : ℕ
rules_from = 32

abbrev pub delays_from : ℕ
delays_from = 48

abbrev pub counted_rows : ℕ
counted_rows = 64

-- the line of row j
abbrev pub plan_line : List ℕ → ℕ → Line
plan_line lines j = line_of_words (words_at lines (line_width * j))

-- kind and clocks of the line of row j, whatever its other words are
pub record RuleWords (lines : List ℕ) (j : ℕ) (r : Rule) : Type 0 where
  pub d : ℕ
  pub x : ℕ
  pub y : ℕ
  pub line : plan_line lines j ≡ line_by r.kind r.a r.b d x y

-- the lines of n rows from row `from` on
abbrev pub plan_lines : List ℕ → ℕ → ℕ → List Line
plan_lines lines from n = listed (λ j. plan_line lines (from + j)) n

-- ---- the plan

-- what was found out about a sheet: all lines from row 0 on, and its four parts from their rows on; the precedes lines; the clocks that lines name
pub record Planned (v : SheetValue) (p : Plan) (lines : List ℕ) : Type 0 where
  pub as_many : p.clocks ≡ v.clocks
  pub few-clocks : v.clocks ≤ 8
  pub all : (k : ℕ) → k < p.leaders → plan_line lines k ≡ get_or v.lines k blank_line
  pub relations : plan_lines lines relations_from p.relations ≡ filter is_relation v.lines
  pub rules : plan_lines lines rules_from p.rules ≡ filter is_rule v.lines
  pub delays : plan_lines lines delays_from p.delays ≡ filter is_delay v.lines
  pub counted : plan_lines lines counted_rows p.counted ≡ filter is_counted v.lines
  pub leading : Leading v p.leaders p.precede
  pub named : p.named ≡ flagged (flat_map named_by v.lines) (replicate 8 false)

-- ---- found out about a sheet

-- a row of the plan
pub record LineRow (lines : List ℕ) (j : ℕ) : Type 0 where
  pub size : length lines ≡ numbers
  pub row : j < plan_rows

-- b is a but for row j
pub record LinesStay (j : ℕ) (a b : List ℕ) : Type 0 where
  pub size : length b ≡ numbers
  pub same : (h : ℕ) → (h ≡ j → ⊥) → plan_line b h ≡ plan_line a h

-- a line in row j
pub record PutPlanLine (j : ℕ) (l : Line) (a b : List ℕ) : Type 0 where
  pub stays : LinesStay j a b
  pub there : plan_line b j ≡ l

-- a part's r lines from row `from` on: the `count` before, and l if it belongs there
pub record PutPart (from count : ℕ) (belongs : Bool) (l : Line) (r : ℕ) (a b : List ℕ) : Type 0 where
  pub stays : LinesStay (from + count) a b
  pub few : r ≤ count + 1
  pub rows : plan_lines b from r ≡ plan_lines a from count ++ cond belongs (l ∷ []) []

-- a sheet within its limits, and room for its lines
pub record Preparing (s : Sheet) (lines : List ℕ) : Type 0 where
  pub few-lines : s.count ≤ 16
  pub few-clocks : s.clocks ≤ 8
  pub size : length lines ≡ numbers

-- a plan of the sheet
pub record PlanOf (s : Sheet) (p : Plan) (lines : List ℕ) : Type 0 where
  pub size : length lines ≡ numbers
  pub planned : Planned (sheet_value s) p lines
