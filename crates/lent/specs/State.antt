-- A whole monitor in one lent array of words: what the words of its head, rows 0 to 2, are read as. Every array reads as a monitor; `is_state` tells which arrays are states.
-- Row 0: 0 the format; 1 the clocks and 2 the lines of the sheet; 3 the instants; 4 the first row of the side in use; 5 the case of the answer; 6 live; 8 to 15 the last tags.
-- Row 1: 0 to 15 the kinds of sixteen lines, 16 to 31 their A, 32 to 47 their B, 48 to 63 their D. Row 2: 0 to 15 their first number, 16 to 31 their second. All other words of the head are free.
use Rattle.std.specs.Prelude.{Bool, true, cond, not, ◌&&◌, ◌||◌, List, ◌≡◌, ℕ, ◌+◌, ◌≤◌, ◌<◌, T, eqb, leb, ltb, ℤ, pos, length, get_or, None, Option, Some}
use Rattle.records.specs.declared.line.Line.{Line}
use Rattle.records.specs.declared.sheet.Sheet.{Sheet}
use Rattle.records.specs.Lists.{listed}
use Rattle.records.specs.Line.{blank_line}
use Rattle.records.specs.Sheet.{line_at, sheet_value}
use Rattle.records.specs.Word.{tag_of, raw_of}
use Rattle.tesl.specs.Lists.{below}
use Rattle.judge.specs.declared.progress.Progress.{Progress}
use Rattle.lines.specs.declared.line_words.LineWords.{LineWords}
use Rattle.judge.specs.declared.monitor.Monitor.{Monitor}
use Rattle.lines.specs.LineWords.{line_of_words, words_of}
use Rattle.remainders.specs.Word.{byte_values, number_in}
use Rattle.remainders.specs.View.{live_count}
use Rattle.remainders.specs.Rows.{head_rows, second_side, width, all_words, word, Stays}
use Rattle.judge.specs.Progress.{rows_monitor}

-- what word 0 of row 0 is in a state: the format and its version, 0x4C460003
abbrev pub format : ℕ
format = 1279655939

-- ---- the sheet

-- the six words of line k, and the line
abbrev pub state_words : List ℕ → ℕ → LineWords
state_words w k =
    record {
      kind = word w 1 k;
      a = word w 1 (16 + k);
      b = word w 1 (32 + k);
      d = word w 1 (48 + k);
      x = word w 2 k;
      y = word w 2 (16 + k);
    }

abbrev pub state_line : List ℕ → ℕ → Line
state_line w k = line_of_words (state_words w k)

-- clocks that no byte holds read as 255, which is outside the limits too
abbrev pub clocks_by : ℕ → ℕ
clocks_by w = cond (ltb w byte_values) w 255

-- place k of sixteen: a line below the count n, the blank line past it
abbrev pub state_slot : ℕ → List ℕ → ℕ → Line
state_slot n w k = cond (ltb k n) (state_line w k) blank_line

abbrev pub state_sheet : List ℕ → Sheet
state_sheet w = record { clocks = clocks_by (word w 0 1); count = word w 0 2; lines = listed (state_slot (word w 0 2) w) 16 }

-- ---- the monitor

-- case 1: exhausted, when none is held; any other: how many are held
abbrev pub count_by : ℕ → ℕ → Option ℕ
count_by case live = cond (eqb case 1) None (Some live)

abbrev pub state_count : List ℕ → Option ℕ
state_count w = count_by (word w 0 5) (word w 0 6)

-- the last tag of clock k: 16 bits of its word
abbrev pub state_tag : List ℕ → ℕ → ℤ
state_tag w k = tag_of (number_in (word w 0 (8 + k)))

-- beside the sheet and the rows
abbrev pub state_progress : List ℕ → Progress
state_progress w = record { instants = word w 0 3; tags = listed (state_tag w) 8; count = state_count w; from = word w 0 4 }

-- the whole, its remainders from the rows of the side in use
abbrev pub state_monitor : List ℕ → Monitor
state_monitor w = rows_monitor (state_sheet w) (state_progress w) w

-- ---- which arrays are states

abbrev pub has_format : List ℕ → Bool
has_format w = eqb (word w 0 0) format

-- the kinds of lines
abbrev pub is_kind : ℕ → Bool
is_kind w = leb 16 w && leb w 24

-- each of the first n lines, of sixteen, has a kind; and each below the count
abbrev pub kinds_below : ℕ → List ℕ → Bool
kinds_below n w = below 16 (λ k. not (ltb k n) || is_kind (word w 1 k))

abbrev pub has_kinds : List ℕ → Bool
has_kinds w = kinds_below (word w 0 2) w

-- the first row of a side
abbrev pub is_side : ℕ → Bool
is_side from = eqb from head_rows || eqb from second_side

-- exhausted, or any other answer
abbrev pub is_case : ℕ → Bool
is_case w = eqb w 1 || eqb w 2

unfoldable pub is_state : List ℕ → Bool
is_state w = (has_format w && has_kinds w) && (is_side (word w 0 4) && is_case (word w 0 5))

-- ---- contracts: the format stored
pub record PutFormat (a b : List ℕ) : Type 0 where
  pub stays : Stays 0 0 1 a b
  pub format : has_format b ≡ true

-- ---- contracts: the monitor stored

-- live within its limit
abbrev pub FewIn : Option ℕ → Type 0
FewIn None = Unit
FewIn (Some n) = n ≤ 32

-- how many are held, in the words 5 and 6
pub record PutCount (c : Option ℕ) (a b : List ℕ) : Type 0 where
  pub stays : Stays 0 5 7 a b
  pub count : state_count b ≡ c
  -- 0 once exhausted
  pub live : word b 0 6 ≡ live_count c
  pub answer : is_case (word b 0 5) ≡ true

-- the last tags, in the words 8 to 15
pub record PutLastTags (ts : List ℤ) (a b : List ℕ) : Type 0 where
  pub stays : Stays 0 8 16 a b
  pub tags : listed (state_tag b) 8 ≡ ts
  pub raw : (j : ℕ) → j < 8 → word b 0 (8 + j) ≡ raw_of (get_or ts j (pos 0))

-- what a monitor in rows within its limits has beside its sheet
pub record PuttingProgress (rows : List ℕ) (k : Progress) : Type 0 where
  pub size : length rows ≡ all_words
  pub instants : k.instants ≤ 4000
  pub few : FewIn k.count
  pub side : T (is_side k.from)

-- it is stored, in words 3 to 15 of row 0; the array is a state if format and kinds were right
pub record PutProgress (k : Progress) (a b : List ℕ) : Type 0 where
  pub stays : Stays 0 3 16 a b
  pub progress : state_progress b ≡ k
  -- and nothing else: live is 0 once exhausted, and a tag takes 16 bits of its word
  pub live : word b 0 6 ≡ live_count k.count
  pub raw : (j : ℕ) → j < 8 → word b 0 (8 + j) ≡ raw_of (get_or k.tags j (pos 0))
  -- the free word before them stays
  pub gap : word b 0 7 ≡ word a 0 7
  pub state : is_state b ≡ (has_format a && has_kinds a)

-- ---- contracts: the sheet stored

-- the rows but 1 and 2 stay, and the words of row 2 that no line uses
abbrev pub OthersStay : List ℕ → List ℕ → Type 0
OthersStay a b = (h p : ℕ) → p < width → (h ≡ 1 → ⊥) → (h ≡ 2 → p < 32 → ⊥) → word b h p ≡ word a h p

-- six words in the places of line k; the other places stay
pub record PutWords (k : ℕ) (r : LineWords) (a b : List ℕ) : Type 0 where
  pub size : length b ≡ length a
  pub here : state_words b k ≡ r
  pub others : (j : ℕ) → j < 16 → (j ≡ k → ⊥) → state_words b j ≡ state_words a j
  pub rows : OthersStay a b

-- six words of a place without a line
abbrev pub no_words : LineWords
no_words = record { kind = 0; a = 0; b = 0; d = 0; x = 0; y = 0 }

-- the words of place k of a sheet: those of its line below the count, zeros past it
abbrev pub slot_words : Sheet → ℕ → LineWords
slot_words s k = cond (ltb k s.count) (words_of (line_at s k)) no_words

-- the words of a sheet's place, and what those of a line are read as
pub record SlotWords (s : Sheet) (k : ℕ) (r : LineWords) : Type 0 where
  pub words : r ≡ slot_words s k
  pub line : k < s.count → line_of_words r ≡ line_at s k
  pub kind : k < s.count → is_kind r.kind ≡ true

-- all sixteen places
pub record PutLines (s : Sheet) (a b : List ℕ) : Type 0 where
  pub size : length b ≡ length a
  pub places : (k : ℕ) → k < 16 → SlotWords s k (state_words b k)
  pub rows : OthersStay a b

-- a sheet of sixteen lines at most is stored, in rows 1 and 2 and in words 1 and 2 of row 0; the words of unused places are 0
pub record PutSheet (s : Sheet) (a b : List ℕ) : Type 0 where
  pub size : length b ≡ length a
  pub top : (p : ℕ) → p < width → (p ≡ 1 → ⊥) → (p ≡ 2 → ⊥) → word b 0 p ≡ word a 0 p
  pub rows : (h p : ℕ) → 2 < h → p < width → word b h p ≡ word a h p
  pub free : (p : ℕ) → 32 ≤ p → p < width → word b 2 p ≡ word a 2 p
  pub value : sheet_value (state_sheet b) ≡ sheet_value s
  pub count : (state_sheet b).count ≡ s.count
  pub kinds : has_kinds b ≡ true
  pub clocks : word b 0 1 ≡ (state_sheet b).clocks
  pub words : (k : ℕ) → k < 16 → state_words b k ≡ slot_words (state_sheet b) k
