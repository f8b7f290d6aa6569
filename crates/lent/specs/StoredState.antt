-- Each word of a state is the one that storing the monitor it reads as writes: so beside its remainders a state keeps of the instants only their number, the last tags and the last answer, and no bit of it is spare: `NoneSpare`.
use Rattle.std.specs.Prelude.{List, [], ◌∷◌, ◌++◌, map, ◌≡◌, ℕ, ◌+◌, ◌*◌, ◌≤◌, ◌<◌, length, get_or, take, None, Option, Some}
use Rattle.records.specs.declared.sheet.Sheet.{Sheet}
use Rattle.records.specs.Lists.{listed}
use Rattle.records.specs.Sheet.{sheet_value}
use Rattle.records.specs.Word.{raw_of}
use Rattle.tesl.specs.Fits.{Obligation, Countdown}
use Rattle.tesl.specs.Remainder.{Remainder}
use Rattle.work.specs.View.{used_part}
use Rattle.lines.specs.declared.line_words.LineWords.{LineWords}
use Rattle.judge.specs.declared.progress.Progress.{Progress}
use Rattle.judge.specs.Monitor.{held_by}
use Rattle.remainders.specs.Word.{byte_values, half_values, due_number, flag_word}
use Rattle.remainders.specs.View.{live_count}
use Rattle.remainders.specs.Rows.{width, height, all_words, word, row_of}
use Rattle.lent.specs.State.{format, state_sheet, state_progress, state_monitor, slot_words}

-- ---- the words of a state's rows; behind them a row has zeros

-- row 0: the format, the clocks and the lines of the sheet, the instants, the side, the case of the answer, live, a free word, and the last tags of the sheet's clocks
abbrev pub case_word : Option ℕ → ℕ
case_word None = 1
case_word (Some n) = 2

abbrev pub top_words : Sheet → Progress → List ℕ
top_words s k = format ∷ s.clocks ∷ s.count ∷ k.instants ∷ k.from ∷ case_word k.count ∷ live_count k.count ∷ 0 ∷ map raw_of (take s.clocks k.tags)

-- one of the six words of each of sixteen places; row 1: the kinds, A, B and D; row 2: the first and the second numbers
abbrev pub column_of : (LineWords → ℕ) → Sheet → List ℕ
column_of part s = listed (λ k. part (slot_words s k)) 16

abbrev pub kinds_row : Sheet → List ℕ
kinds_row s = column_of (λ w. w.kind) s ++ (column_of (λ w. w.a) s ++ (column_of (λ w. w.b) s ++ column_of (λ w. w.d) s))

abbrev pub numbers_row : Sheet → List ℕ
numbers_row s = column_of (λ w. w.x) s ++ column_of (λ w. w.y) s

-- a place of a set: a clock, an on-clock, a byte each, and a number
abbrev pub place_word : ℕ → ℕ → ℕ → ℕ
place_word clock on number = clock + byte_values * on + half_values * number

abbrev pub obligation_word : Obligation → ℕ
obligation_word o = place_word o.clock o.on (due_number o.due)

abbrev pub countdown_word : Countdown → ℕ
countdown_word c = place_word c.clock c.on c.wanted

-- n places, ws in the first of them, zeros past it
abbrev pub placed : ℕ → List ℕ → List ℕ
placed n ws = listed (λ k. get_or ws k 0) n

-- a set: how many, and eight places
abbrev pub set_words : List ℕ → List ℕ
set_words ws = length ws ∷ placed 8 ws

-- the row of a remainder: its two sets, the leads of sixteen lines, and the stopped ones of the sheet's clocks
abbrev pub remainder_words : Remainder → List ℕ
remainder_words r = set_words (map obligation_word r.owed) ++ (set_words (map countdown_word r.countdowns) ++ (placed 16 r.leads ++ map flag_word r.stopped))

-- ---- the words of a state

-- row h has the words ws, and zeros behind them
abbrev pub RowIs : List ℕ → ℕ → List ℕ → Type 0
RowIs w h ws = (q : ℕ) → q < width → word w h q ≡ get_or ws q 0

-- each word is as the sheet, the monitor beside it and the remainders held are stored
pub record AsStored (w : List ℕ) : Type 0 where
  pub top : RowIs w 0 (top_words (state_sheet w) (state_progress w))
  pub kinds : RowIs w 1 (kinds_row (state_sheet w))
  pub numbers : RowIs w 2 (numbers_row (state_sheet w))
  -- a row to each remainder held
  pub held : (k : ℕ) → k < live_count (state_progress w).count → RowIs w ((state_progress w).from + k) (remainder_words (used_part (sheet_value (state_sheet w)) (row_of w ((state_progress w).from + k))))
  -- no word in any other row; once exhausted or broken, in none
  pub others : (h : ℕ) → 2 < h → h < height → ((state_progress w).from ≤ h → h < (state_progress w).from + live_count (state_progress w).count → ⊥) → RowIs w h []

-- so no bit is spare: such words that read as the same sheet, the same monitor beside it and the same remainders are the same words
abbrev pub NoneSpare : Type 0
NoneSpare = (a b : List ℕ) → length a ≡ all_words → length b ≡ all_words → AsStored a → AsStored b
    → state_sheet a ≡ state_sheet b → state_progress a ≡ state_progress b → held_by (state_monitor a) ≡ held_by (state_monitor b) → a ≡ b
