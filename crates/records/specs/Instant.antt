-- An instant record: for each clock a tick byte and a tag (kind 32), which a number may precede (kind 33, document 02). What reading and writing one answer.
use Rattle.std.specs.Prelude.{ℕ, ◌+◌, ◌*◌, ◌≡◌, Bool, true, false, not, cond, ◌||◌, List, [], ◌∷◌, ◌++◌, map, length, drop, get_or, ltb, eqb, ℤ, pos}
use Rattle.records.specs.declared.form.Form.{Form}
use Rattle.records.specs.declared.form.Form.TheVariants.{Plain, Numbered}
use Rattle.records.specs.declared.instant.Tick.{Tick}
use Rattle.records.specs.declared.instant.Tick.TheVariants.{Idle, Ticks, Unseen}
use Rattle.records.specs.declared.instant.Instant.{Instant}
use Rattle.records.specs.Outcome.{Outcome, kept_as, Check, ◌⇒◌, decide}
use Rattle.records.specs.Lists.{listed, filled, joined}
use Rattle.records.specs.Word.{word_of, word_at, word_bytes, tag_of, raw_of}
use Rattle.records.specs.Record.{Piece, whole, torn, pieces, record_bytes}
use Rattle.records.specs.Sheet.{clock_count}
use Rattle.records.specs.Store.{Wrote, leaves}

-- a clock at an instant
pub record Cell : Type 0 where
  pub tick : Tick
  pub tag : ℤ

-- an instant record's value: its form, plain or numbered with its number, and a cell for each clock from 0
pub record InstantValue : Type 0 where
  pub form : Form
  pub cells : List Cell

-- a tick byte: 0 idle, 1 tick, 2 unseen
unfoldable pub tick_of : ℕ → Tick
tick_of n = cond (eqb n 0) Idle (cond (eqb n 1) Ticks Unseen)

abbrev pub tick_byte : Tick → ℕ
tick_byte Idle = 0
tick_byte Ticks = 1
tick_byte Unseen = 2

-- ---- reading

-- the tick byte and the tag's word of a clock
pub record RawCell : Type 0 where
  pub tick : ℕ
  pub word : ℕ

-- a body is cut in threes
unfoldable pub raw_cells : List ℕ → List RawCell
raw_cells [] = []
raw_cells (t ∷ []) = []
raw_cells (t ∷ low ∷ []) = []
raw_cells (t ∷ low ∷ high ∷ b) = record { tick = t; word = word_of low high } ∷ raw_cells b

-- some tick byte is above 2
abbrev pub tick_above : List RawCell → Bool
tick_above [] = false
tick_above (c ∷ cs) = ltb 2 c.tick || tick_above cs

abbrev pub cell_of : RawCell → Cell
cell_of c = record { tick = tick_of c.tick; tag = tag_of c.word }

-- the kinds of an instant: 32, plain, and 33, numbered
abbrev pub is_instant_kind : ℕ → Bool
is_instant_kind kind = eqb kind 32 || eqb kind 33

-- how many bytes of a body precede the clocks: none, or the two of the number
abbrev pub number_length : ℕ → ℕ
number_length kind = cond (eqb kind 33) 2 0

abbrev pub form_of : ℕ → List ℕ → Form
form_of kind body = cond (eqb kind 33) (Numbered (word_at body 0)) Plain

-- the clocks of a body
abbrev pub clocks_part : ℕ → List ℕ → List ℕ
clocks_part kind body = drop (number_length kind) body

-- a record for c clocks; 12: torn; 13: kind neither 32 nor 33; 14: length not 3 × C, of kind 33 not 3 × C + 2; 15: tick byte above 2
abbrev pub instant_checks : ℕ → Piece → List Check
instant_checks c torn = (true ⇒ 12) ∷ []
instant_checks c (whole kind body) =
    (not (is_instant_kind kind) ⇒ 13)
    ∷ (not (eqb (length body) (3 * c + number_length kind)) ⇒ 14)
    ∷ (tick_above (raw_cells (clocks_part kind body)) ⇒ 15)
    ∷ []

-- 12: not exactly one record; then those of the record
abbrev pub one_instant_checks : ℕ → List Piece → List Check
one_instant_checks c [] = (true ⇒ 12) ∷ []
one_instant_checks c (first ∷ []) = instant_checks c first
one_instant_checks c (first ∷ second ∷ more) = (true ⇒ 12) ∷ []

-- no clocks, plain
abbrev pub blank_instant : InstantValue
blank_instant = record { form = Plain; cells = [] }

-- what a record holds
abbrev pub value_in : Piece → InstantValue
value_in torn = blank_instant
value_in (whole kind body) = record { form = form_of kind body; cells = map cell_of (raw_cells (clocks_part kind body)) }

abbrev pub instant_in : List Piece → InstantValue
instant_in [] = blank_instant
instant_in (first ∷ more) = value_in first

-- what reading an instant of c clocks answers for every byte string, every number among them; 4: C not 1 to 8
unfoldable pub read_instant : ℕ → List ℕ → Outcome InstantValue
read_instant c b = decide ((not (clock_count c) ⇒ 4) ∷ one_instant_checks c (pieces b)) (instant_in (pieces b))

-- ---- the struct

abbrev pub tick_at : List Tick → ℕ → Tick
tick_at ticks i = get_or ticks i Idle

abbrev pub cell_tag : List ℤ → ℕ → ℤ
cell_tag tags i = get_or tags i (pos 0)

abbrev pub cell_at : Instant → ℕ → Cell
cell_at v i = record { tick = tick_at v.ticks i; tag = cell_tag v.tags i }

-- the value of a struct for c clocks: its form, and its first c ticks and tags; clocks from c on are no part of it
abbrev pub instant_value : ℕ → Instant → InstantValue
instant_value c v = record { form = v.form; cells = listed (cell_at v) c }

-- two instants of c clocks are the same up to unused places
abbrev pub SameInstant : ℕ → Instant → Instant → Type 0
SameInstant c v w = instant_value c v ≡ instant_value c w

-- the struct of a value, clocks from C on being idle with tag 0
abbrev pub instant_of : InstantValue → Instant
instant_of v = record {
  form = v.form;
  ticks = filled 8 Idle (map (λ (c : Cell). c.tick) v.cells);
  tags = filled 8 (pos 0) (map (λ (c : Cell). c.tag) v.cells);
}

-- what was read, as the struct
abbrev pub instant_read : Outcome InstantValue → Outcome Instant
instant_read o = kept_as instant_of o

-- ---- writing

abbrev pub cell_bytes : Cell → List ℕ
cell_bytes c = tick_byte c.tick ∷ word_bytes (raw_of c.tag)

-- a form's kind, and what precedes the clocks
abbrev pub form_kind : Form → ℕ
form_kind Plain = 32
form_kind (Numbered n) = 33

abbrev pub number_bytes : Form → List ℕ
number_bytes Plain = []
number_bytes (Numbered n) = word_bytes n

abbrev pub cells_bytes : List Cell → List ℕ
cells_bytes cells = joined (map cell_bytes cells)

unfoldable pub instant_bytes : InstantValue → List ℕ
instant_bytes v = record_bytes (form_kind v.form) (number_bytes v.form ++ cells_bytes v.cells)

-- what writing an instant value of c clocks answers and leaves for every buffer; 4; 10
unfoldable pub write_instant : ℕ → InstantValue → List ℕ → Wrote
write_instant c v buffer =
    leaves buffer
    (decide ((not (clock_count c) ⇒ 4) ∷ (ltb (length buffer) (length (instant_bytes v)) ⇒ 10) ∷ []) (instant_bytes v))
