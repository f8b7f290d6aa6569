-- Remainders in one array of words, a row of 64 each. A row: its two sets, obligations and countdowns, a part of 9 words each: 0 its count, 1 to 8 its places, a clock, an on-clock and a number to a word; 18 to 33 the leads; 34 to 41 the stopped clocks; the others are free. A power of two, so that a row is found by a shift.
use Rattle.std.specs.Prelude.{Bool, cond, List, [], ◌∷◌, map, ◌≡◌, ℕ, ◌+◌, ◌*◌, ◌-◌, ◌≤◌, ◌<◌, eqb, length, get_or, take}
use Rattle.std.proofs.Math.Option.{Option, none, some}
use Rattle.records.specs.Lists.{listed}
use Rattle.records.specs.Sheet.{SheetValue}
use Rattle.tesl.specs.Fits.{Obligation, Countdown}
use Rattle.tesl.specs.Remainder.{Remainder}
use Rattle.tesl.specs.Lists.{flat_map}
use Rattle.work.specs.View.{used_part}
use Rattle.remainders.specs.declared.rows.Part.{Part}
use Rattle.remainders.specs.declared.rows.Part.TheVariants.{Obligations, Countdowns}
use Rattle.theory.specs.Adding.{added_to, all_added_to}
use Rattle.work.specs.Carried.{either}
use Rattle.remainders.specs.declared.obligation.Obligation as code
use Rattle.remainders.specs.Word.{half_values, byte_in, next_byte_in, upper_in, flag_of, flag_word}
use Rattle.remainders.specs.View.{obligation_of, countdown_of, same_stored, blank_obligation}
use Rattle.remainders.specs.Unused.{BlankFrom}

-- words of a row, rows, words in all
abbrev pub width : ℕ
width = 64

abbrev pub height : ℕ
height = 72

abbrev pub all_words : ℕ
all_words = 4608

-- the sets of a row, and the words of the part that one takes; part 0 is the set of obligations, part 1 that of countdowns
abbrev pub parts : ℕ
parts = 2

abbrev pub part_number : Part → ℕ
part_number Obligations = 0
part_number Countdowns = 1

abbrev pub part_words : ℕ
part_words = 9

-- where a row's leads begin, its stopped clocks, and the free words behind them
abbrev pub leads_part : ℕ
leads_part = 18

abbrev pub stopped_part : ℕ
stopped_part = 34

abbrev pub parts_end : ℕ
parts_end = 42

-- rows of the head; the first side begins after them, and the second here; both first rows together
abbrev pub head_rows : ℕ
head_rows = 6

abbrev pub second_side : ℕ
second_side = 39

abbrev pub sides : ℕ
sides = 45

-- ---- what a row is read as

-- word p of row i
abbrev pub word : List ℕ → ℕ → ℕ → ℕ
word rows i p = get_or rows (width * i + p) 0

-- how many are in the set of a part of row i; place j of it, and all
abbrev pub row_count : List ℕ → ℕ → ℕ → ℕ
row_count rows i part = word rows i (part_words * part)

-- what a word is read as: the clock, the on-clock and the number in its upper half
abbrev pub stored_in : ℕ → code.Obligation
stored_in w = record { clock = byte_in w; on = next_byte_in w; number = upper_in w }

abbrev pub row_obligation : List ℕ → ℕ → ℕ → ℕ → code.Obligation
row_obligation rows i part j = stored_in (word rows i (part_words * part + 1 + j))

abbrev pub row_set : List ℕ → ℕ → ℕ → List code.Obligation
row_set rows i part = listed (row_obligation rows i part) (row_count rows i part)

-- what row i owes, and its countdowns
abbrev pub row_owed : List ℕ → ℕ → List Obligation
row_owed rows i = map obligation_of (row_set rows i 0)

abbrev pub row_countdowns : List ℕ → ℕ → List Countdown
row_countdowns rows i = map countdown_of (row_set rows i 1)

-- the lead of line k, whether clock k is stopped, and all
abbrev pub row_lead : List ℕ → ℕ → ℕ → ℕ
row_lead rows i k = word rows i (leads_part + k)

abbrev pub row_stop : List ℕ → ℕ → ℕ → Bool
row_stop rows i k = flag_of (word rows i (stopped_part + k))

abbrev pub row_leads : List ℕ → ℕ → List ℕ
row_leads rows i = listed (row_lead rows i) 16

abbrev pub row_stopped : List ℕ → ℕ → List Bool
row_stopped rows i = listed (row_stop rows i) 8

-- row i, with the leads of sixteen lines and the stopped ones of eight clocks
abbrev pub row_of : List ℕ → ℕ → Remainder
row_of rows i = record { owed = row_owed rows i; countdowns = row_countdowns rows i; leads = row_leads rows i; stopped = row_stopped rows i }

-- n rows from `first` on, as remainders of a sheet
abbrev pub rows_of : SheetValue → List ℕ → ℕ → ℕ → List Remainder
rows_of v rows first n = listed (λ k. used_part v (row_of rows (first + k))) n

-- each set of row i has at most eight; each set of n rows from `first` on
abbrev pub FewInRow : List ℕ → ℕ → Type 0
FewInRow rows i = (part : ℕ) → part < parts → row_count rows i part ≤ 8

abbrev pub FewOwed : List ℕ → ℕ → ℕ → Type 0
FewOwed rows first n = (k : ℕ) → k < n → FewInRow rows (first + k)

-- row i has as many in each set
abbrev pub CountsSame : ℕ → List ℕ → List ℕ → Type 0
CountsSame i a b = (part : ℕ) → part < parts → row_count b i part ≡ row_count a i part

-- the clocks whose ticks one in the set of a part asks about: its own, and of a countdown the on-clock too
abbrev pub clocks_asked : ℕ → code.Obligation → List ℕ
clocks_asked part o = cond (eqb part 0) (o.clock ∷ []) (o.clock ∷ o.on ∷ [])

-- those of all in a set of row i; of row i; of n rows from `from` on
abbrev pub part_clocks : List ℕ → ℕ → ℕ → List ℕ
part_clocks rows i part = flat_map (clocks_asked part) (row_set rows i part)

abbrev pub row_clocks : List ℕ → ℕ → List ℕ
row_clocks rows i = flat_map (part_clocks rows i) (listed (λ part. part) parts)

abbrev pub rows_clocks : List ℕ → ℕ → ℕ → List ℕ
rows_clocks rows from n = flat_map (λ k. row_clocks rows (from + k)) (listed (λ k. k) n)

-- the words of row i before its leads that no set uses are zero
pub record NothingInParts (rows : List ℕ) (i : ℕ) : Type 0 where
  -- places past a set's count
  pub places : (part j : ℕ) → part < parts → row_count rows i part ≤ j → j < 8 → word rows i (part_words * part + 1 + j) ≡ 0

-- behind the head each stopped clock's word is the one that its flag is stored as
pub record FlagsStored (rows : List ℕ) : Type 0 where
  pub flag : (h k : ℕ) → head_rows ≤ h → h < height → k < 8 → word rows h (stopped_part + k) ≡ flag_word (row_stop rows h k)

-- and in b if in a
abbrev pub FlagsKept : List ℕ → List ℕ → Type 0
FlagsKept a b = FlagsStored a → FlagsStored b

-- x, if there is one
abbrev pub provided : {A : Type 0} → Bool → A → Option A
provided there x = cond there (some x) none

-- ---- what stays: b is a but for the words lo to hi - 1 of row i
pub record Stays (i lo hi : ℕ) (a b : List ℕ) : Type 0 where
  pub size : length b ≡ length a
  pub same : (h p : ℕ) → p < width → (h ≡ i → lo ≤ p → p < hi → ⊥) → word b h p ≡ word a h p

-- the rows of the head stay
abbrev pub HeadStays : List ℕ → List ℕ → Type 0
HeadStays a b = (h p : ℕ) → h < head_rows → p < width → word b h p ≡ word a h p

-- b is a but for n rows from `first` on
pub record RowsStay (first n : ℕ) (a b : List ℕ) : Type 0 where
  pub size : length b ≡ length a
  pub same : (h p : ℕ) → p < width → (first ≤ h → h < first + n → ⊥) → word b h p ≡ word a h p

-- the words from place k to the one before `end` are zero, the others stay
pub record ClearedWords (k end : ℕ) (a b : List ℕ) : Type 0 where
  pub size : length b ≡ length a
  pub zero : (q : ℕ) → k ≤ q → q < end → get_or b q 0 ≡ 0
  pub same : (q : ℕ) → (k ≤ q → q < end → ⊥) → get_or b q 0 ≡ get_or a q 0

-- ---- contracts: of one row, and of a row that gives another; r tells whether there is one

-- a part of row i, of at most eight
pub record Row (rows : List ℕ) (i part : ℕ) : Type 0 where
  pub size : length rows ≡ all_words
  pub row : i < height
  pub few : row_count rows i part ≤ 8

-- row i, and another
pub record Between (rows : List ℕ) (i to : ℕ) : Type 0 where
  pub size : length rows ≡ all_words
  pub row : i < height
  pub into : to < height
  pub apart : i ≡ to → ⊥

-- b is a but for a part of row i
abbrev pub PartStays : ℕ → ℕ → List ℕ → List ℕ → Type 0
PartStays i part a b = Stays i (part_words * part) (part_words * part + part_words) a b

-- no other part of row x has more in it
pub record LargerSet (rows : List ℕ) (x part : ℕ) : Type 0 where
  pub least : row_count rows x (1 - part) ≤ row_count rows x part

-- a part of rows i and x, of at most eight each
pub record Comparing (rows : List ℕ) (i x part : ℕ) : Type 0 where
  pub one : i < height
  pub other : x < height
  pub few-one : row_count rows i part ≤ 8
  pub few-other : row_count rows x part ≤ 8

-- an obligation in place j of a part; the others and the count stay
pub record PutObligation (i part j : ℕ) (o : code.Obligation) (a b : List ℕ) : Type 0 where
  pub stays : Stays i (part_words * part + 1) (part_words * part + part_words) a b
  pub here : row_obligation b i part j ≡ o
  pub others : (k : ℕ) → k < 8 → (k ≡ j → ⊥) → row_obligation b i part k ≡ row_obligation a i part k

-- the first n of a part, and nothing past them
pub record ObligationsAt (i part n : ℕ) (os : List code.Obligation) (rows : List ℕ) : Type 0 where
  pub first : take n os ≡ listed (row_obligation rows i part) n
  pub rest : BlankFrom n blank_obligation os

-- a part with one more, unless a ninth has no room
pub record AddedRow (i part : ℕ) (o : code.Obligation) (r : Bool) (a b : List ℕ) : Type 0 where
  pub stays : PartStays i part a b
  pub set : provided r (row_set b i part) ≡ added_to same_stored 8 (row_set a i part) o
  pub few : row_count b i part ≤ 8

-- a part with those that were begun
pub record BegunRow (i part : ℕ) (os : List code.Obligation) (r : Bool) (a b : List ℕ) : Type 0 where
  pub stays : PartStays i part a b
  pub set : provided r (row_set b i part) ≡ all_added_to same_stored 8 os (row_set a i part)
  pub few : row_count b i part ≤ 8

-- leads with what precedes lines gain and without what they lose, where they are small
pub record LeadsOn (leaders : ℕ) (gains losses : List ℕ) (i to : ℕ) (a b : List ℕ) : Type 0 where
  pub stays : Stays to leads_part stopped_part a b
  pub leads : (k : ℕ) → k < leaders → row_lead a i k < half_values → row_lead b to k ≡ row_lead a i k + get_or gains k 0 - get_or losses k 0

-- the stopped clocks of row i, with more
pub record StoppedOn (stops : List Bool) (i to : ℕ) (a b : List ℕ) : Type 0 where
  pub stays : Stays to stopped_part parts_end a b
  pub stopped : row_stopped b to ≡ either (row_stopped a i) stops
  pub flags : (k : ℕ) → k < 8 → word b to (stopped_part + k) ≡ flag_word (row_stop b to k)
