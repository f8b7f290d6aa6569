-- The order of lines on bytes (document 02, Q-1), lines that count (Q-2), and numbered instants (Q-5): a row each, by computation. Assumes nothing.
use Rattle.std.specs.Prelude.{List, [], ◌∷◌, ◌++◌, ◌≡◌, refl, ℕ, pos, negsuc}
use Rattle.records.specs.declared.form.Form.{Form}
use Rattle.records.specs.declared.form.Form.TheVariants.{Plain, Numbered}
use Rattle.records.specs.declared.instant.Tick.TheVariants.{Ticks}
use Rattle.records.specs.declared.line.Line.{Line}
use Rattle.records.specs.declared.line.Line.TheVariants.{Sporadic, Implies, Counted}
use Rattle.records.specs.declared.order.Order.TheVariants.{Any}
use Rattle.records.specs.Outcome.{Outcome, taken, refused}
use Rattle.records.specs.Word.{signed, unsigned}
use Rattle.records.specs.Record.{is_torn, front, cut}
use Rattle.records.specs.Line.{length_of, clocks_of, line_of}
use Rattle.records.specs.Order.{above}
use Rattle.records.specs.Sheet.{SheetValue, read_by, read_sheet, read_unordered, read_base}
use Rattle.records.specs.Instant.{InstantValue, tick_of, raw_cells, read_instant, instant_bytes}
use Rattle.records.specs.Next.{if_next}

-- one clock; its sporadic lines at 1 and at 256; 0 implies 0; 0 implies 1, which is no clock
abbrev clock : List ℕ
clock = 0x01 ∷ 0x00 ∷ 0x01 ∷ 0x00 ∷ 0x01 ∷ []

abbrev at1 : List ℕ
at1 = 0x04 ∷ 0x00 ∷ 0x10 ∷ 0x00 ∷ 0x00 ∷ 0x00 ∷ 0x01 ∷ 0x00 ∷ []

abbrev at256 : List ℕ
at256 = 0x04 ∷ 0x00 ∷ 0x10 ∷ 0x00 ∷ 0x00 ∷ 0x00 ∷ 0x00 ∷ 0x01 ∷ []

abbrev implies : List ℕ
implies = 0x02 ∷ 0x00 ∷ 0x12 ∷ 0x00 ∷ 0x00 ∷ 0x00 ∷ []

abbrev no_clock : List ℕ
no_clock = 0x02 ∷ 0x00 ∷ 0x12 ∷ 0x00 ∷ 0x00 ∷ 0x01 ∷ []

abbrev sheet : List Line → SheetValue
sheet lines = record { clocks = 1; lines = lines }

pub record OrderExamples : Type 0 where
  -- bytes are compared, not fields: 256, 00 01, stands before 1, 01 00
  bytes :
      (read_sheet (clock ++ at256 ++ at1) ≡ taken (sheet (Sporadic 0 0 (pos 256) ∷ Sporadic 0 0 (pos 1) ∷ [])))
      × (read_sheet (clock ++ at1 ++ at256) ≡ refused 17)
  -- the kind comes first, though the other's body is above
  kinds :
      (read_sheet (clock ++ at1 ++ implies) ≡ taken (sheet (Sporadic 0 0 (pos 1) ∷ Implies 0 0 ∷ [])))
      × (read_sheet (clock ++ implies ++ at1) ≡ refused 17)
  -- equal lines, and the first line alone
  equal : (read_sheet (clock ++ at1 ++ at1) ≡ refused 17) × (read_sheet (clock ++ at1) ≡ taken (sheet (Sporadic 0 0 (pos 1) ∷ [])))
  -- in a line's own turn: 17 of the second before 7 of the third, and 7 of the second before 17 of the third
  turns : (read_sheet (clock ++ at1 ++ at1 ++ no_clock) ≡ refused 17) × (read_sheet (clock ++ at1 ++ no_clock ++ at1) ≡ refused 7)
  -- any order, repeats allowed
  unordered :
      read_unordered (clock ++ at1 ++ at256 ++ at1)
      ≡ taken (sheet (Sporadic 0 0 (pos 1) ∷ Sporadic 0 0 (pos 256) ∷ Sporadic 0 0 (pos 1) ∷ []))
  -- a last kind that is read: 18 is one kind too many for 17
  last : (read_by Any 17 (clock ++ at1 ++ implies) ≡ refused 5) × (read_by Any 18 (clock ++ at1) ≡ read_unordered (clock ++ at1))

pub order-examples : OrderExamples
unfolding signed is_torn front cut length_of clocks_of line_of above read_by
order-examples = record {
  bytes = (refl, refl);
  kinds = (refl, refl);
  equal = (refl, refl);
  turns = (refl, refl);
  unordered = refl;
  last = (refl, refl);
}

-- after a tick of clock 0, D ticks at the n-th later tick of clock 0; and the same body as kind 25
abbrev counts : ℕ → ℕ → List ℕ
counts d n = 0x04 ∷ 0x00 ∷ 0x18 ∷ 0x00 ∷ 0x00 ∷ 0x00 ∷ d ∷ n ∷ []

abbrev kind25 : List ℕ
kind25 = 0x04 ∷ 0x00 ∷ 0x19 ∷ 0x00 ∷ 0x00 ∷ 0x00 ∷ 0x00 ∷ 0x01 ∷ []

pub record CountedExamples : Type 0 where
  -- the least count and the greatest
  read :
      (read_sheet (clock ++ counts 0 1) ≡ taken (sheet (Counted 0 0 0 1 ∷ [])))
      × (read_sheet (clock ++ counts 0 255) ≡ taken (sheet (Counted 0 0 0 255 ∷ [])))
  -- n is 0; a D that is no clock comes first
  zero :
      (read_sheet (clock ++ counts 0 0) ≡ refused 18)
      × (read_unordered (clock ++ counts 0 0) ≡ refused 18)
      × (read_sheet (clock ++ counts 1 0) ≡ refused 7)
  -- 18 of a line comes before its 17
  order : (read_sheet (clock ++ counts 0 1 ++ counts 0 0) ≡ refused 18) × (read_sheet (clock ++ counts 0 2 ++ counts 0 1) ≡ refused 17)
  -- the last kind that is a line, and document 01's own
  last :
      (read_sheet (clock ++ kind25) ≡ refused 5)
      × (read_base (clock ++ counts 0 1) ≡ refused 5)
      × (read_base (clock ++ at1) ≡ read_unordered (clock ++ at1))

pub counted-examples : CountedExamples
unfolding signed is_torn front cut length_of clocks_of line_of above read_by
counted-examples = record { read = (refl, refl); zero = (refl, refl, refl); order = (refl, refl); last = (refl, refl, refl) }

-- one clock ticking at -3, as a record of a kind and a length, with what stands before the clock
abbrev instant : ℕ → ℕ → List ℕ → List ℕ
instant size kind before = size ∷ 0x00 ∷ kind ∷ 0x00 ∷ before ++ (0x01 ∷ 0xFD ∷ 0xFF ∷ [])

abbrev ticking : Form → Outcome InstantValue
ticking form = taken (record { form = form; cells = record { tick = Ticks; tag = negsuc 2 } ∷ [] })

-- the bytes of what was read
abbrev written_again : Outcome InstantValue → List ℕ
written_again (taken v) = instant_bytes v
written_again (refused n) = []

pub record NumberedExamples : Type 0 where
  -- plain; numbered 0, 1, 4,000 and 65,535, low byte first: reading alone takes every number
  read :
      (read_instant 1 (instant 3 32 []) ≡ ticking Plain)
      × (read_instant 1 (instant 5 33 (0x00 ∷ 0x00 ∷ [])) ≡ ticking (Numbered 0))
      × (read_instant 1 (instant 5 33 (0x01 ∷ 0x00 ∷ [])) ≡ ticking (Numbered 1))
      × (read_instant 1 (instant 5 33 (0xA0 ∷ 0x0F ∷ [])) ≡ ticking (Numbered 4000))
      × (read_instant 1 (instant 5 33 (0xFF ∷ 0xFF ∷ [])) ≡ ticking (Numbered 65535))
  -- the kinds beside these two
  kinds : (read_instant 1 (instant 3 31 []) ≡ refused 13) × (read_instant 1 (instant 5 34 (0x01 ∷ 0x00 ∷ [])) ≡ refused 13)
  -- each kind with the other's length
  lengths : (read_instant 1 (instant 5 32 (0x01 ∷ 0x00 ∷ [])) ≡ refused 14) × (read_instant 1 (instant 3 33 []) ≡ refused 14)
  -- the number's bytes are no tick bytes; one behind it is
  ticks : (read_instant 1 (instant 5 33 (0x03 ∷ 0x03 ∷ [])) ≡ ticking (Numbered 771)) × (read_instant 1 (0x05 ∷ 0x00 ∷ 0x21 ∷ 0x00 ∷ 0x01 ∷ 0x00 ∷ 0x03 ∷ 0x00 ∷ 0x00 ∷ []) ≡ refused 15)
  -- read and written again: kind and number with it
  again : (written_again (read_instant 1 (instant 5 33 (0xA0 ∷ 0x0F ∷ []))) ≡ instant 5 33 (0xA0 ∷ 0x0F ∷ [])) × (written_again (read_instant 1 (instant 3 32 [])) ≡ instant 3 32 [])

pub numbered-examples : NumberedExamples
unfolding signed unsigned is_torn front cut tick_of raw_cells read_instant instant_bytes
numbered-examples = record {
  read = (refl, refl, refl, refl, refl);
  kinds = (refl, refl);
  lengths = (refl, refl);
  ticks = (refl, refl);
  again = (refl, refl);
}

pub record NextExamples : Type 0 where
  -- 16: the 4,000th instant is taken, one more is refused, and a fault of its own comes first
  full :
      (if_next 3999 (ticking Plain) ≡ ticking Plain)
      × (if_next 4000 (ticking Plain) ≡ refused 16)
      × (if_next 4000 (refused 15) ≡ refused 15)
  -- 19: the first is 1; the number held already and one too high are refused; all of the number counts, not its low byte
  first :
      (if_next 0 (ticking (Numbered 1)) ≡ ticking (Numbered 1))
      × (if_next 0 (ticking (Numbered 0)) ≡ refused 19)
      × (if_next 0 (ticking (Numbered 2)) ≡ refused 19)
      × (if_next 0 (ticking (Numbered 257)) ≡ refused 19)
  last : (if_next 3999 (ticking (Numbered 4000)) ≡ ticking (Numbered 4000)) × (if_next 3999 (ticking (Numbered 3999)) ≡ refused 19)
  -- 16 before 19: with 4,000 held it is 16 whatever the number
  order :
      (if_next 4000 (ticking (Numbered 4001)) ≡ refused 16)
      × (if_next 4000 (ticking (Numbered 1)) ≡ refused 16)
      × (if_next 4000 (ticking (Numbered 65535)) ≡ refused 16)

pub next-examples : NextExamples
next-examples = record { full = (refl, refl, refl); first = (refl, refl, refl, refl); last = (refl, refl); order = (refl, refl, refl) }
