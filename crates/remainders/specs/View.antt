-- The code's structs as tesl's values.
use Rattle.std.specs.Prelude.{Bool, true, false, ◌&&◌, List, map, ℕ, leb, eqb, replicate, take, None, Some}
use Rattle.std.specs.declared.option.Option as option
use Rattle.std.proofs.Math.Option.{Option, none, some}
use Rattle.records.specs.Sheet.{SheetValue}
use Rattle.tesl.specs.Lists.{all}
use Rattle.tesl.specs.Fits.{Obligation, Countdown}
use Rattle.tesl.specs.Remainder.{Remainder}
use Rattle.work.specs.View.{used_part, held_list}
use Rattle.remainders.specs.declared.obligation.Obligation as code
use Rattle.remainders.specs.declared.remainder.Remainder as arrays
use Rattle.remainders.specs.declared.held.Held.{Held}
use Rattle.remainders.specs.Word.{due_of}

-- its number read as a due
abbrev pub obligation_of : code.Obligation → Obligation
obligation_of o = record { clock = o.clock; due = due_of o.number; on = o.on }

-- its number read as the ticks still wanted
abbrev pub countdown_of : code.Obligation → Countdown
countdown_of o = record { clock = o.clock; on = o.on; wanted = o.number }

-- the same as they are stored
abbrev pub same_stored : code.Obligation → code.Obligation → Bool
same_stored a b = eqb a.clock b.clock && (eqb a.number b.number && eqb a.on b.on)

-- ---- a remainder in arrays

-- the first n of an array of obligations
abbrev pub first_of : ℕ → List code.Obligation → List Obligation
first_of n os = map obligation_of (take n os)

abbrev pub owed_of : arrays.Remainder → List Obligation
owed_of r = first_of r.owed r.obligations

abbrev pub countdowns_of : arrays.Remainder → List Countdown
countdowns_of r = map countdown_of (take r.counting r.countdowns)

-- with the leads of sixteen lines and the stopped ones of eight clocks
abbrev pub remainder_of : arrays.Remainder → Remainder
remainder_of r = record { owed = owed_of r; countdowns = countdowns_of r; leads = r.leads; stopped = r.stopped }

abbrev pub blank_obligation : code.Obligation
blank_obligation = record { clock = 0; on = 0; number = 0 }

-- nothing is owed, no line leads, no clock is stopped
abbrev pub blank_remainder : arrays.Remainder
blank_remainder = record {
  owed = 0;
  obligations = replicate 8 blank_obligation;
  counting = 0;
  countdowns = replicate 8 blank_obligation;
  leads = replicate 16 0;
  stopped = replicate 8 false;
}

-- ---- the places in use

-- a remainder of a sheet; unused places are no part of it
abbrev pub view_of : SheetValue → arrays.Remainder → Remainder
view_of v r = used_part v (remainder_of r)

-- ---- what is worked on

-- how many are held; none once exhausted, nor when broken
abbrev pub live_count : option.Option ℕ → ℕ
live_count None = 0
live_count (Some n) = n

-- those held; `none` once exhausted, when none is held
abbrev pub held_in : SheetValue → option.Option ℕ → List arrays.Remainder → Option (List Remainder)
held_in v None rs = none
held_in v (Some n) rs = some (map (view_of v) (take n rs))

abbrev pub held_of : SheetValue → Held → Option (List Remainder)
held_of v h = held_in v h.count h.remainders

abbrev pub live_of : SheetValue → Held → List Remainder
live_of v h = held_list (held_of v h)

-- ---- counts that their arrays have room for

-- at most eight in each set
abbrev pub few_owed : arrays.Remainder → Bool
few_owed r = leb r.owed 8 && leb r.counting 8

abbrev pub sized_in : option.Option ℕ → List arrays.Remainder → Bool
sized_in None rs = true
sized_in (Some n) rs = leb n 32 && all few_owed (take n rs)

abbrev pub sized : Held → Bool
sized h = sized_in h.count h.remainders
