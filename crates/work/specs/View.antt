-- An instant and the remainders held, as the work sees them: ticks and tags of eight clocks, and of a remainder the places in use.
use Rattle.std.specs.Prelude.{Bool, true, false, cond, List, [], map, ℕ, ℤ, take}
use Rattle.std.proofs.Math.Option.{Option, none, some}
use Rattle.records.specs.declared.instant.Tick.{Tick}
use Rattle.records.specs.declared.line.Line.{Line}
use Rattle.records.specs.Line.{of_precedes}
use Rattle.records.specs.Sheet.{SheetValue}
use Rattle.tesl.specs.Run.{Filled}
use Rattle.tesl.specs.Remainder.{Remainder}
use Rattle.theory.specs.Step.{next_leads}

-- a filled instant: ticks and tags of all eight clocks, those from C on idle at tag 0
abbrev pub filled_of : List Bool → List ℤ → Filled
filled_of ticks tags = record { ticks = ticks; tags = tags }

-- the ticks of an instant of c clocks
abbrev pub seen_of : ℕ → List Tick → List Tick
seen_of c seen = take c seen

-- the last tags, of all eight clocks; none before the first instant
abbrev pub tags_before : Bool → List ℤ → Option (List ℤ)
tags_before first was = cond first none (some was)

-- a lead in use: a precedes line's; any other line has none, and reads 0
abbrev pub in_use : Line → ℕ → ℕ
in_use l lead = of_precedes 0 (λ A B. lead) l

-- of the sheet's lines the leads in use, and its clocks
abbrev pub used_part : SheetValue → Remainder → Remainder
used_part v r = record { owed = r.owed; countdowns = r.countdowns; leads = next_leads in_use v.lines r.leads; stopped = take v.clocks r.stopped }

abbrev pub held_list : Option (List Remainder) → List Remainder
held_list none = []
held_list (some rs) = rs

abbrev pub is_none : {A : Type 0} → Option A → Bool
is_none none = true
is_none (some x) = false
