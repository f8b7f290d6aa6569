-- The numbers of documents 01 and 02, 'Places of refusal'.
use Rattle.std.specs.Prelude.{ℕ}
use Rattle.records.specs.declared.refusal.Refusal.{Refusal}
use Rattle.records.specs.declared.refusal.Refusal.TheVariants.{TornSheet, NotClocks, ClocksLength, ClockCount, LineKind, LineLength, ClockNumber, SeventeenthLine, NinthSporadic, ShortBuffer, MonitorLimits, NotOneRecord, NotInstant, InstantLength, TickByte, InstantsHeld, NotAbove, NoCount, NotNext}

abbrev pub refusal_number : Refusal → ℕ
refusal_number TornSheet = 1
refusal_number NotClocks = 2
refusal_number ClocksLength = 3
refusal_number ClockCount = 4
refusal_number LineKind = 5
refusal_number LineLength = 6
refusal_number ClockNumber = 7
refusal_number SeventeenthLine = 8
refusal_number NinthSporadic = 9
refusal_number ShortBuffer = 10
refusal_number MonitorLimits = 11
refusal_number NotOneRecord = 12
refusal_number NotInstant = 13
refusal_number InstantLength = 14
refusal_number TickByte = 15
refusal_number InstantsHeld = 16
refusal_number NotAbove = 17
refusal_number NoCount = 18
refusal_number NotNext = 19
