-- What a monitor keeps, and what the inner functions of opening and observing promise.
use Rattle.std.specs.Prelude.{cond, List, [], ◌≡◌, ℕ, suc, ◌≤◌, ◌<◌, T, eqb, ℤ, pos, take, replicate, get_or, Some, Err}
use Rattle.std.proofs.Math.Option.{Option, none, some}
use Rattle.records.specs.declared.sheet.Sheet.{Sheet}
use Rattle.records.specs.declared.instant.Instant.{Instant}
use Rattle.records.specs.Outcome.{taken, refused}
use Rattle.records.specs.Sheet.{SheetValue, sheet_value, sheet_of}
use Rattle.tesl.specs.Lists.{all}
use Rattle.tesl.specs.Remainder.{Remainder}
use Rattle.work.specs.View.{seen_of, tags_before}
use Rattle.work.specs.Lines.{small_leads}
use Rattle.work.specs.Work.{worked}
use Rattle.records.specs.declared.refusal.Refusal.{Refusal}
use Rattle.judge.specs.declared.monitor.Monitor.{Monitor}
use Rattle.judge.specs.declared.monitor.CallResult.{CallResult}
use Rattle.remainders.specs.View.{blank_remainder, live_count, held_of, live_of, sized}
use Rattle.remainders.specs.Unused.{BlankFrom, NothingUnused}
use Rattle.judge.specs.Answer.{reply_of, said_by}

-- the sheet's value, the remainders held, and what they say: the last answer
abbrev pub sheet_by : Monitor → SheetValue
sheet_by m = sheet_value m.sheet

abbrev pub held_by : Monitor → Option (List Remainder)
held_by m = held_of (sheet_by m) m.held

-- the last tags of the sheet's clocks; none before the first instant
abbrev pub last_by : Monitor → Option (List ℤ)
last_by m = cond (eqb m.instants 0) none (some (take m.sheet.clocks m.tags))

-- ---- unused places

-- a monitor keeps nothing in unused places
pub record KeepsNothing (m : Monitor) : Type 0 where
  -- remainders past live: all of them once exhausted or broken
  pub rest : BlankFrom (live_count m.held.count) blank_remainder m.held.remainders
  -- and in each remainder
  pub each : (k : ℕ) → NothingUnused (sheet_value m.sheet) (get_or m.held.remainders k blank_remainder)
  -- last tags of clocks from C on
  pub tags : BlankFrom m.sheet.clocks (pos 0) m.tags

-- ---- no monitor

abbrev pub blank_monitor : Sheet → Monitor
blank_monitor s = record { sheet = s; instants = 0; tags = replicate 8 (pos 0); held = record { count = Some 0; remainders = replicate 32 blank_remainder } }

-- what stands in a monitor's place beside a refused opening: it has no clock, so it is outside its limits
unfoldable pub no_monitor : Monitor
no_monitor = blank_monitor (sheet_of (record { clocks = 0; lines = [] }))

-- a call refused: why, and the monitor as it came
abbrev pub refused_call : {E : Type 0} → E → Monitor → CallResult E
refused_call why m = record { reply = Err why; monitor = m }

-- the number, and the monitor as it came
pub record Refuses (n : ℕ) (m : Monitor) (r : CallResult Refusal) : Type 0 where
  pub reply : reply_of r.reply ≡ refused n
  pub monitor : r.monitor ≡ m

-- what work asks of a monitor
pub record Workable (m : Monitor) : Type 0 where
  pub lines : m.sheet.count ≤ 16
  pub clocks : m.sheet.clocks ≤ 8
  pub room : m.instants < 4000
  pub leads : T (all small_leads (live_of (sheet_by m) m.held))
  pub fits : T (sized m.held)

-- a monitor after an accepted instant, with room for so many remainders, and its answer
pub record Accepts (room : ℕ) (m : Monitor) (i : Instant) (r : CallResult Refusal) : Type 0 where
  pub sheet : r.monitor.sheet ≡ m.sheet
  pub instants : r.monitor.instants ≡ suc m.instants
  pub tags : r.monitor.tags ≡ i.tags
  pub held : held_by r.monitor ≡ worked room (sheet_by m) (tags_before (eqb m.instants 0) m.tags) (seen_of m.sheet.clocks i.ticks) i.tags (held_by m)
  pub fits : T (sized r.monitor.held)
  pub said : reply_of r.reply ≡ taken (said_by (held_by r.monitor))
