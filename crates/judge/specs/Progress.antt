-- A monitor kept in rows, as the struct that it stands for: of each row the places in use.
use Rattle.std.specs.Prelude.{Bool, true, List, ◌≡◌, ℕ, ◌+◌, ◌-◌, pos, replicate, Option, Some, Result, Ok, Err}
use Rattle.records.specs.declared.sheet.Sheet.{Sheet}
use Rattle.records.specs.declared.instant.Instant.{Instant}
use Rattle.records.specs.Lists.{listed}
use Rattle.records.specs.Sheet.{sheet_value}
use Rattle.records.specs.Types.{IsSheet}
use Rattle.remainders.specs.declared.remainder.Remainder as arrays
use Rattle.judge.specs.declared.answer.Answer.{Answer}
use Rattle.records.specs.declared.refusal.Refusal.{Refusal}
use Rattle.remainders.specs.declared.held.Held.{Held}
use Rattle.lines.specs.declared.plan.Plan.{Plan}
use Rattle.judge.specs.declared.progress.Progress.{Progress}
use Rattle.judge.specs.declared.progress.InstantResult.{InstantResult}
use Rattle.judge.specs.declared.monitor.Monitor.{Monitor}
use Rattle.judge.specs.declared.monitor.CallResult.{CallResult}
use Rattle.remainders.specs.View.{live_count}
use Rattle.remainders.specs.Unused.{BlankFrom}
use Rattle.judge.specs.Limits.{monitor_within}
use Rattle.judge.specs.Monitor.{Accepts}
use Rattle.lines.specs.Plan.{Planned}
use Rattle.judge.specs.Stored.{FromRows}
use Rattle.remainders.specs.Rows.{head_rows, sides, row_count, row_set, row_leads, row_stopped, FlagsKept, RowsStay}
use Rattle.judge.specs.Promises.{Called}
use Rattle.step.specs.Fill.{Working, worked_rows}

-- row i as a struct
abbrev pub row_remainder : List ℕ → ℕ → arrays.Remainder
row_remainder rows i = record {
  owed = row_count rows i 0;
  obligations = row_set rows i 0;
  counting = row_count rows i 1;
  countdowns = row_set rows i 1;
  leads = row_leads rows i;
  stopped = row_stopped rows i;
}

abbrev pub rows_held : Option ℕ → List ℕ → ℕ → Held
rows_held count rows from = record { count = count; remainders = listed (λ k. row_remainder rows (from + k)) (live_count count) }

-- a monitor kept, with its sheet and its rows
abbrev pub rows_monitor : Sheet → Progress → List ℕ → Monitor
rows_monitor s k rows = record { sheet = s; instants = k.instants; tags = k.tags; held = rows_held k.count rows k.from }

-- a monitor once its remainders are stored behind the head
abbrev pub progress_of : Monitor → Progress
progress_of m = record { instants = m.instants; tags = m.tags; count = m.held.count; from = head_rows }

-- a monitor of no instant, its one remainder in the row behind the head
abbrev pub first_progress : Progress
first_progress = record { instants = 0; tags = replicate 8 (pos 0); count = Some 1; from = head_rows }

abbrev pub given : Result Answer Refusal → Monitor → CallResult Refusal
given r m = record { reply = r; monitor = m }

abbrev pub read_back : Sheet → Progress → List arrays.Remainder → Monitor
read_back s k rs = record { sheet = s; instants = k.instants; tags = k.tags; held = record { count = k.count; remainders = rs } }

-- a monitor read back from rows: its remainders are those of the rows, and blank ones past them
pub record ReadBack (s : Sheet) (k : Progress) (p : Plan) (m : Monitor) (rows : List ℕ) : Type 0 where
  pub same : m ≡ read_back s k m.held.remainders
  pub found : FromRows p k.count k.from m.held.remainders rows

-- ---- an instant taken

-- a monitor in rows within its limits, of a sheet as reading takes it, and what is found out about the sheet once
pub record Ready (s : Sheet) (k : Progress) (p : Plan) (lines rows : List ℕ) : Type 0 where
  pub value : IsSheet (sheet_value s)
  pub planned : Planned (sheet_value s) p lines
  pub limits : monitor_within (rows_monitor s k rows) ≡ true

-- after an accepted instant those held are on the other side; the rows that nothing was built in stay
pub record Moved (k next : Progress) (a b : List ℕ) : Type 0 where
  pub to : next.from ≡ sides - k.from
  pub stays : RowsStay (sides - k.from) (worked_rows k.count next.count) a b
  pub flags : FlagsKept a b

-- rows to work in after an instant that was read, and, whatever the sheet, what is answered to it with room for so many remainders
pub record Works (room : ℕ) (k : Progress) (p : Plan) (i : Instant) (lines : List ℕ) (t : InstantResult) (a b : List ℕ) (list : List Bool) : Type 0 where
  pub working : Working b t.progress.from t.progress.count list
  pub moved : Moved k t.progress a b
  -- it is no refusal
  pub answered : (e : Refusal) → t.reply ≡ Err e → ⊥
  pub accepts : (s : Sheet) → Ready s k p lines a → Accepts room (rows_monitor s k a) i (given t.reply (rows_monitor s t.progress b))

-- room to work in after a call; refused, the monitor and all words are as they came; and, whatever the sheet, what the call gives; answered, the last tags of clocks from C on are 0; and the monitor to call next is as ready
pub record Takes (k : Progress) (p : Plan) (bytes lines : List ℕ) (t : InstantResult) (a b : List ℕ) (list : List Bool) : Type 0 where
  pub room : Working b t.progress.from t.progress.count list
  pub refused : (e : Refusal) → t.reply ≡ Err e → (t.progress ≡ k) × (b ≡ a)
  pub moved : (x : Answer) → t.reply ≡ Ok x → Moved k t.progress a b
  pub called : (s : Sheet) → Ready s k p lines a → Called (rows_monitor s k a) bytes (given t.reply (rows_monitor s t.progress b))
  pub tags : (s : Sheet) → Ready s k p lines a → (x : Answer) → t.reply ≡ Ok x → BlankFrom s.clocks (pos 0) t.progress.tags
  pub ready : (s : Sheet) → Ready s k p lines a → Ready s t.progress p lines b
