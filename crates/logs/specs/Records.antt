-- What the inner functions over a log's records promise.
use Rattle.std.specs.Prelude.{Bool, List, [], ◌++◌, ◌≡◌, ℕ, ◌*◌, ◌≤◌, pos, length, Ok}
use Rattle.records.specs.declared.sheet.Sheet.{Sheet}
use Rattle.records.specs.Sheet.{SheetValue}
use Rattle.records.specs.Store.{puts}
use Rattle.tesl.specs.Lists.{flat_map}
use Rattle.tesl.specs.Run.{Instant}
use Rattle.tesl.specs.Machine.{machine, LogResult, concluded, calls_of, judge_log}
use Rattle.judge.specs.declared.start.Begun.{Begun}
use Rattle.judge.specs.declared.monitor.Monitor.{Monitor}
use Rattle.records.specs.declared.refusal.Refusal.{Refusal}
use Rattle.judge.specs.declared.monitor.CallResult.{CallResult}
use Rattle.logs.specs.declared.log.LastMonitor.{LastMonitor}
use Rattle.logs.specs.declared.log.LastRows.{LastRows}
use Rattle.judge.specs.Answer.{reply_of}
use Rattle.logs.specs.Entry.{entry, answers_from, instants_from}
use Rattle.remainders.specs.Unused.{BlankFrom}
use Rattle.judge.specs.Promises.{Follows}
use Rattle.step.specs.Fill.{Working}
use Rattle.judge.specs.Progress.{rows_monitor, given, Ready}
use Rattle.logs.specs.Log.{entries, FollowsLog}

-- what a log came to, apart from the monitor
abbrev pub judged_rows : LastRows → LogResult
judged_rows r = record { outcome = reply_of r.reply; instants = r.instants }

-- ---- after an opening, for every run that its monitor follows

-- what the machine's replies come to; m follows the instants taken before the first refusal; and the answers' bytes stand at the buffer's front, where all have room
pub record FollowsRecords (opened : CallResult Refusal) (log : List ℕ) (r : LogResult) (m : Monitor) (before after : List ℕ) : Type 0 where
  pub concludes : (s : SheetValue) (run : List Instant) → Follows s run opened.monitor → r ≡ concluded (reply_of opened.reply) 0 (machine s run (calls_of log))
  pub follows : (s : SheetValue) (run : List Instant) → Follows s run opened.monitor → Follows s (run ++ instants_from s run log) m
  pub buffer : (s : SheetValue) (run : List Instant) → Follows s run opened.monitor → 3 * length (answers_from s run log) ≤ length before
      → after ≡ puts before 0 (flat_map entry (answers_from s run log))

-- by a monitor begun in rows, whatever the sheet; room to work in and a monitor as ready are left, and last tags of clocks from C on that were 0 still are
pub record ObservedRecords (log : List ℕ) (g : Begun) (lines : List ℕ) (r : LastRows) (a b : List ℕ) (list : List Bool) (before after : List ℕ)
    : Type 0 where
  pub room : Working b r.progress.from r.progress.count list
  pub size : length after ≡ length before
  pub follows : (s : Sheet) → Ready s g.progress g.plan lines a → FollowsRecords (given (Ok g.said) (rows_monitor s g.progress a)) log (judged_rows r) (rows_monitor s r.progress b) before after
  pub ready : (s : Sheet) → Ready s g.progress g.plan lines a → Ready s r.progress g.plan lines b
  pub tags : (s : Sheet) → Ready s g.progress g.plan lines a → BlankFrom s.clocks (pos 0) g.progress.tags → BlankFrom s.clocks (pos 0) r.progress.tags

-- ---- with the opening

pub record ObservedLog (sheet log : List ℕ) (r : LastMonitor) (before after : List ℕ) : Type 0 where
  pub followed : FollowsLog sheet log r
  pub size : length after ≡ length before
  pub buffer : length (entries sheet log) ≤ length before → after ≡ puts before 0 (entries sheet log)

-- ---- counted

-- as many as the machine of a sheet with these clocks takes
pub record Counted (log : List ℕ) (clocks n : ℕ) : Type 0 where
  pub most : n ≤ 4000
  pub same : (s : SheetValue) → s.clocks ≡ clocks → n ≡ length (answers_from s [] log)

pub record CountedLog (sheet log : List ℕ) (n : ℕ) : Type 0 where
  pub most : n ≤ 4000
  pub entries-size : 3 * n ≡ length (entries sheet log)
  pub judged : n ≡ (judge_log sheet log).instants
