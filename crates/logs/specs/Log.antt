-- A whole log, judged: what the functions over logs promise.
use Rattle.std.specs.Prelude.{cond, List, [], ◌++◌, ◌≡◌, ℕ, ltb, length, drop}
use Rattle.records.specs.Outcome.{taken, refused}
use Rattle.records.specs.Sheet.{SheetValue, read_sheet}
use Rattle.tesl.specs.Lists.{flat_map}
use Rattle.tesl.specs.Machine.{session, LogResult, calls_of, judge_log}
use Rattle.logs.specs.declared.log.Judged.{Judged}
use Rattle.logs.specs.declared.log.LastMonitor.{LastMonitor}
use Rattle.judge.specs.Answer.{reply_of}
use Rattle.judge.specs.Monitor.{KeepsNothing, no_monitor}
use Rattle.judge.specs.Promises.{Follows}
use Rattle.logs.specs.Entry.{before_refusal, instants_from, entry}

abbrev pub judged_of : Judged → LogResult
judged_of r = record { outcome = reply_of r.reply; instants = r.instants }

-- ---- with the monitor after the log

-- what the log is judged to; a refused sheet yields no monitor; else it is the monitor after the instants taken, those before the first refusal, and keeps nothing in unused places
pub record FollowsLog (sheet log : List ℕ) (r : LastMonitor) : Type 0 where
  pub judged : record { outcome = reply_of r.reply; instants = r.instants } ≡ judge_log sheet log
  pub refuses : (n : ℕ) → read_sheet sheet ≡ refused n → r.monitor ≡ no_monitor
  pub follows : (s : SheetValue) → read_sheet sheet ≡ taken s → Follows s (instants_from s [] log) r.monitor
  pub unused : (s : SheetValue) → read_sheet sheet ≡ taken s → KeepsNothing r.monitor

-- ---- with every answer

-- the bytes of the answers to the instants taken
unfoldable pub entries : List ℕ → List ℕ → List ℕ
entries sheet log = flat_map entry (before_refusal (session read_sheet sheet (calls_of log)).replies)

-- the result, and the whole buffer afterwards
pub record Watched : Type 0 where
  pub result : LogResult
  pub buffer : List ℕ

abbrev pub watched_as : LogResult → List ℕ → Watched
watched_as result buffer = record { result = result; buffer = buffer }

-- 10: buffer shorter than the entries, with the count of instants taken, and no byte changed; else the entries fill its front, later bytes staying
unfoldable pub watch_log : List ℕ → List ℕ → List ℕ → Watched
watch_log sheet log out =
    let r = judge_log sheet log in
    let bytes = entries sheet log in
    cond (ltb (length out) (length bytes))
    (watched_as (record { outcome = refused 10; instants = r.instants }) out)
    (watched_as r (bytes ++ drop (length bytes) out))
