-- What `open`, `open_base` and `observe` promise, whole: these are their `ensures`, and what demand 3 is proved from.
use Rattle.std.specs.Prelude.{true, cond, List, [], ◌∷◌, ◌++◌, map, ◌≢◌, ◌≡◌, ℕ, T, length}
use Rattle.records.specs.Outcome.{Outcome, taken, refused}
use Rattle.records.specs.Sheet.{SheetValue}
use Rattle.records.specs.Types.{All}
use Rattle.records.specs.Next.{read_next}
use Rattle.tesl.specs.Lists.{last_of}
use Rattle.tesl.specs.Run.{Instant, tags_of}
use Rattle.tesl.specs.Remainder.{Remainder, same_obligation, same_countdown, same_remainder}
use Rattle.tesl.specs.Answer.{exhausted, remainders, answer}
use Rattle.tesl.specs.Machine.{judged_part, Reader}
use Rattle.theory.specs.Sets.{apart, EachOnce}
use Rattle.work.specs.View.{held_list}
use Rattle.judge.specs.declared.monitor.Monitor.{Monitor}
use Rattle.records.specs.declared.refusal.Refusal.{Refusal}
use Rattle.judge.specs.declared.monitor.CallResult.{CallResult}
use Rattle.judge.specs.Answer.{reply_of, said_by}
use Rattle.judge.specs.Limits.{monitor_within}
use Rattle.judge.specs.Monitor.{KeepsNothing, sheet_by, held_by, last_by, no_monitor, Refuses}

-- m is a monitor of the sheet s after the accepted instants run: of the instants it has their number, the last tags and the last answer;
-- while the answer is not exhausted its remainders are the run's distinct ones, each once, and each has an obligation once and a countdown once; and it is within its limits
pub record Follows (s : SheetValue) (run : List Instant) (m : Monitor) : Type 0 where
  pub sheet : sheet_by m ≡ s
  pub instants : m.instants ≡ length run
  pub last : last_by m ≡ last_of (map tags_of run)
  pub said : said_by (held_by m) ≡ answer s run
  pub held : said_by (held_by m) ≢ exhausted → EachOnce same_remainder (held_list (held_by m)) (remainders s run)
  pub once-each : All (λ (r : Remainder). T (apart same_obligation r.owed) × T (apart same_countdown r.countdowns)) (held_list (held_by m))
  pub limits : monitor_within m ≡ true

-- ---- opening

-- by what the sheet's bytes are read as: refused, the number and no monitor; else the answer for no instant, and a monitor that follows the sheet and keeps nothing in unused places
pub record Opened (read : Reader) (bytes : List ℕ) (r : CallResult Refusal) : Type 0 where
  pub refuses : (n : ℕ) → read bytes ≡ refused n → Refuses n no_monitor r
  pub opens : (s : SheetValue) → read bytes ≡ taken s → (reply_of r.reply ≡ taken (answer s [])) × Follows s [] r.monitor
  pub unused : (s : SheetValue) → read bytes ≡ taken s → KeepsNothing r.monitor

-- ---- observing

-- what a call is taken for: 11: monitor outside its limits; 12 to 15 as reading gives them; then 16, then 19
unfoldable pub observes : Monitor → List ℕ → Outcome Instant
observes m bytes = cond (monitor_within m) (judged_part (read_next m.sheet.clocks m.instants bytes)) (refused 11)

-- an accepted instant: the answer is what those then held say, and the monitor is within its limits; for every run that the monitor followed, it is the machine's answer, and the monitor follows the longer run
-- free is what is then held by a monitor that follows no run
pub record Accepted (m : Monitor) (i : Instant) (r : CallResult Refusal) : Type 0 where
  pub answers : reply_of r.reply ≡ taken (said_by (held_by r.monitor))
  pub limits : monitor_within r.monitor ≡ true
  pub follows : (s : SheetValue) (run : List Instant) → Follows s run m
      → (reply_of r.reply ≡ taken (answer s (run ++ (i ∷ [])))) × Follows s (run ++ (i ∷ [])) r.monitor

-- refused: the number, and the monitor as it came
pub record Called (m : Monitor) (bytes : List ℕ) (r : CallResult Refusal) : Type 0 where
  pub refuses : (n : ℕ) → observes m bytes ≡ refused n → Refuses n m r
  pub accepts : (i : Instant) → observes m bytes ≡ taken i → Accepted m i r

-- and whatever the monitor was, after an accepted instant it keeps nothing in unused places
pub record Observed (m : Monitor) (bytes : List ℕ) (r : CallResult Refusal) : Type 0 where
  pub called : Called m bytes r
  pub unused : (i : Instant) → observes m bytes ≡ taken i → KeepsNothing r.monitor
