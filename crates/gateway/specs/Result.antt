-- What the exported calls return, as numbers and bytes of the plain machine's answers.
use Rattle.std.specs.Prelude.{List, [], ◌≡◌, ℕ, ◌+◌, ◌*◌}
use Rattle.records.specs.Outcome.{Outcome, taken, refused}
use Rattle.records.specs.Sheet.{SheetValue, read_sheet}
use Rattle.tesl.specs.Lists.{count}
use Rattle.tesl.specs.Run.{Instant}
use Rattle.tesl.specs.Answer.{Answer, exhausted, broken, holding, remainders, answer}
use Rattle.tesl.specs.Machine.{list_after_calls, LogResult, calls_of, judge_log}
use Rattle.logs.specs.Entry.{answer_code, live_code, clear_code}
use Rattle.logs.specs.Log.{Watched}
use Rattle.panel.specs.Panel.{owes_clock}

-- ---- numbers

-- the number of a refusal; 0 where there is none
abbrev pub number_of : {A : Type 0} → Outcome A → ℕ
number_of (taken x) = 0
number_of (refused n) = n

-- a number of the answer; 0 after a refusal
abbrev pub unless_refused : (Answer → ℕ) → Outcome Answer → ℕ
unless_refused code (taken a) = code a
unless_refused code (refused n) = 0

-- number, answer, live and clear, a byte each from the lowest up; then the count of instants taken
abbrev pub packed : ℕ → ℕ → ℕ → ℕ → ℕ → ℕ
packed number code live is_clear instants = number + 256 * code + 65536 * live + 16777216 * is_clear + 4294967296 * instants

-- ---- the whole log

abbrev pub judged_code : LogResult → ℕ
judged_code r =
    packed (number_of r.outcome) (unless_refused answer_code r.outcome) (unless_refused live_code r.outcome) (unless_refused clear_code r.outcome) r.instants

-- ---- every answer of a log: the result packed, and the whole buffer
abbrev pub WatchedAs : Watched → ℕ → List ℕ → Type 0
WatchedAs w result buffer = (result ≡ judged_code w.result) × (buffer ≡ w.buffer)

-- ---- the panel

-- the panel's count; 0 where it refuses
abbrev pub shown_count : Outcome ℕ → ℕ
shown_count (taken n) = n
shown_count (refused n) = 0

-- none is held once exhausted
abbrev pub unless_exhausted : Answer → ℕ → ℕ
unless_exhausted exhausted n = 0
unless_exhausted broken n = n
unless_exhausted (holding live standing) n = n

-- how many of a run's distinct remainders owe the clock a tick
unfoldable pub owing_in : ℕ → SheetValue → List Instant → ℕ
owing_in clock s run = unless_exhausted (answer s run) (count (owes_clock clock) (remainders s run))

-- the run is the machine's list after the log
abbrev pub owing_of : ℕ → List ℕ → Outcome SheetValue → ℕ
owing_of clock log (taken s) = owing_in clock s (list_after_calls s [] (calls_of log))
owing_of clock log (refused n) = 0

-- in the place of live; answer and clear are 0
unfoldable pub shown_code : List ℕ → List ℕ → ℕ → ℕ
shown_code sheet log clock =
    let r = judge_log sheet log in
    packed (number_of r.outcome) 0 (unless_refused (λ a. owing_of clock log (read_sheet sheet)) r.outcome) 0 r.instants
