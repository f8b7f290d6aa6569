-- The plain machine: its state is the sheet and the list of accepted instants. It is opened with a sheet's bytes and called with an instant's.
use Rattle.std.specs.Prelude.{List, [], ◌∷◌, ◌++◌, map, ℕ, suc, length}
use Rattle.records.specs.Outcome.{Outcome, taken, refused}
use Rattle.records.specs.Record.{Piece, whole, torn, pieces, record_bytes}
use Rattle.records.specs.Sheet.{SheetValue, read_sheet}
use Rattle.records.specs.Instant.{InstantValue}
use Rattle.records.specs.Next.{read_next}
use Rattle.tesl.specs.Run.{Instant}
use Rattle.tesl.specs.Answer.{Answer, answer}

-- the ticks and tags of what was read
abbrev pub judged_part : Outcome InstantValue → Outcome Instant
judged_part (refused n) = refused n
judged_part (taken v) = taken v.cells

-- what the machine takes a call's bytes for: 12 to 15 as reading gives them, then 16, then 19; a machine has no limits of its own, so 11 never arises
unfoldable pub accepts : SheetValue → List Instant → List ℕ → Outcome Instant
accepts s run bytes = judged_part (read_next s.clocks (length run) bytes)

-- an accepted instant is appended; a refused one changes nothing
abbrev pub list_after : List Instant → Outcome Instant → List Instant
list_after run (taken i) = run ++ (i ∷ [])
list_after run (refused n) = run

-- the answer to an accepted instant, and the number of a refused one
abbrev pub reply : SheetValue → List Instant → Outcome Instant → Outcome Answer
reply s run (taken i) = taken (answer s (run ++ (i ∷ [])))
reply s run (refused n) = refused n

-- the replies to a list of calls, and the list of accepted instants after them
unfoldable pub machine : SheetValue → List Instant → List (List ℕ) → List (Outcome Answer)
machine s run [] = []
machine s run (bytes ∷ calls) = reply s run (accepts s run bytes) ∷ machine s (list_after run (accepts s run bytes)) calls

unfoldable pub list_after_calls : SheetValue → List Instant → List (List ℕ) → List Instant
list_after_calls s run [] = run
list_after_calls s run (bytes ∷ calls) = list_after_calls s (list_after run (accepts s run bytes)) calls

-- what each of a list of calls is taken for
unfoldable pub accepts_each : SheetValue → List Instant → List (List ℕ) → List (Outcome Instant)
accepts_each s run [] = []
accepts_each s run (bytes ∷ calls) = accepts s run bytes ∷ accepts_each s (list_after run (accepts s run bytes)) calls

-- what opening answers, and every call after it; opening refused yields no monitor to call
pub record Session : Type 0 where
  pub opening : Outcome Answer
  pub replies : List (Outcome Answer)

abbrev pub opened_with : List (List ℕ) → Outcome SheetValue → Session
opened_with calls (taken s) = record { opening = taken (answer s []); replies = machine s [] calls }
opened_with calls (refused n) = record { opening = refused n; replies = [] }

-- how a sheet's bytes are read
abbrev pub Reader : Type 0
Reader = List ℕ → Outcome SheetValue

unfoldable pub session : Reader → List ℕ → List (List ℕ) → Session
session read sheet calls = opened_with calls (read sheet)

-- ---- the whole log

-- the last answer, or the number of a refusal; and the count of instants taken before it
pub record LogResult : Type 0 where
  pub outcome : Outcome Answer
  pub instants : ℕ

-- the first refusal decides, else the last answer; `last` and `n` are of the replies before
abbrev pub concluded : Outcome Answer → ℕ → List (Outcome Answer) → LogResult
concluded last n [] = record { outcome = last; instants = n }
concluded last n (taken a ∷ replies) = concluded (taken a) (suc n) replies
concluded last n (refused m ∷ replies) = record { outcome = refused m; instants = n }

-- a log is handed over record by record; of a torn one nothing is handed over, which is 12
abbrev pub call_of : Piece → List ℕ
call_of (whole kind body) = record_bytes kind body
call_of torn = []

abbrev pub calls_of : List ℕ → List (List ℕ)
calls_of log = map call_of (pieces log)

unfoldable pub judge_log : List ℕ → List ℕ → LogResult
judge_log sheet log = let s = session read_sheet sheet (calls_of log) in concluded s.opening 0 s.replies
