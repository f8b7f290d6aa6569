-- An answer as numbers, and the answers to a log's instants as bytes, three each.
use Rattle.std.specs.Prelude.{List, [], ◌∷◌, ℕ, ◌+◌, ◌≤◌, ◌≡◌, length}
use Rattle.records.specs.Outcome.{Outcome, taken, refused}
use Rattle.records.specs.Sheet.{SheetValue}
use Rattle.records.specs.Store.{puts}
use Rattle.tesl.specs.Run.{Instant}
use Rattle.remainders.specs.Word.{byte_in}
use Rattle.tesl.specs.Answer.{Answer, exhausted, broken, holding, clear, owed}
use Rattle.tesl.specs.Machine.{machine, accepts_each, calls_of}

abbrev pub answer_code : Answer → ℕ
answer_code exhausted = 1
answer_code broken = 2
answer_code (holding live standing) = 3

-- live; 0 unless holding
abbrev pub live_code : Answer → ℕ
live_code exhausted = 0
live_code broken = 0
live_code (holding live standing) = live

-- 1: clear; 0: owed, or not holding
abbrev pub clear_code : Answer → ℕ
clear_code exhausted = 0
clear_code broken = 0
clear_code (holding live clear) = 1
clear_code (holding live owed) = 0

-- the three bytes of an answer
abbrev pub entry : Answer → List ℕ
entry a = answer_code a ∷ live_code a ∷ clear_code a ∷ []

-- what was taken before the first refusal
abbrev pub before_refusal : {A : Type 0} → List (Outcome A) → List A
before_refusal [] = []
before_refusal (taken x ∷ outcomes) = x ∷ before_refusal outcomes
before_refusal (refused n ∷ outcomes) = []

-- of a log, from a run on: the machine's answers, and the instants that it takes
abbrev pub answers_from : SheetValue → List Instant → List ℕ → List Answer
answers_from s run log = before_refusal (machine s run (calls_of log))

abbrev pub instants_from : SheetValue → List Instant → List ℕ → List Instant
instants_from s run log = before_refusal (accepts_each s run (calls_of log))

-- ---- inner promises

-- as it is stored: live in a byte
abbrev pub stored_entry : Answer → List ℕ
stored_entry a = answer_code a ∷ byte_in (live_code a) ∷ clear_code a ∷ []

-- an answer's bytes behind the first `at`, if there is room for them; `end` is where the next would stand
pub record PutEntry (a : Answer) (at end : ℕ) (before after : List ℕ) : Type 0 where
  pub size : length after ≡ length before
  pub most : end ≤ length after
  pub room : at + 3 ≤ length before → (end ≡ at + 3) × (after ≡ puts before at (stored_entry a))
