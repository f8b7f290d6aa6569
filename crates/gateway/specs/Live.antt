-- What the calls on a state of words return, and demand 3 of exactly these calls. Words are read as `lent` reads them (its specs/State.antt and Live.antt).
use Rattle.std.specs.Prelude.{cond, List, [], ◌∷◌, ◌≡◌, ℕ, ◌%◌, length, Result}
use Rattle.std.proofs.Math.Option.{some}
use Rattle.records.specs.Outcome.{Outcome, taken, refused}
use Rattle.records.specs.Sheet.{SheetValue, read_sheet}
use Rattle.tesl.specs.Run.{Instant}
use Rattle.tesl.specs.Answer.{Answer, answer}
use Rattle.tesl.specs.Machine.{accepts, list_after, reply, list_after_calls}
use Rattle.theory.specs.Numbered.{RecordOf, RunsAlong}
use Rattle.judge.specs.declared.answer.Answer as code
use Rattle.records.specs.declared.refusal.Refusal.{Refusal}
use Rattle.lent.specs.declared.live.Replied.{Replied}
use Rattle.judge.specs.Answer.{reply_of, said_by}
use Rattle.judge.specs.Monitor.{held_by}
use Rattle.lent.specs.State.{state_monitor}
use Rattle.lent.specs.Live.{state_within, instants_in, FollowsIn, OpenedIn, ObservedIn}
use Rattle.panel.specs.Panel.{panel_count}
use Rattle.gateway.specs.Result.{number_of, packed, judged_code, shown_count, owing_in}

-- an answer or the number of a refusal, with the count of instants held
abbrev pub result_code : Outcome Answer → ℕ → ℕ
result_code o n = judged_code (record { outcome = o; instants = n })

-- ---- what each call promises; `a` are the words before it, `b` those after it

-- lift_open: what opening replies, with no instant held
pub record LiftOpened (sheet : List ℕ) (r : ℕ) (a b : List ℕ) : Type 0 where
  pub reply : Result code.Answer Refusal
  pub opened : OpenedIn read_sheet sheet reply a b
  pub result : r ≡ result_code (reply_of reply) 0

-- lift_observe: what observing replies, with the instants then held
pub record LiftObserved (bytes : List ℕ) (r : ℕ) (a b : List ℕ) : Type 0 where
  pub replied : Replied
  pub observed : ObservedIn bytes replied a b
  pub result : r ≡ result_code (reply_of replied.reply) (instants_in b)

-- what those held say; 11 where the words are no monitor within its limits
unfoldable pub last_reply : List ℕ → Outcome Answer
last_reply w = cond (state_within w) (taken (said_by (held_by (state_monitor w)))) (refused 11)

-- lift_last: that, with the instants held
unfoldable pub last_code : List ℕ → ℕ
last_code w = result_code (last_reply w) (instants_in w)

-- how many of those held owe the clock a tick; 11 likewise
unfoldable pub owing_by : ℕ → List ℕ → Outcome ℕ
owing_by clock w = cond (state_within w) (panel_count clock (state_monitor w)) (refused 11)

-- lift_owing: that in the place of live; answer and clear are 0
unfoldable pub owing_code : ℕ → List ℕ → ℕ
owing_code clock w = packed (number_of (owing_by clock w)) 0 (shown_count (owing_by clock w)) 0 (instants_in w)

-- ---- a list of calls: each gets the words that the call before left

-- the records handed to lift_observe from the words w on, the results, and the last words
pub data LiftCalls : List ℕ → List (List ℕ) → List ℕ → List ℕ → Type 0 where
  no_call : {w : List ℕ} → LiftCalls w [] [] w
  call : {a b last bytes : List ℕ} {r : ℕ} {calls : List (List ℕ)} {results : List ℕ}
      → LiftObserved bytes r a b → LiftCalls b calls results last → LiftCalls a (bytes ∷ calls) (r ∷ results) last

-- lift_open from any words, and the calls after it
pub record LiftRan (sheet : List ℕ) (calls : List (List ℕ)) : Type 0 where
  pub before : List ℕ
  pub opening : ℕ
  pub opened : List ℕ
  pub results : List ℕ
  pub last : List ℕ
  pub opens : LiftOpened sheet opening before opened
  pub observes : LiftCalls opened calls results last

-- ---- demand 3

-- what the plain machine replies to each call, with the length of its list after it
unfoldable pub packed_replies : SheetValue → List Instant → List (List ℕ) → List ℕ
packed_replies s run [] = []
packed_replies s run (bytes ∷ calls) =
    let o = accepts s run bytes in
    result_code (reply s run o) (length (list_after run o)) ∷ packed_replies s (list_after run o) calls

-- the sheet is read as s; run is the machine's list after all calls
pub record LiftAnswered (s : SheetValue) (run : List Instant) {sheet : List ℕ} {calls : List (List ℕ)} (r : LiftRan sheet calls) : Type 0 where
  pub opening : r.opening ≡ result_code (taken (answer s [])) 0
  pub results : r.results ≡ packed_replies s [] calls
  pub follows : FollowsIn s run r.last
  -- what lift_last and lift_owing then return
  pub said : last_code r.last ≡ result_code (taken (answer s run)) (length run)
  pub owing : (clock : ℕ) → owing_code clock r.last ≡ packed 0 0 (owing_in clock s run) 0 (length run)

-- the sheet is refused: its number alone, no word changes, and nothing is said of later calls
pub record LiftSame {sheet : List ℕ} {calls : List (List ℕ)} (r : LiftRan sheet calls) : Type 0 where
  pub refuses : (n : ℕ) → read_sheet sheet ≡ refused n → (r.opening ≡ result_code (refused n) 0) × (r.opened ≡ r.before)
  pub reads : (s : SheetValue) → read_sheet sheet ≡ taken s → LiftAnswered s (list_after_calls s [] calls) r

-- for every sheet's bytes, every list of records' bytes and every state before
abbrev pub LiftDemand3 : Type 0
LiftDemand3 = (sheet : List ℕ) (calls : List (List ℕ)) (r : LiftRan sheet calls) → LiftSame r

-- ---- numbered instants (document 02, Q-5)

-- each call that was accepted, as the number in its result's lowest byte tells, was handed a record of `lift`, numbered from 1
abbrev pub LiftAcceptedFrom : List Instant → ℕ → List (List ℕ) → List ℕ → Type 0
LiftAcceptedFrom lift c [] results = Unit {0}
LiftAcceptedFrom lift c (bytes ∷ calls) [] = Unit {0}
LiftAcceptedFrom lift c (bytes ∷ calls) (r ∷ results) = (r % 256 ≡ 0 → RecordOf lift c bytes) × LiftAcceptedFrom lift c calls results

-- then the run is a beginning of `lift`, and the last words follow it
abbrev pub LiftNumbered : Type 0
LiftNumbered = (lift : List Instant) (sheet : List ℕ) (calls : List (List ℕ)) (r : LiftRan sheet calls) (s : SheetValue) → read_sheet sheet ≡ taken s
    → LiftAcceptedFrom lift s.clocks calls r.results → RunsAlong FollowsIn lift s calls (some r.last)
