-- What the calls on a state of words promise, whole: these are their `ensures`, and what demand 3 over words is proved from. A state is read by `state_monitor`, which every array of words has; `is_state` tells whether it is one.
use Rattle.std.specs.Prelude.{Bool, true, false, cond, ◌&&◌, List, [], ◌≡◌, ℕ, Result}
use Rattle.std.proofs.Math.Option.{Option}
use Rattle.records.specs.Outcome.{Outcome, taken, refused}
use Rattle.records.specs.Sheet.{SheetValue}
use Rattle.tesl.specs.Run.{Instant}
use Rattle.tesl.specs.Answer.{Answer, answer, most_live}
use Rattle.tesl.specs.Machine.{Session, Reader}
use Rattle.theory.specs.Session.{Ran, SameSession, EachAnswer}
use Rattle.theory.specs.Session as machine
use Rattle.theory.specs.Said.{Said}
use Rattle.theory.specs.Seen.{SeenJudged}
use Rattle.theory.specs.Numbered.{AcceptedFrom, RunsAlong}
use Rattle.judge.specs.declared.answer.Answer as code
use Rattle.records.specs.declared.refusal.Refusal.{Refusal}
use Rattle.lent.specs.declared.live.Replied.{Replied}
use Rattle.judge.specs.declared.monitor.CallResult.{CallResult}
use Rattle.judge.specs.Answer.{reply_of, said_by}
use Rattle.judge.specs.Limits.{monitor_within}
use Rattle.judge.specs.Monitor.{KeepsNothing, held_by, no_monitor, Refuses}
use Rattle.judge.specs.Progress.{given, read_back}
use Rattle.judge.specs.Promises.{Follows, observes, Accepted}
use Rattle.lent.specs.State.{is_state, state_sheet, state_progress, state_monitor}
use Rattle.lent.specs.StoredState.{AsStored}

-- ---- what a state is

-- a monitor within its limits; any other words get 11
unfoldable pub state_within : List ℕ → Bool
state_within w = is_state w && monitor_within (state_monitor w)

-- the instants held; none where there is no monitor
unfoldable pub instants_in : List ℕ → ℕ
instants_in w = cond (state_within w) (state_monitor w).instants 0

-- the words are a monitor of the sheet s after the accepted instants run
pub record FollowsIn (s : SheetValue) (run : List Instant) (w : List ℕ) : Type 0 where
  pub state : is_state w ≡ true
  pub follows : Follows s run (state_monitor w)

-- ---- opening: `a` are the words before the call, `b` those after it

-- refused, the number, and every word as it was; else the answer for no instant, and words that follow the sheet, each as it is stored
pub record OpenedIn (read : Reader) (bytes : List ℕ) (r : Result code.Answer Refusal) (a b : List ℕ) : Type 0 where
  pub refuses : (n : ℕ) → read bytes ≡ refused n → (reply_of r ≡ refused n) × (b ≡ a)
  pub opens : (s : SheetValue) → read bytes ≡ taken s → (reply_of r ≡ taken (answer s [])) × FollowsIn s [] b
  pub stored : (s : SheetValue) → read bytes ≡ taken s → AsStored b

-- ---- observing

-- what a call is taken for: 11: no monitor within its limits; 12 to 15 as reading gives them; then 16, then 19
unfoldable pub observes_in : List ℕ → List ℕ → Outcome Instant
observes_in w bytes = cond (is_state w) (observes (state_monitor w) bytes) (refused 11)

-- refused, the number, and every word as it was; accepted, as a monitor that is a struct accepts it, and if each word was as it is stored, it still is; beside either the instants then held
pub record ObservedIn (bytes : List ℕ) (r : Replied) (a b : List ℕ) : Type 0 where
  pub refuses : (n : ℕ) → observes_in a bytes ≡ refused n → (reply_of r.reply ≡ refused n) × (b ≡ a)
  pub accepts : (i : Instant) → observes_in a bytes ≡ taken i → (is_state b ≡ true) × Accepted (state_monitor a) i (given r.reply (state_monitor b))
  pub instants : r.instants ≡ instants_in b
  pub stored : (i : Instant) → observes_in a bytes ≡ taken i → AsStored a → AsStored b

-- ---- the last answer

-- 11, or what those held say
pub record SaidIn (r : Replied) (w : List ℕ) : Type 0 where
  pub outside : state_within w ≡ false → reply_of r.reply ≡ refused 11
  pub inside : state_within w ≡ true → reply_of r.reply ≡ taken (said_by (held_by (state_monitor w)))
  pub instants : r.instants ≡ instants_in w

-- ---- the monitor as a struct

-- 11 and no monitor; or the last answer, and a struct within its limits: its sheet, its instants, its last tags and how many it holds are those of the words, its remainders are those that they hold, and it follows whatever they follow
-- where each word is as it is stored, the struct keeps nothing in unused places
pub record GivenIn (r : CallResult Refusal) (w : List ℕ) : Type 0 where
  pub outside : state_within w ≡ false → Refuses 11 no_monitor r
  pub inside : state_within w ≡ true → (reply_of r.reply ≡ taken (said_by (held_by (state_monitor w)))) × (monitor_within r.monitor ≡ true)
  pub monitor : state_within w ≡ true → r.monitor ≡ read_back (state_sheet w) (state_progress w) r.monitor.held.remainders
  pub held : state_within w ≡ true → held_by r.monitor ≡ held_by (state_monitor w)
  pub unused : state_within w ≡ true → AsStored w → KeepsNothing r.monitor
  pub follows : (s : SheetValue) (run : List Instant) → FollowsIn s run w → Follows s run r.monitor

-- ---- demands 2 and 3: each hypothesis is what a call ensures

-- refused, there is no monitor to call
abbrev pub opened_as : Outcome Answer → List ℕ → Outcome (machine.OpenedMonitor (List ℕ))
opened_as (taken a) w = taken (record { said = a; monitor = w })
opened_as (refused n) w = refused n

-- from any words
abbrev pub OpensIn : Reader → List ℕ → Outcome (machine.OpenedMonitor (List ℕ)) → Type 0
OpensIn read sheet outcome = (r : Result code.Answer Refusal) × (a : List ℕ) × (b : List ℕ) × OpenedIn read sheet r a b × (opened_as (reply_of r) b ≡ outcome)

abbrev pub ObservesIn : List ℕ → List ℕ → Outcome Answer → List ℕ → Type 0
ObservesIn a bytes said b = (r : Replied) × ObservedIn bytes r a b × (reply_of r.reply ≡ said)

-- for every sheet's bytes and every list of calls' bytes, each call getting the words that the call before left, what was answered is what the plain machine answers, and the last words follow the machine's list
abbrev pub Demand3In : Reader → Type 0
Demand3In read = (sheet : List ℕ) (calls : List (List ℕ)) (answered : Session) (last : Option (List ℕ))
    → Ran (OpensIn read) ObservesIn sheet calls answered last → SameSession read FollowsIn sheet calls answered last

-- in document 01's words
abbrev pub Demand3SaidIn : Reader → Type 0
Demand3SaidIn read = (sheet : List ℕ) (calls : List (List ℕ)) (answered : Session) (last : Option (List ℕ))
    → Ran (OpensIn read) ObservesIn sheet calls answered last → EachAnswer (Said most_live) read sheet calls answered

-- each answer short of exhausted whose instants have no unseen tick is as TESL judges them
abbrev pub Demand2In : Reader → Type 0
Demand2In read = (sheet : List ℕ) (calls : List (List ℕ)) (answered : Session) (last : Option (List ℕ))
    → Ran (OpensIn read) ObservesIn sheet calls answered last → EachAnswer SeenJudged read sheet calls answered

-- calls of which each that was accepted was handed a record of `lift`, numbered from 1: the run is a beginning of `lift`, and the last words follow it
abbrev pub NumberedRunIn : Reader → Type 0
NumberedRunIn read = (lift : List Instant) (sheet : List ℕ) (calls : List (List ℕ)) (answered : Session) (last : Option (List ℕ))
    → Ran (OpensIn read) ObservesIn sheet calls answered last
    → (s : SheetValue) → read sheet ≡ taken s → AcceptedFrom lift s.clocks calls answered.replies → RunsAlong FollowsIn lift s calls last
