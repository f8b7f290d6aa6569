-- The run of a monitor of any kind: it is opened with a sheet's bytes and called with a list of instants' bytes; what it means that its single calls follow the plain machine; and that each answer has a property. Assumes nothing.
use Rattle.std.specs.Prelude.{List, [], ◌∷◌, ◌++◌, ◌≡◌, ℕ}
use Rattle.std.proofs.Math.Option.{Option, none, some}
use Rattle.records.specs.Outcome.{Outcome, taken, refused}
use Rattle.records.specs.Sheet.{SheetValue}
use Rattle.tesl.specs.Run.{Instant}
use Rattle.tesl.specs.Answer.{Answer, answer}
use Rattle.tesl.specs.Machine.{Session, Reader, session, accepts, list_after, reply, list_after_calls}

-- what opening gives unless it refuses: an answer and a monitor
pub record OpenedMonitor (M : Type 0) : Type 0 where
  pub said : Answer
  pub monitor : M

-- ---- a run; `Opens sheet outcome`: opening with these bytes had that outcome; `Observes m bytes given m'`: the call from m with these bytes replied so and left m'

-- a list of calls from m, the replies, and the monitor after it
pub data Calls {M : Type 0} (Observes : M → List ℕ → Outcome Answer → M → Type 0) : M → List (List ℕ) → List (Outcome Answer) → M → Type 0 where
  no_call : {m : M} → Calls Observes m [] [] m
  call : {m m' last : M} {bytes : List ℕ} {given : Outcome Answer} {calls : List (List ℕ)} {replies : List (Outcome Answer)}
      → Observes m bytes given m' → Calls Observes m' calls replies last → Calls Observes m (bytes ∷ calls) (given ∷ replies) last

-- an opening and the calls after it, what was answered, and the last monitor; opening refused yields no monitor to call
pub data Ran {M : Type 0} (Opens : List ℕ → Outcome (OpenedMonitor M) → Type 0) (Observes : M → List ℕ → Outcome Answer → M → Type 0)
    : List ℕ → List (List ℕ) → Session → Option M → Type 0 where
  not_opened : {sheet : List ℕ} {calls : List (List ℕ)} {n : ℕ} → Opens sheet (refused n) → Ran Opens Observes sheet calls (record { opening = refused n; replies = [] }) none
  opened : {sheet : List ℕ} {calls : List (List ℕ)} {o : OpenedMonitor M} {replies : List (Outcome Answer)} {last : M}
      → Opens sheet (taken o) → Calls Observes o.monitor calls replies last → Ran Opens Observes sheet calls (record { opening = taken o.said; replies = replies }) (some last)

-- ---- single calls and the whole run, whatever reads a sheet's bytes; `Follows s run m`: m is a monitor of the sheet s after the instants run

-- a call from a monitor that follows s and run: the machine's reply, and a monitor that follows the machine's list after it
pub record Observing {M : Type 0} (Follows : SheetValue → List Instant → M → Type 0) (s : SheetValue) (run : List Instant) (bytes : List ℕ) (given : Outcome Answer) (m' : M)
    : Type 0 where
  pub same : given ≡ reply s run (accepts s run bytes)
  pub follows : Follows s (list_after run (accepts s run bytes)) m'

module _ {M : Type 0} (read : Reader) (Follows : SheetValue → List Instant → M → Type 0) where
  -- opening: the machine's number, or its answer and a monitor that follows the sheet with no instant
  pub data Opening (sheet : List ℕ) : Outcome (OpenedMonitor M) → Type 0 where
    refuses : {n : ℕ} → read sheet ≡ refused n → Opening sheet (refused n)
    opens : {s : SheetValue} {o : OpenedMonitor M} → read sheet ≡ taken s → o.said ≡ answer s [] → Follows s [] o.monitor → Opening sheet (taken o)

  -- the whole run: what was answered is the machine's session; where the sheet is read, there is a last monitor and it follows the machine's list
  pub record SameSession (sheet : List ℕ) (calls : List (List ℕ)) (answered : Session) (last : Option M) : Type 0 where
    pub same : answered ≡ session read sheet calls
    pub follows : (s : SheetValue) → read sheet ≡ taken s → (m : M) × (last ≡ some m) × Follows s (list_after_calls s [] calls) m

-- each single call follows the machine
pub record FollowsMachine {M : Type 0} (read : Reader) (Opens : List ℕ → Outcome (OpenedMonitor M) → Type 0) (Observes : M → List ℕ → Outcome Answer → M → Type 0)
    (Follows : SheetValue → List Instant → M → Type 0) : Type 0 where
  pub opening : (sheet : List ℕ) (outcome : Outcome (OpenedMonitor M)) → Opens sheet outcome → Opening read Follows sheet outcome
  pub observing : (s : SheetValue) (run : List Instant) (m m' : M) (bytes : List ℕ) (given : Outcome Answer)
      → Follows s run m → Observes m bytes given m' → Observing Follows s run bytes given m'

-- ---- each answer; `P s run a` is asked of the answer a for the sheet s and the accepted instants run

-- the answer of the last accepted call, or a where there is none
abbrev pub last_answer : Answer → List (Outcome Answer) → Answer
last_answer a [] = a
last_answer a (taken b ∷ replies) = last_answer b replies
last_answer a (refused n ∷ replies) = last_answer a replies

module _ (P : SheetValue → List Instant → Answer → Type 0) where
  -- the reply to a call, by what its bytes are taken for: the number of the refusal, or an answer for the run with the instant at its end
  abbrev pub ReplyTo : SheetValue → List Instant → Outcome Instant → Outcome Answer → Type 0
  ReplyTo s run (refused n) given = given ≡ refused n
  ReplyTo s run (taken i) given = (a : Answer) × (given ≡ taken a) × P s (run ++ (i ∷ [])) a

  -- one reply to each call; the run grows by each accepted instant, and a refused call leaves it alone
  abbrev pub EachReply : SheetValue → List Instant → List (List ℕ) → List (Outcome Answer) → Type 0
  EachReply s run [] [] = Unit {0}
  EachReply s run [] (given ∷ replies) = ⊥
  EachReply s run (bytes ∷ calls) [] = ⊥
  EachReply s run (bytes ∷ calls) (given ∷ replies) =
      ReplyTo s run (accepts s run bytes) given × EachReply s (list_after run (accepts s run bytes)) calls replies

  -- the sheet is read as s: opening answers for no instant, each call for the instants accepted so far, and the last answer is for all of them
  pub record Answered (s : SheetValue) (calls : List (List ℕ)) (answered : Session) : Type 0 where
    pub first : Answer
    pub opening : (answered.opening ≡ taken first) × P s [] first
    pub replies : EachReply s [] calls answered.replies
    pub last : P s (list_after_calls s [] calls) (last_answer first answered.replies)

  -- the sheet is refused: its number, and nothing is called
  pub record EachAnswer (read : Reader) (sheet : List ℕ) (calls : List (List ℕ)) (answered : Session) : Type 0 where
    pub refuses : (n : ℕ) → read sheet ≡ refused n → answered ≡ record { opening = refused n; replies = [] }
    pub reads : (s : SheetValue) → read sheet ≡ taken s → Answered s calls answered
