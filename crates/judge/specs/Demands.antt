-- Demand 3, one statement about the list of calls, as the machine has it and in document 01's words; demand 2 for the program; the same sheet in another order; and numbered instants. Each hypothesis is what a call ensures;
-- `read` is how the sheet's bytes are read, by `open` as `read_sheet`, by `open_base` as `read_base`.
use mathlib.Core.List.{List, ◌∷◌, ◌++◌, Permᴰ}
use Rattle.std.proofs.Math.Option.{Option}
use Rattle.std.specs.Prelude.{◌≡◌, ℕ, take, Ok}
use Rattle.records.specs.declared.line.Line.{Line}
use Rattle.records.specs.Outcome.{Outcome, taken, refused}
use Rattle.records.specs.Sheet.{SheetValue, read_sheet, read_base}
use Rattle.records.specs.Sort.{IsIn, SortsBytes}
use Rattle.records.specs.Types.{IsBytes}
use Rattle.tesl.specs.Run.{Instant}
use Rattle.tesl.specs.Answer.{Answer, most_live}
use Rattle.tesl.specs.Machine.{Session, Reader}
use Rattle.theory.specs.Session.{Ran, SameSession, EachAnswer}
use Rattle.theory.specs.Session as machine
use Rattle.theory.specs.Said.{Said}
use Rattle.theory.specs.Seen.{SeenJudged}
use Rattle.theory.specs.SameLines.{SameClocksAndLines}
use Rattle.theory.specs.Numbered.{AcceptedFrom, RunsAlong}
use Rattle.judge.specs.declared.monitor.Monitor.{Monitor}
use Rattle.records.specs.declared.refusal.Refusal.{Refusal}
use Rattle.judge.specs.declared.monitor.CallResult.{CallResult}
use Rattle.judge.specs.Answer.{reply_of}
use Rattle.judge.specs.Promises.{Follows, Opened, Observed}

-- ---- a call and what it gave

-- refused, there is no monitor to call
abbrev pub opened_of : Outcome Answer → Monitor → Outcome (machine.OpenedMonitor Monitor)
opened_of (taken a) m = taken (record { said = a; monitor = m })
opened_of (refused n) m = refused n

abbrev pub Opens : Reader → List ℕ → Outcome (machine.OpenedMonitor Monitor) → Type 0
Opens read sheet outcome = (r : CallResult Refusal) × Opened read sheet r × (opened_of (reply_of r.reply) r.monitor ≡ outcome)

abbrev pub Observes : Monitor → List ℕ → Outcome Answer → Monitor → Type 0
Observes m bytes given after = (r : CallResult Refusal) × Observed m bytes r × (reply_of r.reply ≡ given) × (r.monitor ≡ after)

-- ---- demand 3: for every byte string handed to `open` and every list of byte strings handed to `observe`, each call getting the monitor that the call before gave back,
-- what opening and every call answered is what the plain machine answers, and the last monitor follows the machine's list
abbrev pub Demand3 : Reader → Type 0
Demand3 read = (sheet : List ℕ) (calls : List (List ℕ)) (answered : Session) (last : Option Monitor)
    → Ran (Opens read) Observes sheet calls answered last → SameSession read Follows sheet calls answered last

-- ---- demand 3 in document 01's words: each answer is what `Said` says of the accepted instants so far, with room for 32 remainders, and each refusal has its number and leaves them alone
abbrev pub Demand3Said : Reader → Type 0
Demand3Said read = (sheet : List ℕ) (calls : List (List ℕ)) (answered : Session) (last : Option Monitor)
    → Ran (Opens read) Observes sheet calls answered last → EachAnswer (Said most_live) read sheet calls answered

-- ---- demand 2: each answer short of exhausted, opening's too, whose accepted instants so far have no unseen tick, is as TESL judges them
abbrev pub Demand2 : Reader → Type 0
Demand2 read = (sheet : List ℕ) (calls : List (List ℕ)) (answered : Session) (last : Option Monitor)
    → Ran (Opens read) Observes sheet calls answered last → EachAnswer SeenJudged read sheet calls answered

-- ---- the same sheet before and after sorting (document 02, Q-4)

-- b opened in one way and c in another, each with the same calls after it: what the two monitors answered is equal, opening and every call, live, clear or owed and the numbers of refusals with it
abbrev pub AnsweredAlike : Reader → List ℕ → Reader → List ℕ → Type 0
AnsweredAlike read b again c =
    (calls : List (List ℕ)) (answered told : Session) (last end : Option Monitor)
    → Ran (Opens read) Observes b calls answered last → Ran (Opens again) Observes c calls told end → answered ≡ told

-- the theorem: so it is for all byte strings that document 01's rules read as sheets with the same clock count and the same lines, each line of one a line of the other
abbrev pub SameAnswers : Type 0
SameAnswers = (b c : List ℕ) (v w : SheetValue) → read_base b ≡ taken v → read_base c ≡ taken w → SameClocksAndLines v w → AnsweredAlike read_base b read_base c

-- for a permutation of the lines
abbrev pub PermutedAnswers : Type 0
PermutedAnswers =
    (b c : List ℕ) (v w : SheetValue) → read_base b ≡ taken v → read_base c ≡ taken w
    → v.clocks ≡ w.clocks → Permᴰ v.lines w.lines → AnsweredAlike read_base b read_base c

-- for one repeated line dropped: l, between those in front of it and the rest, stands among these too
abbrev pub DroppedAnswers : Type 0
DroppedAnswers =
    (b c : List ℕ) (v w : SheetValue) (front rest : List Line) (l : Line) → read_base b ≡ taken v → read_base c ≡ taken w
    → v.clocks ≡ w.clocks → v.lines ≡ front ++ (l ∷ rest) → w.lines ≡ front ++ rest → IsIn l (front ++ rest) → AnsweredAlike read_base b read_base c

-- for sorting: what `sort_sheet` wrote of a sheet that document 01's rules take, n bytes at the buffer's front, opened by `open`
abbrev pub SortedAnswers : Type 0
SortedAnswers =
    (b before after : List ℕ) (n : ℕ) (v : SheetValue) → IsBytes b → read_base b ≡ taken v → SortsBytes b before (Ok n) after
    → AnsweredAlike read_base b read_sheet (take n after)

-- ---- numbered instants (document 02, Q-5)

-- for every list of instants `lift` and every list of calls of which each that was accepted was handed bytes that are read as kind 33, with the number k + 1 and the ticks and tags of lift[k], for some k of its own:
-- the run is a beginning of `lift`, and the last monitor follows it, whatever was dropped, repeated or reordered on the way, and whatever bytes the refused calls were handed
abbrev pub NumberedRun : Reader → Type 0
NumberedRun read = (lift : List Instant) (sheet : List ℕ) (calls : List (List ℕ)) (answered : Session) (last : Option Monitor)
    → Ran (Opens read) Observes sheet calls answered last
    → (s : SheetValue) → read sheet ≡ taken s → AcceptedFrom lift s.clocks calls answered.replies → RunsAlong Follows lift s calls last
