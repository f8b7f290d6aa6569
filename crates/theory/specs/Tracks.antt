-- What a monitor keeps of a run, when that is right, and what observing may find: in any order of work, a reason to answer exhausted, or every successor. Assumes nothing.
use Rattle.std.specs.Prelude.{not, List, ◌≢◌, ◌≡◌, ℕ, suc, ◌≤◌, ◌<◌, T, ℤ, length}
use Rattle.std.proofs.Math.Option.{Option, some}
use Rattle.records.specs.Sheet.{SheetValue}
use Rattle.tesl.specs.Lists.{any}
use Rattle.tesl.specs.Run.{Instant, tags_of}
use Rattle.tesl.specs.Remainder.{Remainder, same_remainder, overfull}
use Rattle.tesl.specs.Answer.{Answer, exhausted, judged, answer_within}
use Rattle.theory.specs.Sets.{apart, Covers, EachOnce}
use Rattle.theory.specs.Step.{last_tags_of}
use Rattle.theory.specs.Held.{Held, successors}

-- of the instants only their number, the last tags and the last answer; and the remainders
pub record State : Type 0 where
  pub instants : ℕ
  pub last : Option (List ℤ)
  pub said : Answer
  pub live : List Remainder

-- the state is one after the run, with room for so many remainders; once exhausted, its remainders are free
pub record Tracks (room : ℕ) (s : SheetValue) (run : List Instant) (m : State) : Type 0 where
  pub instants : m.instants ≡ length run
  pub last : m.last ≡ last_tags_of run
  pub said : m.said ≡ answer_within room s run
  pub live : m.said ≢ exhausted → Held s run m.live

-- the state after the instant i, with this answer and these remainders
abbrev pub state_after : State → Instant → Answer → List Remainder → State
state_after m i said live = record { instants = suc m.instants; last = some (tags_of i); said = said; live = live }

-- what observing i found of the held ones rs: the answer, and the new ones to hold
pub data Finding (room : ℕ) (s : SheetValue) (last : Option (List ℤ)) (i : Instant) (rs : List Remainder) : Answer → List Remainder → Type 0 where
  -- more distinct ones than there is room for among the successors
  many : {new : List Remainder} (among : List Remainder) → T (apart same_remainder among) → Covers same_remainder among (successors s last i rs) → room < length among
      → Finding room s last i rs exhausted new
  -- as many distinct ones as there is room for among the successors, and one that is none of them
  one_more : {new : List Remainder} (among : List Remainder) → T (apart same_remainder among) → Covers same_remainder among (successors s last i rs) → room ≤ length among
      → (x : Remainder) → T (any (same_remainder x) (successors s last i rs)) → T (not (any (same_remainder x) among)) → Finding room s last i rs exhausted new
  -- one with more than eight obligations or countdowns among the successors
  too-full : {new : List Remainder} (x : Remainder) → T (any (same_remainder x) (successors s last i rs)) → T (overfull x) → Finding room s last i rs exhausted new
  -- every successor once, at most as many as there is room for, with at most eight obligations and eight countdowns each
  every : {new : List Remainder} → EachOnce same_remainder new (successors s last i rs) → length new ≤ room → T (not (any overfull new))
      → Finding room s last i rs (judged new) new
