-- A monitor found in a state of words, and one stored there after an instant: what the inner functions of the calls on a state promise.
use Rattle.std.specs.Prelude.{true, false, List, ◌≡◌, ℕ, ◌+◌, ◌-◌, ◌≤◌, ◌<◌, pos, length, get_or, Option, MatchOption}
use Rattle.records.specs.Sheet.{SheetValue}
use Rattle.records.specs.Word.{raw_of}
use Rattle.tesl.specs.Answer.{most_live}
use Rattle.judge.specs.declared.progress.Progress.{Progress}
use Rattle.lines.specs.declared.plan.Plan.{Plan}
use Rattle.lent.specs.declared.live.FoundState.{FoundState}
use Rattle.remainders.specs.View.{live_count}
use Rattle.lines.specs.Plan.{Planned}
use Rattle.remainders.specs.Rows.{all_words, head_rows, width, sides, word, RowsStay}
use Rattle.step.specs.Apply.{Side, found_in, FewOwedIn}
use Rattle.step.specs.Fill.{worked_rows}
use Rattle.lent.specs.UnusedWords.{NothingElse, NothingBeside}
use Rattle.lent.specs.Cleared.{StopsStay}
use Rattle.judge.specs.Progress.{Ready}
use Rattle.lent.specs.State.{is_state, state_sheet, state_progress}
use Rattle.lent.specs.Live.{state_within}

-- what is found out about a monitor within its limits, once
pub record FoundOne (w : List ℕ) (f : FoundState) (lines : List ℕ) : Type 0 where
  -- an array has as many words as its type says
  pub size : length w ≡ all_words
  pub within : state_within w ≡ true
  pub progress : f.progress ≡ state_progress w
  pub ready : Ready (state_sheet w) (state_progress w) f.plan lines w

-- one is found exactly where the words are a monitor within its limits
abbrev pub FoundIn : List ℕ → Option FoundState → List ℕ → Type 0
FoundIn w found lines = MatchOption found (state_within w ≡ false) (λ f. FoundOne w f lines)

-- ---- after an accepted instant

-- those held before it, kept by k, on one side; those found on the other, to be kept by next
pub record KeepingNext (rows : List ℕ) (k next : Progress) : Type 0 where
  pub size : length rows ≡ all_words
  pub side : Side k.from
  pub to : next.from ≡ sides - k.from
  pub held : live_count k.count ≤ most_live
  pub small : FewOwedIn next.count rows next.from
  pub instants : next.instants ≤ 4000

-- next is kept, and those found are as before, for every sheet that the plan is of; of the head only the monitor beside its sheet changes
pub record KeptNext (p : Plan) (k next : Progress) (a b : List ℕ) : Type 0 where
  pub head : (h q : ℕ) → h < head_rows → q < width → (h ≡ 0 → 3 ≤ q → q < 16 → ⊥) → word b h q ≡ word a h q
  pub state : is_state a ≡ true → is_state b ≡ true
  pub sheet : state_sheet b ≡ state_sheet a
  pub progress : state_progress b ≡ next
  pub gap : word b 0 7 ≡ word a 0 7
  pub live : word b 0 6 ≡ live_count next.count
  pub raw : (j : ℕ) → j < 8 → word b 0 (8 + j) ≡ raw_of (get_or next.tags j (pos 0))
  pub small : FewOwedIn next.count b next.from
  pub found : (v : SheetValue) (lines : List ℕ) → Planned v p lines → found_in v next.count b next.from ≡ found_in v next.count a next.from
  pub stops : (j : ℕ) → j < live_count next.count → StopsStay p (next.from + j) a b
  -- nothing is beside them, if nothing was beside those held before the instant, in the words `before`
  pub nothing : (before : List ℕ) → NothingElse k.count k.from before → RowsStay (sides - k.from) (worked_rows k.count next.count) before a → NothingBeside p next.count next.from b
