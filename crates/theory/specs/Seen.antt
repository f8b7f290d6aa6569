-- Runs whose ticks were all seen, their one filling, and what is answered for them. Assumes nothing.
use Rattle.std.specs.Prelude.{Bool, true, false, List, map, ◌↔◌, ◌≢◌, ◌≡◌, T}
use Rattle.records.specs.declared.instant.Tick.{Tick}
use Rattle.records.specs.declared.instant.Tick.TheVariants.{Idle, Ticks, Unseen}
use Rattle.records.specs.Sheet.{SheetValue}
use Rattle.tesl.specs.Lists.{all}
use Rattle.tesl.specs.Run.{Instant, ticks_of, tags_of, Filled}
use Rattle.tesl.specs.Fits.{most_tag}
use Rattle.tesl.specs.Answer.{Standing, clear, Answer, exhausted, broken, holding}
use Rattle.tesl.specs.Formula.{NoneFalls, EachHolds}
use Rattle.theory.specs.Unmet.{NoneOwed}

abbrev pub is_seen : Tick → Bool
is_seen Idle = true
is_seen Ticks = true
is_seen Unseen = false

-- no tick of the run is unseen
abbrev pub Seen : List Instant → Type 0
Seen run = T (all (λ (i : Instant). all is_seen (ticks_of i)) run)

-- the ticks as they were seen
abbrev pub ticked : Tick → Bool
ticked Idle = false
ticked Ticks = true
ticked Unseen = false

abbrev pub seen_run : List Instant → List Filled
seen_run run = map (λ (i : Instant). record { ticks = map ticked (ticks_of i); tags = tags_of i }) run

-- an answer short of exhausted, as TESL judges the run
pub record JudgedAs (s : SheetValue) (run : List Instant) (a : Answer) : Type 0 where
  -- broken exactly when a tag falls or a line does not hold
  pub breaks : (a ≡ broken) ↔ (NoneFalls s.clocks (seen_run run) × EachHolds s.lines (seen_run run) → ⊥)
  -- else holding with live 1, clear exactly when nothing is owed
  pub else-holds : a ≢ broken → (standing : Standing) × (a ≡ holding 1 standing) × ((standing ≡ clear) ↔ NoneOwed most_tag s.lines (seen_run run))

-- demand 2 of one answer
abbrev pub SeenJudged : SheetValue → List Instant → Answer → Type 0
SeenJudged s run a = Seen run → a ≢ exhausted → JudgedAs s run a
