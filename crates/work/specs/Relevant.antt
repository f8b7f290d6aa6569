-- The ticks of an instant that its work asks about: those of the clocks that a line, an obligation held or a countdown held names. An unseen tick of another clock counts as idle.
use Rattle.std.specs.Prelude.{Bool, true, false, List, [], ◌∷◌, ◌++◌, map, ℕ, ◌+◌, get_or, set, replicate, drop}
use Rattle.records.specs.declared.line.Line.{Line}
use Rattle.records.specs.declared.line.Line.TheVariants.{Sporadic, Relation, Implies, Excludes, Delayed, Weakly, Strictly, Kills, Counted}
use Rattle.records.specs.declared.instant.Tick.{Tick}
use Rattle.records.specs.declared.instant.Tick.TheVariants.{Idle, Ticks, Unseen}
use Rattle.tesl.specs.Lists.{flat_map}
use Rattle.tesl.specs.Fits.{Obligation, Countdown}
use Rattle.tesl.specs.Remainder.{Remainder}
use Rattle.work.specs.View.{seen_of}
use Rattle.work.specs.Fillings.{fillings_from}

-- the clocks whose ticks a line asks about; a sporadic or delayed line asks for a tick by an obligation, a counted line by a countdown
abbrev pub named_by : Line → List ℕ
named_by (Implies A B) = A ∷ B ∷ []
named_by (Excludes A B) = A ∷ B ∷ []
named_by (Weakly A B) = A ∷ B ∷ []
named_by (Strictly A B) = A ∷ B ∷ []
named_by (Kills A B) = A ∷ B ∷ []
named_by (Delayed A B D d) = A ∷ []
named_by (Counted A B D n) = A ∷ []
named_by (Sporadic A B t) = []
named_by (Relation A B p q) = []

-- the clocks that a remainder owes a tick of, and those that its countdowns are on
abbrev pub count_clocks : Countdown → List ℕ
count_clocks c = c.clock ∷ c.on ∷ []

abbrev pub awaited_clocks : Remainder → List ℕ
awaited_clocks r = map (λ (o : Obligation). o.clock) r.owed ++ flat_map count_clocks r.countdowns

-- a flag for each clock of a list besides
abbrev pub flagged : List ℕ → List Bool → List Bool
flagged [] flags = flags
flagged (k ∷ ks) flags = flagged ks (set flags k true)

-- clock k has a flag, by the lines or by what is owed
abbrev pub is_relevant : List Line → List ℕ → ℕ → Bool
is_relevant ls owed k = get_or (flagged owed (flagged (flat_map named_by ls) (replicate 8 false))) k true

-- ---- ticks

abbrev pub tick_if_relevant : Bool → Tick → Tick
tick_if_relevant true t = t
tick_if_relevant false Idle = Idle
tick_if_relevant false Ticks = Ticks
tick_if_relevant false Unseen = Idle

-- the ticks of the clocks from k on
abbrev pub relevant_only : (ℕ → Bool) → ℕ → List Tick → List Tick
relevant_only p k [] = []
relevant_only p k (t ∷ left) = tick_if_relevant (p k) t ∷ relevant_only p (k + 1) left

-- of the clocks from k on; an unseen tick of a clock without a flag counts as idle
abbrev pub fillings_left : List Bool → List Tick → ℕ → ℕ → List Bool → List (List Bool)
fillings_left flags seen clocks k ticks = fillings_from k (relevant_only (λ j. get_or flags j true) k (drop k (seen_of clocks seen))) ticks
