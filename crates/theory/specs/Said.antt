-- What is answered for a run, in document 01's words and with quantifiers: what fills a run, which fillings fit, what they leave, and the first answer that applies.
-- Nothing here is taken from the executable definitions of a run's fillings, of remainders and of `answer`. Assumes nothing.
use Rattle.std.specs.Prelude.{Bool, true, false, ◌↔◌, ◌≢◌, ◌⊎◌, ◌≡◌, ℕ, suc, ◌<◌, length}
use mathlib.Core.List.{List, [], ◌∷◌, ◌++◌, Memᴰ}
use Rattle.records.specs.declared.instant.Tick.{Tick}
use Rattle.records.specs.declared.instant.Tick.TheVariants.{Idle, Ticks, Unseen}
use Rattle.records.specs.Sheet.{SheetValue}
use Rattle.records.specs.Types.{All}
use Rattle.tesl.specs.Run.{Instant, ticks_of, tags_of, Filled}
use Rattle.tesl.specs.Fits.{most_tag, Obligation, Countdown}
use Rattle.tesl.specs.Answer.{Standing, clear, Answer, exhausted, broken, holding}
use Rattle.tesl.specs.Formula.{NoneFalls, EachHolds}
use Rattle.theory.specs.Sets.{NoTwo}
use Rattle.theory.specs.Unmet.{Unmet, Counting, Lead, Stopped, NoneOwed}

-- ---- a filling gives each unseen tick of a run the value idle or tick

module _ {A B : Type 0} where
  -- two lists are as long, and R is of the two in each place
  abbrev pub Along : (A → B → Type 0) → List A → List B → Type 0
  Along R [] [] = Unit {0}
  Along R [] (y ∷ ys) = ⊥
  Along R (x ∷ xs) [] = ⊥
  Along R (x ∷ xs) (y ∷ ys) = R x y × Along R xs ys

-- a seen tick is as seen; an unseen one is either
abbrev pub TickAs : Tick → Bool → Type 0
TickAs Idle b = b ≡ false
TickAs Ticks b = b ≡ true
TickAs Unseen b = Unit {0}

-- the instant's tags, and a tick for each of its clocks
pub record FillsInstant (i : Instant) (f : Filled) : Type 0 where
  pub tags : f.tags ≡ tags_of i
  pub ticks : Along TickAs (ticks_of i) f.ticks

-- instant by instant
abbrev pub Fills : List Instant → List Filled → Type 0
Fills run f = Along FillsInstant run f

-- a filling that fits: no tag falls and each line holds
pub record Fitting (s : SheetValue) (run : List Instant) (f : List Filled) : Type 0 where
  pub fills : Fills run f
  pub none-falls : NoneFalls s.clocks f
  pub each_holds : EachHolds s.lines f

-- ---- remainders

-- two filled runs leave the same remainder: the same unmet obligations, countdowns, leads of precedes lines and stopped clocks; of two that fit, what `same_remainder` tests: `same_left`, proofs/SameLeft.antt
pub record SameLeft (s : SheetValue) (f g : List Filled) : Type 0 where
  pub unmet : (o : Obligation) → Unmet most_tag s.lines f o ↔ Unmet most_tag s.lines g o
  pub counting : (c : Countdown) → Counting s.lines f c ↔ Counting s.lines g c
  pub leads : (A B n : ℕ) → Lead s.lines f A B n ↔ Lead s.lines g A B n
  pub stopped : (k : ℕ) → k < s.clocks → Stopped s.lines f k ↔ Stopped s.lines g k

-- n distinct remainders: n fitting fillings, no two of which leave the same
pub record Leaves (s : SheetValue) (run : List Instant) (n : ℕ) : Type 0 where
  pub these : List (List Filled)
  pub number : length these ≡ n
  pub each_fits : All (Fitting s run) these
  pub no-two : NoTwo (SameLeft s) these

-- n is the number of distinct remainders: each fitting filling leaves the same as one of n such
pub record Live (s : SheetValue) (run : List Instant) (n : ℕ) : Type 0 where
  pub distinct-left : Leaves s run n
  pub no_other : (f : List Filled) → Fitting s run f → (g : List Filled) × Memᴰ g distinct-left.these × SameLeft s f g

-- one remainder with n of a kind, here those of a filled run that `Of` tells, no two equal
pub record Having {A : Type 0} (Of : List Filled → A → Type 0) (s : SheetValue) (run : List Instant) (n : ℕ) : Type 0 where
  pub filling : List Filled
  pub fits : Fitting s run filling
  pub these : List A
  pub number : length these ≡ n
  pub each : All (Of filling) these
  pub no-two : NoTwo ◌≡◌ these

-- n obligations: a fitting filling and n of its unmet obligations; and n countdowns
abbrev pub Owing : SheetValue → List Instant → ℕ → Type 0
Owing s run n = Having (Unmet most_tag s.lines) s run n

abbrev pub CountingDown : SheetValue → List Instant → ℕ → Type 0
CountingDown s run n = Having (Counting s.lines) s run n

-- ---- the answer, the first that applies

-- more distinct remainders than there is room for, or one with more than 8 obligations or more than 8 countdowns
abbrev pub TooMany : ℕ → SheetValue → List Instant → Type 0
TooMany room s run = Leaves s run (suc room) ⊎ (Owing s run 9 ⊎ CountingDown s run 9)

-- some beginning of the run, the whole included, has too many
pub record Exhausts (room : ℕ) (s : SheetValue) (run : List Instant) : Type 0 where
  pub beginning : List Instant
  pub rest : List Instant
  pub begins : run ≡ beginning ++ rest
  pub too_many : TooMany room s beginning

-- a is the answer for the run with room for so many distinct remainders; of a run on the scale, as every run that was read is, `answer_within` is, and nothing else: `answer-said` and `said-is`, proofs/Said.antt
pub record Said (room : ℕ) (s : SheetValue) (run : List Instant) (a : Answer) : Type 0 where
  -- exhausted exactly when some beginning has too many
  pub exhausts : (a ≡ exhausted) ↔ Exhausts room s run
  -- else broken exactly when no filling fits
  pub breaks : a ≢ exhausted → (a ≡ broken) ↔ ((f : List Filled) → Fitting s run f → ⊥)
  -- else holding with the number of distinct remainders, clear exactly when one of them owes nothing
  pub holds : (live : ℕ) (standing : Standing) → a ≡ holding live standing
      → Live s run live × ((standing ≡ clear) ↔ ((f : List Filled) × Fitting s run f × NoneOwed most_tag s.lines f))
