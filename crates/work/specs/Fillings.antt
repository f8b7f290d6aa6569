-- The fillings of an instant, one after the other, and the flags that list them.
use Rattle.std.specs.Prelude.{Bool, true, false, List, [], ◌∷◌, ◌++◌, ℕ, ◌+◌, ◌*◌, ℤ, get_or, set}
use Rattle.std.proofs.Math.Option.{Option}
use Rattle.records.specs.declared.instant.Tick.{Tick}
use Rattle.records.specs.declared.instant.Tick.TheVariants.{Idle, Ticks, Unseen}
use Rattle.records.specs.Lists.{listed}
use Rattle.records.specs.Sheet.{SheetValue}
use Rattle.tesl.specs.Fits.{most_tag}
use Rattle.tesl.specs.Remainder.{Remainder}
use Rattle.work.specs.View.{filled_of}
use Rattle.work.specs.Owed.{begun_by}
use Rattle.work.specs.Work.{all_advanced}

-- the fillings of the clocks from k on, idle before tick
abbrev pub fillings_from : ℕ → List Tick → List Bool → List (List Bool)
fillings_from k [] ticks = ticks ∷ []
fillings_from k (Idle ∷ left) ticks = fillings_from (k + 1) left ticks
fillings_from k (Ticks ∷ left) ticks = fillings_from (k + 1) left (set ticks k true)
fillings_from k (Unseen ∷ left) ticks = fillings_from (k + 1) left ticks ++ fillings_from (k + 1) left (set ticks k true)

-- fillings of eight clocks at most, and their flags
abbrev pub most_fillings : ℕ
most_fillings = 256

abbrev pub list_size : ℕ
list_size = 2048

-- eight flags of a list, those of place i
abbrev pub flags_in : List Bool → ℕ → List Bool
flags_in flags i = listed (λ k. get_or flags (8 * i + k) false) 8

-- the first n fillings that a list of flags has, eight to a filling
abbrev pub fillings_in : List Bool → ℕ → List (List Bool)
fillings_in list n = listed (flags_in list) n

-- g takes each
abbrev pub taken_by : {R : Type 0} → (R → List Bool → R) → List (List Bool) → R → R
taken_by g [] r = r
taken_by g (ticks ∷ more) r = taken_by g more (g r ticks)

-- each of rs goes on by a filling that the rules allow
abbrev pub by_filling : ℕ → SheetValue → List ℤ → List Remainder → Option (List Remainder) → List Bool → Option (List Remainder)
by_filling room v tags rs found ticks = all_advanced room v (filled_of ticks tags) (begun_by most_tag v.lines (filled_of ticks tags)) rs found
