-- What the plain machine answers for its list of accepted instants: the first that applies.
use Rattle.std.specs.Prelude.{Bool, cond, ◌||◌, List, [], ◌∷◌, map, ℕ, ltb, length}
use Rattle.records.specs.Sheet.{SheetValue}
use Rattle.tesl.specs.Lists.{any, filter, distinct, beginnings}
use Rattle.tesl.specs.Run.{Instant, run_fillings}
use Rattle.tesl.specs.Fits.{fits}
use Rattle.tesl.specs.Remainder.{Remainder, remainder, same_remainder, overfull, is_clear}

-- clear: some remainder has neither an obligation nor a countdown; else owed
pub data Standing : Type 0 where
  clear owed : Standing

pub data Answer : Type 0 where
  exhausted : Answer
  broken : Answer
  holding : (live : ℕ) (standing : Standing) → Answer

-- the distinct remainders of the fitting fillings; live is their number
unfoldable pub remainders : SheetValue → List Instant → List Remainder
remainders s run = distinct same_remainder (map (remainder s) (filter (fits s) (run_fillings run)))

-- more distinct remainders than there is room for, or one with more than 8 obligations or more than 8 countdowns
unfoldable pub too_many : ℕ → List Remainder → Bool
too_many room rs = ltb room (length rs) || any overfull rs

-- some beginning of the list, the whole included, has too many
unfoldable pub over : ℕ → SheetValue → List Instant → Bool
over room s run = any (λ (b : List Instant). too_many room (remainders s b)) (beginnings run)

abbrev pub standing : List Remainder → Standing
standing rs = cond (any is_clear rs) clear owed

-- broken, if no filling fits; else holding
unfoldable pub judged : List Remainder → Answer
judged [] = broken
judged (r ∷ rs) = holding (length (r ∷ rs)) (standing (r ∷ rs))

-- exhausted, if it was ever over; else broken or holding
abbrev pub verdict : Bool → List Remainder → Answer
verdict over rs = cond over exhausted (judged rs)

-- what is answered with room for so many
unfoldable pub answer_within : ℕ → SheetValue → List Instant → Answer
answer_within room s run = verdict (over room s run) (remainders s run)

-- there is room for 32
abbrev pub most_live : ℕ
most_live = 32

abbrev pub answer : SheetValue → List Instant → Answer
answer s run = answer_within most_live s run
