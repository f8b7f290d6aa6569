-- What a filling has lines begin, as it is stored, and what it asks of their leads and makes of them.
use Rattle.std.specs.Prelude.{List, [], ◌∷◌, map, Bool, true, cond, ◌&&◌, ◌≡◌, ℕ, ◌+◌, ◌≤◌, ◌<◌, eqb, ℤ, pos, ◌+ℤ◌, get_or, drop, take, Option, None, Some}
use Rattle.std.specs.Int.Signed.{le_z}
use Rattle.records.specs.declared.line.Line.{Line}
use Rattle.records.specs.Line.{of_delayed, of_counted}
use Rattle.tesl.specs.Lists.{flat_map}
use Rattle.tesl.specs.Run.{tag_in}
use Rattle.tesl.specs.Fits.{owed_from}
use Rattle.theory.specs.Adding.{once_each}
use Rattle.work.specs.View.{filled_of}
use Rattle.work.specs.Questions.{tick_in}
use Rattle.work.specs.Carried.{need_of, gain_of, loss_of}
use Rattle.work.specs.Parts.{is_delay}
use Rattle.remainders.specs.declared.obligation.Obligation as code
use Rattle.remainders.specs.Word.{due_number}
use Rattle.remainders.specs.View.{obligation_of, same_stored}
use Rattle.lines.specs.Plan.{delays_from, counted_rows, plan_line, plan_lines}

-- ---- what lines begin, as it is stored

-- what a line begins, as the list of it
abbrev pub new_obligation : Option code.Obligation → List code.Obligation
new_obligation None = []
new_obligation (Some o) = o ∷ []

-- of a counted line, where its A ticks or not
abbrev pub count_stored : Bool → ℕ → ℕ → ℕ → List code.Obligation
count_stored ticks B D n = cond ticks (cond (eqb n 0) [] (record { clock = D; on = B; number = n } ∷ [])) []

-- of any line; of a delay line unless its due would exceed the end of the scale, `most`
abbrev pub stored_by : ℤ → List Bool → List ℤ → Line → List code.Obligation
stored_by most ticks tags l =
    of_delayed (of_counted [] (λ A B D n. count_stored (tick_in ticks A) B D n) l)
    (λ A B D d. cond (tick_in ticks A && le_z (tag_in tags B +ℤ pos d) most) (record { clock = D; on = B; number = due_number (tag_in tags B +ℤ pos d) } ∷ []) []) l

-- what a delay line begins, as it is owed
abbrev pub ReadsOwed : ℤ → List Bool → List ℤ → Line → Type 0
ReadsOwed most ticks tags l = is_delay l ≡ true → map obligation_of (stored_by most ticks tags l) ≡ owed_from most (filled_of ticks tags) l

-- what one line begins
pub record LineBegins (most : ℤ) (ticks : List Bool) (tags : List ℤ) (l : Line) (os : List code.Obligation) : Type 0 where
  pub stored : os ≡ stored_by most ticks tags l
  pub owed : ReadsOwed most ticks tags l

-- what n lines of the plan from row `from` on begin, each once
abbrev pub stored_once : ℤ → List Bool → List ℤ → List ℕ → ℕ → ℕ → List code.Obligation
stored_once most ticks tags lines from n = once_each same_stored (flat_map (stored_by most ticks tags) (plan_lines lines from n))

-- what n lines of the plan from row `from` on begin, behind the `first` that stood in `was`
pub record PartBegins (most : ℤ) (lines : List ℕ) (from n : ℕ) (ticks : List Bool) (tags : List ℤ) (first count : ℕ) (was begun : List code.Obligation) : Type 0 where
  pub ordered : first ≤ count
  pub few : count ≤ first + n
  pub kept : take first begun ≡ take first was
  pub part : drop first (take count begun) ≡ stored_once most ticks tags lines from n
  pub reads : (j : ℕ) → j < n → ReadsOwed most ticks tags (plan_line lines (from + j))

-- what the delay lines begin, and behind it what the counted lines do
pub record LinesBegin (most : ℤ) (lines : List ℕ) (delays counted : ℕ) (ticks : List Bool) (tags : List ℤ) (owed count : ℕ) (begun : List code.Obligation) : Type 0 where
  pub ordered : owed ≤ count
  pub few : count ≤ 16
  pub obligations : take owed begun ≡ stored_once most ticks tags lines delays_from delays
  pub countdowns : drop owed (take count begun) ≡ stored_once most ticks tags lines counted_rows counted
  pub reads : (j : ℕ) → j < delays → ReadsOwed most ticks tags (plan_line lines (delays_from + j))

-- ---- leads

-- what a line needs, gains and loses, and what the first lines do
pub record AskedLead (ticks : List Bool) (l : Line) (need gain loss : ℕ) : Type 0 where
  pub needed : need ≡ need_of ticks l
  pub gained : gain ≡ gain_of ticks l
  pub lost : loss ≡ loss_of ticks l

pub record LeadChangesOf (lines : List ℕ) (leaders : ℕ) (ticks : List Bool) (needs gains losses : List ℕ) : Type 0 where
  pub needed : (k : ℕ) → k < leaders → get_or needs k 0 ≡ need_of ticks (plan_line lines k)
  pub gained : (k : ℕ) → k < leaders → get_or gains k 0 ≡ gain_of ticks (plan_line lines k)
  pub lost : (k : ℕ) → k < leaders → get_or losses k 0 ≡ loss_of ticks (plan_line lines k)
