-- What all lines of a sheet make of what is carried.
use Rattle.std.specs.Prelude.{Bool, List, [], ◌∷◌, ℕ, ltb, get_or}
use Rattle.tesl.specs.Lists.{all}
use Rattle.tesl.specs.Remainder.{Remainder}
use Rattle.records.specs.declared.line.Line.{Line}
use Rattle.work.specs.Questions.{stopped_after}

-- line i's lead
abbrev pub lead_in : List ℕ → ℕ → ℕ
lead_in leads i = get_or leads i 0

-- the stopped clocks after an instant, line by line
abbrev pub all_stopped : List Bool → List Line → List Bool → List Bool
all_stopped ticks [] stopped = stopped
all_stopped ticks (l ∷ ls) stopped = all_stopped ticks ls (stopped_after ticks l stopped)

-- leads that one more tick leaves in 16 bits
abbrev pub small_leads : Remainder → Bool
small_leads r = all (λ (n : ℕ). ltb n 65535) r.leads
