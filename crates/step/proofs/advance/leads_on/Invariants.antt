-- The first k leads after the instant are stored.
use Rattle.std.proofs.Common.{◌≡◌, ℕ, List, ◌+◌, ◌-◌, ◌<◌, get_or}
use Rattle.remainders.specs.Word.{half_values}
use Rattle.remainders.specs.Rows.{leads_part, stopped_part, row_lead}
use Rattle.remainders.proofs.rows.Storing.{Storing}
use Rattle.step.proofs.advance.leads_on.Given as goal

abbrev pub After : List ℕ → List ℕ → List ℕ → ℕ → ℕ → ℕ → Type 0
After rows gains losses i k w = row_lead rows i k < half_values → w ≡ row_lead rows i k + get_or gains k 0 - get_or losses k 0

abbrev pub invariant-loop-k : goal.invariant-loop-k
invariant-loop-k l = Storing (After l.initial.rows l.gains l.losses l.i) l.to leads_part stopped_part l.initial.rows l.rows l.k
