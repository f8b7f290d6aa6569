-- What a buffer holds after writing.
use Rattle.std.specs.Prelude.{ℕ, ◌+◌, List, [], ◌∷◌, ◌++◌, length, drop, set, Result}
use Rattle.records.specs.declared.refusal.Refusal.{Refusal}
use Rattle.records.specs.Outcome.{Outcome, taken, refused, outcome_of}

-- a writer's answer, how many bytes it wrote or the paper's number, and the whole buffer afterwards
pub record Wrote : Type 0 where
  pub answer : Outcome ℕ
  pub buffer : List ℕ

abbrev pub wrote : Result ℕ Refusal → List ℕ → Wrote
wrote result buffer = record { answer = outcome_of result; buffer = buffer }

-- each case of the answer: how many bytes, which fill the front of the buffer, later ones staying;
-- or the paper's number, and no byte changed
abbrev pub leaves : List ℕ → Outcome (List ℕ) → Wrote
leaves buffer (taken bytes) = record { answer = taken (length bytes); buffer = bytes ++ drop (length bytes) buffer }
leaves buffer (refused n) = record { answer = refused n; buffer = buffer }

-- bytes stored one after the other from place i on: what the inner functions that write say
abbrev pub puts : List ℕ → ℕ → List ℕ → List ℕ
puts buffer i [] = buffer
puts buffer i (b ∷ bs) = puts (set buffer i b) (i + 1) bs
