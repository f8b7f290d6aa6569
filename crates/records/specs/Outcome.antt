-- Document 01, 'Places of refusal': a place is an ordered list of conditions, each with its number, and the first that holds decides.
use Rattle.std.specs.Prelude.{ℕ, Bool, cond, List, [], ◌∷◌, ◌++◌, Result, Ok, Err}
use Rattle.records.specs.declared.refusal.Refusal.{Refusal}
use Rattle.records.specs.Refusal.{refusal_number}

-- what a call answers: the value, or the number of its refusal
pub data Outcome (A : Type 0) : Type 0 where
  taken : A → Outcome A
  refused : ℕ → Outcome A

-- each case of what the code answers
abbrev pub outcome_of : {A : Type 0} → Result A Refusal → Outcome A
outcome_of (Ok v) = taken v
outcome_of (Err refusal) = refused (refusal_number refusal)

-- the same outcome, its value as f has it
abbrev pub kept_as : {A B : Type 0} → (A → B) → Outcome A → Outcome B
kept_as f (taken v) = taken (f v)
kept_as f (refused n) = refused n

-- a condition, and the number that refuses where it holds
pub record Check : Type 0 where
  pub holds : Bool
  pub number : ℕ

infix 68 ◌⇒◌
abbrev pub ◌⇒◌ : Bool → ℕ → Check
condition ⇒ n = record { holds = condition; number = n }

-- the number of the first condition that holds, or the value where none does
abbrev pub decide : {A : Type 0} → List Check → A → Outcome A
decide [] v = taken v
decide (c ∷ cs) v = cond c.holds (refused c.number) (decide cs v)

-- the checks of each element in turn, given the elements before it
abbrev pub in_turn : {A : Type 0} → (List A → A → List Check) → List A → List A → List Check
in_turn checks before [] = []
in_turn checks before (x ∷ xs) = checks before x ++ in_turn checks (before ++ (x ∷ [])) xs
