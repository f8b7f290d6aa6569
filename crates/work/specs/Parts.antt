-- The parts of a sheet: relations, rules, delay lines, counted lines and precedes lines.
use Rattle.std.specs.Prelude.{Bool, true, false, ◌&&◌, List, ◌≡◌, ℕ, ◌≤◌, ltb, get_or}
use Rattle.records.specs.declared.line.Line.{Line}
use Rattle.records.specs.declared.line.Line.TheVariants.{Sporadic, Relation, Implies, Excludes, Delayed, Weakly, Strictly, Kills, Counted}
use Rattle.records.specs.Line.{blank_line, of_relation, of_delayed, of_counted, of_precedes}
use Rattle.records.specs.Sheet.{SheetValue}

abbrev pub is_relation : Line → Bool
is_relation l = of_relation false (λ A B p q. true) l

-- implies, excludes and kills: what they ask of the ticks of an instant is asked once per filling
abbrev pub is_rule : Line → Bool
is_rule (Implies A B) = true
is_rule (Excludes A B) = true
is_rule (Kills A B) = true
is_rule (Sporadic A B t) = false
is_rule (Relation A B p q) = false
is_rule (Delayed A B D d) = false
is_rule (Weakly A B) = false
is_rule (Strictly A B) = false
is_rule (Counted A B D n) = false

abbrev pub is_delay : Line → Bool
is_delay l = of_delayed false (λ A B D d. true) l

abbrev pub is_counted : Line → Bool
is_counted l = of_counted false (λ A B D n. true) l

abbrev pub is_precedes : Line → Bool
is_precedes l = of_precedes false (λ A B. true) l

-- the precedes lines of a sheet stand before place `leaders`, where `precede` has a flag
abbrev pub Leading : SheetValue → ℕ → List Bool → Type 0
Leading v leaders precede = (leaders ≤ 16) × ((i : ℕ) → is_precedes (get_or v.lines i blank_line) ≡ (ltb i leaders && get_or precede i false))
