-- What the rules say of a filling.
use Rattle.std.specs.Prelude.{Bool, false, not, ◌&&◌, List, ℕ, ltb}
use Rattle.records.specs.declared.line.Line.{Line}
use Rattle.records.specs.declared.line.Line.TheVariants.{Sporadic, Relation, Implies, Excludes, Delayed, Weakly, Strictly, Kills, Counted}
use Rattle.tesl.specs.Lists.{all}
use Rattle.work.specs.Questions.{ticks_hold}

-- what the rules ask of the ticks
abbrev pub allowed : List Line → List Bool → Bool
allowed ls ticks = all (ticks_hold ticks) ls

-- a rule whose clocks are below k
abbrev pub is_settled : ℕ → Line → Bool
is_settled k (Implies A B) = ltb A k && ltb B k
is_settled k (Excludes A B) = ltb A k && ltb B k
is_settled k (Kills A B) = ltb A k && ltb B k
is_settled k (Sporadic A B t) = false
is_settled k (Relation A B p q) = false
is_settled k (Delayed A B D d) = false
is_settled k (Weakly A B) = false
is_settled k (Strictly A B) = false
is_settled k (Counted A B D n) = false

-- a rule whose clocks are below k forbids these ticks
abbrev pub forbids : ℕ → List Bool → Line → Bool
forbids k ticks l = is_settled k l && not (ticks_hold ticks l)
