-- What a line asks of an instant, split by what the question depends on: the tags (once per instant), the ticks (once per filling), what a remainder carries.
-- And what a line makes of what is carried.
use Rattle.std.specs.Prelude.{Bool, true, false, not, cond, ◌&&◌, ◌||◌, List, [], ℕ, ◌+◌, leb, ℤ, ◌+ℤ◌, ◌*ℤ◌, get_or, set}
use Rattle.records.specs.declared.line.Line.{Line}
use Rattle.records.specs.declared.line.Line.TheVariants.{Sporadic, Relation, Implies, Excludes, Delayed, Weakly, Strictly, Kills, Counted}
use Rattle.records.specs.Line.{of_relation, of_each_precedes, of_kills}
use Rattle.tesl.specs.Run.{tag_in}
use Rattle.tesl.specs.Fits.{eq_z}
use Rattle.theory.specs.Step.{bit, next_lead}
use Rattle.work.specs.View.{filled_of}

-- clock k of a list of ticks, or of the stopped clocks
abbrev pub tick_in : List Bool → ℕ → Bool
tick_in ticks k = get_or ticks k false

-- ---- what a line asks

-- a relation is all that is asked of the tags
abbrev pub tags_hold : List ℤ → Line → Bool
tags_hold tags l = of_relation true (λ A B p q. eq_z (tag_in tags A) (p *ℤ tag_in tags B +ℤ q)) l

-- of a kills line: its A at the same instant
abbrev pub ticks_hold : List Bool → Line → Bool
ticks_hold ticks (Implies A B) = not (tick_in ticks A) || tick_in ticks B
ticks_hold ticks (Excludes A B) = not (tick_in ticks A && tick_in ticks B)
ticks_hold ticks (Kills A B) = not (tick_in ticks B && tick_in ticks A)
ticks_hold ticks (Sporadic A B t) = true
ticks_hold ticks (Relation A B p q) = true
ticks_hold ticks (Delayed A B D d) = true
ticks_hold ticks (Weakly A B) = true
ticks_hold ticks (Strictly A B) = true
ticks_hold ticks (Counted A B D n) = true

-- of a precedes line: its lead; a clock stopped before bars by itself
abbrev pub carried_holds : List Bool → Line → ℕ → Bool
carried_holds ticks l lead = of_each_precedes true (λ A B. leb (bit (tick_in ticks B)) (lead + bit (tick_in ticks A))) (λ A B. leb (bit (tick_in ticks B)) lead) l

-- ---- what is carried on

-- a line's lead doesn't depend on the tags
abbrev pub lead_after : List Bool → Line → ℕ → ℕ
lead_after ticks l lead = next_lead (filled_of ticks []) l lead

-- a clock past the end changes nothing
abbrev pub stopped_after : List Bool → Line → List Bool → List Bool
stopped_after ticks l stopped = of_kills stopped (λ A B. cond (tick_in ticks A) (set stopped B true) stopped) l
