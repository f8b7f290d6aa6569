-- What a filling makes of the leads and stopped clocks, by what depends on the filling alone.
use Rattle.std.specs.Prelude.{Bool, ◌||◌, List, [], ◌∷◌, ℕ, ◌-◌}
use Rattle.records.specs.declared.line.Line.{Line}
use Rattle.records.specs.Line.{of_each_precedes, of_precedes}
use Rattle.theory.specs.Step.{bit}
use Rattle.work.specs.Questions.{tick_in}

-- ---- stopped clocks

-- the clocks in either
abbrev pub either : List Bool → List Bool → List Bool
either [] ys = []
either (x ∷ xs) [] = x ∷ xs
either (x ∷ xs) (y ∷ ys) = (x || y) ∷ either xs ys

-- ---- leads

-- the lead that a precedes line needs before an instant
abbrev pub need_of : List Bool → Line → ℕ
need_of ticks l = of_each_precedes 0 (λ A B. bit (tick_in ticks B) - bit (tick_in ticks A)) (λ A B. bit (tick_in ticks B)) l

-- its tick of A, and of B
abbrev pub gain_of : List Bool → Line → ℕ
gain_of ticks l = of_precedes 0 (λ A B. bit (tick_in ticks A)) l

abbrev pub loss_of : List Bool → Line → ℕ
loss_of ticks l = of_precedes 0 (λ A B. bit (tick_in ticks B)) l
