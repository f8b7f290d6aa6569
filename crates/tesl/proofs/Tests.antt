-- Laws of tests: of `&&` and `||`, and of a test and its equation. Assumes nothing.
use mathlib.Core.Bool.{Bool, true, false, ◌&&◌, ◌||◌}
use mathlib.Core.Path.{◌≡◌, refl, sym, subst}
use lib.Dec.{T}

pub and_l : (a b : Bool) → T (a && b) → T a
and_l true b t = tt
and_l false b t = t

pub and_r : (a b : Bool) → T (a && b) → T b
and_r true b t = t
and_r false b t = absurd t

pub and_i : (a b : Bool) → T a → T b → T (a && b)
and_i true b s t = t
and_i false b s t = s

pub or_l : (a b : Bool) → T a → T (a || b)
or_l true b t = tt
or_l false b t = absurd t

pub or_r : (a b : Bool) → T b → T (a || b)
or_r true b t = tt
or_r false b t = t

pub or-e : {X : Type 0} (a b : Bool) → T (a || b) → (T a → X) → (T b → X) → X
or-e true b t f g = f tt
or-e false b t f g = g t

pub T→≡ : (a : Bool) → T a → a ≡ true
T→≡ true t = refl
T→≡ false t = absurd t

pub ≡→T : {a : Bool} → a ≡ true → T a
≡→T e = subst T (sym e) tt
