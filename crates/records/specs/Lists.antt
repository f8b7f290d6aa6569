-- Arrays as lists: the places in use, and the unused ones.
use Rattle.std.specs.Prelude.{ℕ, zero, suc, ◌+◌, ◌-◌, List, [], ◌∷◌, ◌++◌, length, replicate}

-- what f gives at i and the n - 1 places after it; at the places 0 to n - 1
unfoldable pub listed_from : {A : Type 0} → (ℕ → A) → ℕ → ℕ → List A
listed_from f i zero = []
listed_from f i (suc n) = f i ∷ listed_from f (i + 1) n

abbrev pub listed : {A : Type 0} → (ℕ → A) → ℕ → List A
listed f n = listed_from f 0 n

-- xs at the front of n places; the unused places hold d
abbrev pub filled : {A : Type 0} → ℕ → A → List A → List A
filled n d xs = xs ++ replicate (n - length xs) d

-- one list after the other
abbrev pub joined : {A : Type 0} → List (List A) → List A
joined [] = []
joined (xs ∷ xss) = xs ++ joined xss
