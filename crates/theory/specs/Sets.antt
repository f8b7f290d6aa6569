-- Lists as sets, up to a test `same`: what is the same as one of a list is in its set. Assumes nothing.
use Rattle.std.specs.Prelude.{Bool, true, not, ◌&&◌, List, [], ◌∷◌, ◌≡◌, T}
use Rattle.records.specs.Types.{All}
use Rattle.tesl.specs.Lists.{any}

module _ {A : Type 0} (same : A → A → Bool) where
  -- no two are the same
  abbrev pub apart : List A → Bool
  apart [] = true
  apart (x ∷ xs) = not (any (same x) xs) && apart xs

  -- what is in xs is in ys
  abbrev pub Covers : List A → List A → Type 0
  Covers xs ys = (x : A) → T (any (same x) xs) → T (any (same x) ys)

  abbrev pub SameSet : List A → List A → Type 0
  SameSet xs ys = (x : A) → any (same x) xs ≡ any (same x) ys

-- xs has what ys has, each once, in any order
pub record EachOnce {A : Type 0} (same : A → A → Bool) (xs ys : List A) : Type 0 where
  pub each-once : T (apart same xs)
  pub these : SameSet same xs ys

module _ {A : Type 0} where
  -- R is of no two: of none and a later one
  abbrev pub NoTwo : (A → A → Type 0) → List A → Type 0
  NoTwo R [] = Unit {0}
  NoTwo R (x ∷ xs) = All (λ (y : A). R x y → ⊥) xs × NoTwo R xs
