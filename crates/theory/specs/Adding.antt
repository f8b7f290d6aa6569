-- Lists as sets that are worked on, up to a test `same`: one more unless it is there, each once, while there is room for so many, and equality by counts. Assumes nothing.
use Rattle.std.specs.Prelude.{Bool, cond, ◌&&◌, List, [], ◌∷◌, ◌++◌, ℕ, eqb, ltb, length}
use Rattle.std.proofs.Math.Option.{Option, none, some}
use Rattle.tesl.specs.Lists.{any, within}

-- what comes of a value, if there is one
abbrev pub onward : {A B : Type 0} → (A → Option B) → Option A → Option B
onward go none = none
onward go (some x) = go x

module _ {A : Type 0} (same : A → A → Bool) where
  -- one more at the end, unless it is there
  abbrev pub insert : List A → A → List A
  insert xs x = cond (any (same x) xs) xs (xs ++ (x ∷ []))

  -- one after the other
  abbrev pub insert_all : List A → List A → List A
  insert_all xs [] = xs
  insert_all xs (y ∷ ys) = insert_all (insert xs y) ys

  -- each at its first place
  abbrev pub once_each : List A → List A
  once_each xs = insert_all [] xs

  -- one more, unless it is there, while there is room for so many; `none` where it has no room
  unfoldable pub added_to : ℕ → List A → A → Option (List A)
  added_to capacity xs x = cond (any (same x) xs) (some xs) (cond (ltb (length xs) capacity) (some (xs ++ (x ∷ []))) none)

  -- one after the other
  abbrev pub all_added_to : ℕ → List A → List A → Option (List A)
  all_added_to capacity [] xs = some xs
  all_added_to capacity (y ∷ ys) xs = onward (all_added_to capacity ys) (added_to capacity xs y)

  -- as many, and each of ys is among xs: the same set, where neither has one twice
  abbrev pub same_by_count : List A → List A → Bool
  same_by_count xs ys = eqb (length xs) (length ys) && within same ys xs
