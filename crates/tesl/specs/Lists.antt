-- Tests and functions over lists.
use Rattle.std.specs.Prelude.{Bool, true, false, cond, ◌&&◌, ◌||◌, List, [], ◌∷◌, ◌++◌, map, ℕ, zero, suc}
use Rattle.std.proofs.Math.Option.{Option, none, some}

module _ {A : Type 0} where
  abbrev pub all : (A → Bool) → List A → Bool
  all p [] = true
  all p (x ∷ xs) = p x && all p xs

  abbrev pub any : (A → Bool) → List A → Bool
  any p [] = false
  any p (x ∷ xs) = p x || any p xs

  abbrev pub filter : (A → Bool) → List A → List A
  filter p [] = []
  filter p (x ∷ xs) = cond (p x) (x ∷ filter p xs) (filter p xs)

  abbrev pub count : (A → Bool) → List A → ℕ
  count p [] = 0
  count p (x ∷ xs) = cond (p x) (suc (count p xs)) (count p xs)

  -- one of each, by the test `same`
  abbrev pub distinct : (A → A → Bool) → List A → List A
  distinct same [] = []
  distinct same (x ∷ xs) = cond (any (same x) (distinct same xs)) (distinct same xs) (x ∷ distinct same xs)

  -- each of xs is among ys
  abbrev pub within : (A → A → Bool) → List A → List A → Bool
  within same xs ys = all (λ x. any (same x) ys) xs

  -- the same elements in the same order
  abbrev pub same_list : (A → A → Bool) → List A → List A → Bool
  same_list same [] [] = true
  same_list same [] (y ∷ ys) = false
  same_list same (x ∷ xs) [] = false
  same_list same (x ∷ xs) (y ∷ ys) = same x y && same_list same xs ys

  abbrev pub last_of : List A → Option A
  last_of [] = none
  last_of (x ∷ []) = some x
  last_of (x ∷ (y ∷ ys)) = last_of (y ∷ ys)

  -- the beginnings of a list, the empty one and the whole included
  abbrev pub beginnings : List A → List (List A)
  beginnings [] = [] ∷ []
  beginnings (x ∷ xs) = [] ∷ map (λ (b : List A). x ∷ b) (beginnings xs)

  -- p holds of each element, given the ones before it
  abbrev pub always : (List A → A → Bool) → List A → List A → Bool
  always p before [] = true
  always p before (x ∷ xs) = p before x && always p (before ++ (x ∷ [])) xs

module _ {A B : Type 0} where
  abbrev pub flat_map : (A → List B) → List A → List B
  flat_map f [] = []
  flat_map f (x ∷ xs) = f x ++ flat_map f xs

  -- what each element gives, by those after it
  abbrev pub by_later : (A → List A → List B) → List A → List B
  by_later f [] = []
  by_later f (x ∷ later) = f x later ++ by_later f later

-- p holds of each number below n
abbrev pub below : ℕ → (ℕ → Bool) → Bool
below zero p = true
below (suc n) p = below n p && p n

-- f 0, f 1, .. f (n - 1)
abbrev pub table {ℓ} : {A : Type ℓ} → ℕ → (ℕ → A) → List A
table zero f = []
table (suc n) f = f zero ∷ table n (λ k. f (suc k))
