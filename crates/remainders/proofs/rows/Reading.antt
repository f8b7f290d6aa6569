-- Sets of what is stored, read as other values: where the test of what is read is the test of what is stored, the same is found, added and equal. Assumes nothing.
use mathlib.Core.Bool.{Bool, true, false, cond, ◌&&◌, ◌||◌}
use mathlib.Core.List.{List, [], ◌∷◌, ◌++◌, map, map-append}
use mathlib.Core.Option
use mathlib.Core.Option.{Option, none, some}
use mathlib.Core.Path.{◌≡◌, refl, sym, ap, ap₂, ◌∙◌}
use Prim.Native.Nat.{ℕ}
use lib.Dec.{eqb, ltb}
use lib.ListN.{length, length-map}
use Rattle.tesl.specs.Lists.{any, within}
use Rattle.theory.specs.Adding.{onward, insert, insert_all, once_each, added_to, all_added_to, same_by_count}
use Rattle.remainders.specs.declared.obligation.Obligation as code
use Rattle.remainders.specs.View.{same_stored}
use Rattle.remainders.specs.Rows.{row_set, provided, AddedRow, BegunRow}

module _ {A E : Type 0} (read : A → E) (stored : A → A → Bool) (same : E → E → Bool) (agree : (a b : A) → same (read a) (read b) ≡ stored a b) where
  pub any-read : (x : A) (xs : List A) → any (same (read x)) (map read xs) ≡ any (stored x) xs
  any-read x [] = refl
  any-read x (y ∷ ys) = ap₂ ◌||◌ (agree x y) (any-read x ys)

  -- ---- one more, unless it is there
  insert-read : (xs : List A) (x : A) → insert same (map read xs) (read x) ≡ map read (insert stored xs x)
  insert-read xs x = rw (any-read x xs) (by-test (any (stored x) xs))
    where
      by-test : (b : Bool) → cond b (map read xs) (map read xs ++ (read x ∷ [])) ≡ map read (cond b xs (xs ++ (x ∷ [])))
      by-test true = refl
      by-test false = rw map-append

  pub insert-all-read : (xs ys : List A) → insert_all same (map read xs) (map read ys) ≡ map read (insert_all stored xs ys)
  insert-all-read xs [] = refl
  insert-all-read xs (y ∷ ys) = ap (λ (zs : List E). insert_all same zs (map read ys)) (insert-read xs y) ∙ insert-all-read (insert stored xs y) ys

  pub once-each-read : (xs : List A) → once_each same (map read xs) ≡ map read (once_each stored xs)
  once-each-read xs = insert-all-read [] xs

  -- ---- while there is room
  module _ (most : ℕ) where
    pub added-read : (xs : List A) (x : A) → added_to same most (map read xs) (read x) ≡ Option.map (map read) (added_to stored most xs x)
    unfolding added_to
    added-read xs x = rw (any-read x xs, length-map xs read) (by_tests (any (stored x) xs) (ltb (length xs) most))
      where
        by_tests : (b c : Bool) → cond b (some (map read xs)) (cond c (some (map read xs ++ (read x ∷ []))) none) ≡ Option.map (map read) (cond b (some xs) (cond c (some (xs ++ (x ∷ []))) none))
        by_tests true c = refl
        by_tests false true = rw map-append
        by_tests false false = refl

    pub all-added-read : (ys xs : List A) → all_added_to same most (map read ys) (map read xs) ≡ Option.map (map read) (all_added_to stored most ys xs)
    all-added-read [] xs = refl
    all-added-read (y ∷ ys) xs = ap (onward (all_added_to same most (map read ys))) (added-read xs y) ∙ by-rest (all-added-read ys) (added_to stored most xs y)
      where
        by-rest : ((zs : List A) → all_added_to same most (map read ys) (map read zs) ≡ Option.map (map read) (all_added_to stored most ys zs)) → (q : Option (List A)) → onward (all_added_to same most (map read ys)) (Option.map (map read) q) ≡ Option.map (map read) (onward (all_added_to stored most ys) q)
        by-rest more none = refl
        by-rest more (some zs) = more zs

  -- ---- equal by counts
  within-read : (xs ys : List A) → within same (map read ys) (map read xs) ≡ within stored ys xs
  within-read xs [] = refl
  within-read xs (y ∷ ys) = ap₂ ◌&&◌ (any-read y xs) (within-read xs ys)

  pub same-by-count-read : (xs ys : List A) → same_by_count same (map read xs) (map read ys) ≡ same_by_count stored xs ys
  same-by-count-read xs ys = ap₂ ◌&&◌ (ap₂ eqb (length-map xs read) (length-map ys read)) (within-read xs ys)

-- ---- a set of a row, with more
pub provided-read : {A B : Type 0} (f : A → B) (r : Bool) (x : A) → Option.map f (provided r x) ≡ provided r (f x)
provided-read f true x = refl
provided-read f false x = refl

module _ {E : Type 0} (read : code.Obligation → E) (same : E → E → Bool) (agree : (a b : code.Obligation) → same (read a) (read b) ≡ same_stored a b) {i part : ℕ} {r : Bool} {a b : List ℕ} where
  pub added-row-read : {o : code.Obligation} → AddedRow i part o r a b → provided r (map read (row_set b i part)) ≡ added_to same 8 (map read (row_set a i part)) (read o)
  added-row-read {o} w = sym (provided-read (map read) r (row_set b i part)) ∙ ap (Option.map (map read)) w.set ∙ sym (added-read read same_stored same agree 8 (row_set a i part) o)

  pub begun-row-read : {os : List code.Obligation} → BegunRow i part os r a b → provided r (map read (row_set b i part)) ≡ all_added_to same 8 (map read os) (map read (row_set a i part))
  begun-row-read {os} w = sym (provided-read (map read) r (row_set b i part)) ∙ ap (Option.map (map read)) w.set ∙ sym (all-added-read read same_stored same agree 8 os (row_set a i part))
