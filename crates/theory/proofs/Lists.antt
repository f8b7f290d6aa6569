-- Tests over lists: `all`, `any`, `filter`, `count`, `always` at `++`, `map`, `flat_map`. Assumes nothing.
use mathlib.Core.Bool.{Bool, true, false, not, cond, ◌&&◌, ◌||◌, and_assoc, and-true, or_assoc, or-false}
use mathlib.Core.List.{List, [], ◌∷◌, ◌++◌, map, append_assoc, append-nil, Memᴰ}
use mathlib.Core.Option.{some}
use mathlib.Core.Path.{◌≡◌, refl, sym, ap, ◌∙◌, subst}
use Prim.Native.Nat.{ℕ, zero, suc, ◌+◌, ◌<◌}
use native.Mathlib.Nat.{le_of_suc-le-suc, not-suc-le-zero}
use native.Mathlib.Omega.{arith}
use lib.Dec.{T}
use lib.ListN.{get_or}
use Rattle.records.specs.Types.{All}
use Rattle.tesl.proofs.Tests.{and_l, and_r, and_i, or_l, or_r, or-e}
use Rattle.tesl.proofs.FormulaLists.{all_append}
use Rattle.tesl.specs.Lists.{all, any, filter, count, last_of, beginnings, always, flat_map, by_later, table}
use Rattle.theory.specs.Step.{bit}

-- ---- tests

pub F→≡ : (a : Bool) → T (not a) → a ≡ false
F→≡ true t = absurd t
F→≡ false t = refl

-- two tests that imply each other are equal
pub bool-ext : (a b : Bool) → (T a → T b) → (T b → T a) → a ≡ b
bool-ext true true f g = refl
bool-ext true false f g = absurd (f tt)
bool-ext false true f g = absurd (g tt)
bool-ext false false f g = refl

-- under a test that both sides have, the rest may use it
pub and-under : (a b c : Bool) → (T a → b ≡ c) → (a && b) ≡ (a && c)
and-under true b c h = h tt
and-under false b c h = refl

module _ {A : Type 0} where
  pub any_append : (p : A → Bool) (xs ys : List A) → any p (xs ++ ys) ≡ (any p xs || any p ys)
  any_append p [] ys = refl
  any_append p (x ∷ xs) ys = ap (λ (b : Bool). p x || b) (any_append p xs ys) ∙ sym (or_assoc (p x) (any p xs) (any p ys))

  pub any_snoc : (p : A → Bool) (xs : List A) (x : A) → any p (xs ++ (x ∷ [])) ≡ (any p xs || p x)
  any_snoc p xs x = any_append p xs (x ∷ []) ∙ ap (λ (b : Bool). any p xs || b) (or-false (p x))

  pub filter-append : (p : A → Bool) (xs ys : List A) → filter p (xs ++ ys) ≡ filter p xs ++ filter p ys
  filter-append p [] ys = refl
  filter-append p (x ∷ xs) ys =
      elim (p x) as (λ b. cond b (x ∷ filter p (xs ++ ys)) (filter p (xs ++ ys)) ≡ cond b (x ∷ filter p xs) (filter p xs) ++ filter p ys)
      [ true ↦ ap (λ (l : List A). x ∷ l) (filter-append p xs ys) | false ↦ filter-append p xs ys ]

  pub filter-filter : (p q : A → Bool) (xs : List A) → filter p (filter q xs) ≡ filter (λ x. q x && p x) xs
  filter-filter p q [] = refl
  filter-filter p q (x ∷ xs) = by-test (q x) (filter-filter p q xs)
    where
      by-test : (b : Bool) → filter p (filter q xs) ≡ filter (λ x. q x && p x) xs
          → filter p (cond b (x ∷ filter q xs) (filter q xs)) ≡ cond (b && p x) (x ∷ filter (λ x. q x && p x) xs) (filter (λ x. q x && p x) xs)
      by-test true h = ap (λ (l : List A). cond (p x) (x ∷ l) l) h
      by-test false h = h

  pub count-snoc : (p : A → Bool) (xs : List A) (x : A) → count p (xs ++ (x ∷ [])) ≡ count p xs + bit (p x)
  count-snoc p [] x = by-test (p x)
    where
      by-test : (b : Bool) → cond b 1 0 ≡ 0 + bit b
      by-test true = refl
      by-test false = refl
  count-snoc p (y ∷ xs) x = by-test (p y) (count-snoc p xs x)
    where
      by-test : (b : Bool) → count p (xs ++ (x ∷ [])) ≡ count p xs + bit (p x)
          → cond b (suc (count p (xs ++ (x ∷ [])))) (count p (xs ++ (x ∷ []))) ≡ cond b (suc (count p xs)) (count p xs) + bit (p x)
      by-test true h = omega arith
      by-test false h = h

  pub last_of_snoc : (xs : List A) (x : A) → last_of (xs ++ (x ∷ [])) ≡ some x
  last_of_snoc [] x = refl
  last_of_snoc (y ∷ []) x = refl
  last_of_snoc (y ∷ (z ∷ zs)) x = last_of_snoc (z ∷ zs) x

  pub always-snoc : (p : List A → A → Bool) (before xs : List A) (x : A)
      → always p before (xs ++ (x ∷ [])) ≡ (always p before xs && p (before ++ xs) x)
  always-snoc p before [] x = and-true (p before x) ∙ ap (λ (l : List A). p l x) (sym (append-nil before))
  always-snoc p before (y ∷ xs) x =
      ap (λ (b : Bool). p before y && b) (always-snoc p (before ++ (y ∷ [])) xs x)
      ∙ ap (λ (l : List A). p before y && (always p (before ++ (y ∷ [])) xs && p l x)) (append_assoc before (y ∷ []) xs)
      ∙ sym (and_assoc (p before y) (always p (before ++ (y ∷ [])) xs) (p (before ++ (y ∷ xs)) x))

  pub beginnings-snoc : (xs : List A) (x : A) → beginnings (xs ++ (x ∷ [])) ≡ beginnings xs ++ ((xs ++ (x ∷ [])) ∷ [])
  beginnings-snoc [] x = refl
  beginnings-snoc (y ∷ xs) x =
      ap (λ (l : List (List A)). [] ∷ l)
      (ap (map (λ (b : List A). y ∷ b)) (beginnings-snoc xs x) ∙ map-append (beginnings xs))
    where
      map-append : (l : List (List A)) → map (λ (b : List A). y ∷ b) (l ++ ((xs ++ (x ∷ [])) ∷ [])) ≡ map (λ (b : List A). y ∷ b) l ++ ((y ∷ (xs ++ (x ∷ []))) ∷ [])
      map-append [] = refl
      map-append (b ∷ l) = ap (λ (r : List (List A)). (y ∷ b) ∷ r) (map-append l)

  -- induction from the front: a list is empty, or one with an element more at its end
  pub snoc-ind : (P : List A → Type 0) → P [] → ((xs : List A) (x : A) → P xs → P (xs ++ (x ∷ []))) → (xs : List A) → P xs
  snoc-ind P e s xs = from [] xs e
    where
      from : (before xs : List A) → P before → P (before ++ xs)
      from before [] h = subst P (sym (append-nil before)) h
      from before (x ∷ xs) h = subst P (append_assoc before (x ∷ []) xs) (from (before ++ (x ∷ [])) xs (s before x h))

  pub all_of : (p : A → Bool) (xs : List A) → ((x : A) → T (p x)) → T (all p xs)
  all_of p [] h = tt
  all_of p (x ∷ xs) h = and_i (p x) (all p xs) (h x) (all_of p xs h)

  pub filter-true : (xs : List A) → filter (λ x. true) xs ≡ xs
  filter-true [] = refl
  filter-true (x ∷ xs) = ap (λ (l : List A). x ∷ l) (filter-true xs)

  pub any-filter : (p q : A → Bool) (xs : List A) → any p (filter q xs) ≡ any (λ x. q x && p x) xs
  any-filter p q [] = refl
  any-filter p q (x ∷ xs) =
      elim (q x) as (λ b. any p (cond b (x ∷ filter q xs) (filter q xs)) ≡ (b && p x || any (λ x. q x && p x) xs))
      [ true ↦ ap (λ (b : Bool). p x || b) (any-filter p q xs) | false ↦ any-filter p q xs ]

  pub all-as-any : (p : A → Bool) (xs : List A) → all p xs ≡ not (any (λ x. not (p x)) xs)
  all-as-any p [] = refl
  all-as-any p (x ∷ xs) =
      elim (p x) as (λ b. (b && all p xs) ≡ not (not b || any (λ x. not (p x)) xs)) [ true ↦ all-as-any p xs | false ↦ refl ]

  pub all-imp : (p q : A → Bool) (xs : List A) → ((x : A) → T (p x) → T (q x)) → T (all p xs) → T (all q xs)
  all-imp p q [] h t = tt
  all-imp p q (x ∷ xs) h t = and_i (q x) (all q xs) (h x (and_l (p x) (all p xs) t)) (all-imp p q xs h (and_r (p x) (all p xs) t))

  pub any-imp : (p q : A → Bool) (xs : List A) → ((x : A) → T (p x) → T (q x)) → T (any p xs) → T (any q xs)
  any-imp p q [] h t = t
  any-imp p q (x ∷ xs) h t = or-e (p x) (any p xs) t (λ u. or_l (q x) (any q xs) (h x u)) (λ u. or_r (q x) (any q xs) (any-imp p q xs h u))

  pub none_any : (p : A → Bool) (xs : List A) → ((x : A) → T (p x) → ⊥) → T (any p xs) → ⊥
  none_any p [] h t = t
  none_any p (x ∷ xs) h t = or-e (p x) (any p xs) t (h x) (none_any p xs h)

  pub member-any : (p : A → Bool) {x : A} {xs : List A} → Memᴰ x xs → T (p x) → T (any p xs)
  member-any p {x} (Memᴰ.head {x = y} {xs = ys} e) t = or_l (p y) (any p ys) (subst (λ (z : A). T (p z)) e t)
  member-any p {x} (Memᴰ.tail {x = y} {xs = ys} m) t = or_r (p y) (any p ys) (member-any p m t)

  pub any-member : (p : A → Bool) (xs : List A) → T (any p xs) → (x : A) × Memᴰ x xs × T (p x)
  any-member p [] t = absurd t
  any-member p (x ∷ xs) t = or-e (p x) (any p xs) t
      (λ u. (x, Memᴰ.head refl, u))
      (λ u. let r = any-member p xs u in (r.0, Memᴰ.tail r.1, r.2))

  -- all p holds of those that pass q, and of those that fail it
  pub all_filter : (p q : A → Bool) (xs : List A) → T (all p (filter q xs)) → T (all (λ x. not (q x) || p x) xs)
  all_filter p q [] t = tt
  all_filter p q (x ∷ xs) t = by-test (q x) (all_filter p q xs) t
    where
      by-test : (b : Bool) → (T (all p (filter q xs)) → T (all (λ x. not (q x) || p x) xs))
          → T (all p (cond b (x ∷ filter q xs) (filter q xs))) → T ((not b || p x) && all (λ x. not (q x) || p x) xs)
      by-test true h t = and_i (p x) (all (λ x. not (q x) || p x) xs) (and_l (p x) (all p (filter q xs)) t) (h (and_r (p x) (all p (filter q xs)) t))
      by-test false h t = h t

  pub filter-all : (p q : A → Bool) (xs : List A) → T (all p xs) → T (all p (filter q xs))
  filter-all p q [] t = tt
  filter-all p q (x ∷ xs) t = by-test (q x) (filter-all p q xs (and_r (p x) (all p xs) t))
    where
      by-test : (b : Bool) → T (all p (filter q xs)) → T (all p (cond b (x ∷ filter q xs) (filter q xs)))
      by-test true h = and_i (p x) (all p (filter q xs)) (and_l (p x) (all p xs) t) h
      by-test false h = h

  -- both tests pass everywhere
  pub all_both : (p q : A → Bool) (xs : List A) → T (all p xs) → T (all q xs) → T (all (λ x. p x && q x) xs)
  all_both p q [] s t = tt
  all_both p q (x ∷ xs) s t =
      and_i (p x && q x) (all (λ x. p x && q x) xs) (and_i (p x) (q x) (and_l (p x) (all p xs) s) (and_l (q x) (all q xs) t))
      (all_both p q xs (and_r (p x) (all p xs) s) (and_r (q x) (all q xs) t))

  -- what holds of each of a list, with one more at its end
  pub each_snoc : (P : A → Type 0) (xs : List A) {x : A} → All P xs → P x → All P (xs ++ (x ∷ []))
  each_snoc P [] h p = (p, tt)
  each_snoc P (y ∷ xs) h p = (h.0, each_snoc P xs h.1 p)

  pub snoc-each : (P : A → Type 0) (xs : List A) {x : A} → All P (xs ++ (x ∷ [])) → All P xs × P x
  snoc-each P [] h = (tt, h.0)
  snoc-each P (y ∷ xs) h = let r = snoc-each P xs h.1 in ((h.0, r.0), r.1)

  pub table_at : (n : ℕ) (f : ℕ → A) (k : ℕ) (d : A) → k < n → get_or (table n f) k d ≡ f k
  table_at zero f k d h = absurd (not-suc-le-zero h)
  table_at (suc n) f zero d h = refl
  table_at (suc n) f (suc k) d h = table_at n (λ j. f (suc j)) k d (le_of_suc-le-suc h)

  pub table-ext : (n : ℕ) (f g : ℕ → A) → ((k : ℕ) → k < n → f k ≡ g k) → table n f ≡ table n g
  table-ext zero f g h = refl
  table-ext (suc n) f g h = λ i. h zero (omega arith) i ∷ table-ext n (λ k. f (suc k)) (λ k. g (suc k)) (λ k b. h (suc k) (omega arith)) i

module _ {A B : Type 0} where
  pub map_snoc : (f : A → B) (xs : List A) (x : A) → map f (xs ++ (x ∷ [])) ≡ map f xs ++ (f x ∷ [])
  map_snoc f [] x = refl
  map_snoc f (y ∷ xs) x = ap (λ (l : List B). f y ∷ l) (map_snoc f xs x)

  pub last_of-map-snoc : (f : A → B) (xs : List A) (x : A) → last_of (map f (xs ++ (x ∷ []))) ≡ some (f x)
  last_of-map-snoc f xs x = ap last_of (map_snoc f xs x) ∙ last_of_snoc (map f xs) (f x)

  pub any-map : (p : B → Bool) (f : A → B) (xs : List A) → any p (map f xs) ≡ any (λ x. p (f x)) xs
  any-map p f [] = refl
  any-map p f (x ∷ xs) = ap (λ (b : Bool). p (f x) || b) (any-map p f xs)

  pub any-flat_map : (p : B → Bool) (f : A → List B) (xs : List A) → any p (flat_map f xs) ≡ any (λ x. any p (f x)) xs
  any-flat_map p f [] = refl
  any-flat_map p f (x ∷ xs) = any_append p (f x) (flat_map f xs) ∙ ap (λ (b : Bool). any p (f x) || b) (any-flat_map p f xs)

  pub all-flat_map : (p : B → Bool) (f : A → List B) (xs : List A) → all p (flat_map f xs) ≡ all (λ x. all p (f x)) xs
  all-flat_map p f [] = refl
  all-flat_map p f (x ∷ xs) = all_append p (f x) (flat_map f xs) ∙ ap (λ (b : Bool). all p (f x) && b) (all-flat_map p f xs)

  pub flat_map-append : (f : A → List B) (xs ys : List A) → flat_map f (xs ++ ys) ≡ flat_map f xs ++ flat_map f ys
  flat_map-append f [] ys = refl
  flat_map-append f (x ∷ xs) ys = ap (λ (l : List B). f x ++ l) (flat_map-append f xs ys) ∙ sym (append_assoc (f x) (flat_map f xs) (flat_map f ys))

  -- one more at the end: what each gave is changed by K, and the new one gives what it gives with nothing after it
  pub by_later-snoc : (g : A → List A → List B) (K : List B → List B) → K [] ≡ [] → ((xs ys : List B) → K (xs ++ ys) ≡ K xs ++ K ys) → (x : A)
      → ((y : A) (later : List A) → g y (later ++ (x ∷ [])) ≡ K (g y later)) → (xs : List A) → by_later g (xs ++ (x ∷ [])) ≡ K (by_later g xs) ++ g x []
  by_later-snoc g K e a x h [] = append-nil (g x []) ∙ sym (ap (λ (l : List B). l ++ g x []) e)
  by_later-snoc g K e a x h (y ∷ xs) =
      (λ i. h y xs i ++ by_later-snoc g K e a x h xs i)
      ∙ sym (append_assoc (K (g y xs)) (K (by_later g xs)) (g x []))
      ∙ ap (λ (l : List B). l ++ g x []) (sym (a (g y xs) (by_later g xs)))

pub flat_map-flat_map : {A B C : Type 0} (g : B → List C) (f : A → List B) (xs : List A) → flat_map g (flat_map f xs) ≡ flat_map (λ x. flat_map g (f x)) xs
flat_map-flat_map g f [] = refl
flat_map-flat_map {C = C} g f (x ∷ xs) = flat_map-append g (f x) (flat_map f xs) ∙ ap (λ (l : List C). flat_map g (f x) ++ l) (flat_map-flat_map g f xs)
