-- What is among a list: of `flat_map`, `by_later`, `filter`, `distinct` and `beginnings`; and how many of a list are apart. Assumes nothing.
use mathlib.Core.Bool.{Bool, true, false, not, cond}
use mathlib.Core.List.{List, [], ◌∷◌, ◌++◌, map, Memᴰ}
use mathlib.Core.Logic.{◌⊎◌, inl, inr, ⊎_elim}
use mathlib.Core.Path.{◌≡◌, refl, sym, ap, ◌∙◌, subst}
use Prim.Native.Nat.{ℕ, zero, suc, ◌-◌, ◌≤◌, ◌<◌}
use native.Mathlib.Nat.{le_of_suc-le-suc, not-suc-le-zero}
use native.Mathlib.Omega.{arith}
use lib.Dec.{T, T_not, not_T}
use lib.ListN.{length, get_or, drop, length-drop}
use Rattle.records.specs.Types.{All}
use Rattle.tesl.specs.Lists.{any, filter, distinct, beginnings, flat_map, by_later}
use Rattle.theory.specs.Sets.{apart, NoTwo}
use Rattle.tesl.proofs.Tests.{and_l, and_r, and_i, or_l, or_r, or-e}
use Rattle.theory.proofs.Lists.{any-map, member-any, any-member}
use Rattle.theory.proofs.Sets.{Equivalence, length-le}

module _ {A B : Type 0} where
  pub mem-flat_map : (f : A → List B) {x : A} {y : B} {xs : List A} → Memᴰ x xs → Memᴰ y (f x) → Memᴰ y (flat_map f xs)
  mem-flat_map f {y = y} (mathlib.Core.List.Memᴰ.head {x = z} {xs = zs} e) n = mathlib.Core.List.Memᴰ.append_left (flat_map f zs) (subst (λ (w : A). Memᴰ y (f w)) e n)
  mem-flat_map f (mathlib.Core.List.Memᴰ.tail {x = z} m) n = mathlib.Core.List.Memᴰ.append_right (f z) (mem-flat_map f m n)

  pub of-flat_map : (f : A → List B) {y : B} (xs : List A) → Memᴰ y (flat_map f xs) → (x : A) × Memᴰ x xs × Memᴰ y (f x)
  of-flat_map f [] m = absurd (mathlib.Core.List.Memᴰ.not-nil m)
  of-flat_map f {y} (x ∷ xs) m =
      ⊎_elim
      (λ (n : Memᴰ y (f x)). (x, mathlib.Core.List.Memᴰ.head refl, n))
      (λ (n : Memᴰ y (flat_map f xs)). let r = of-flat_map f xs n in (r.0, mathlib.Core.List.Memᴰ.tail r.1, r.2))
      (mathlib.Core.List.Memᴰ.append_cases (f x) m)

  -- what the element number n gives, by those after it
  pub of-by_later : (f : A → List A → List B) (d : A) {y : B} (xs : List A) → Memᴰ y (by_later f xs) → (n : ℕ) × (n < length xs) × Memᴰ y (f (get_or xs n d) (drop (suc n) xs))
  of-by_later f d [] m = absurd (mathlib.Core.List.Memᴰ.not-nil m)
  of-by_later f d {y} (x ∷ xs) m =
      ⊎_elim
      (λ (h : Memᴰ y (f x xs)). (0, omega arith, h))
      (λ (h : Memᴰ y (by_later f xs)). let r = of-by_later f d xs h in (suc r.0, omega (arith, r.1), r.2))
      (mathlib.Core.List.Memᴰ.append_cases (f x xs) m)

  pub mem-by_later : (f : A → List A → List B) (d : A) {y : B} (xs : List A) (n : ℕ) → n < length xs → Memᴰ y (f (get_or xs n d) (drop (suc n) xs)) → Memᴰ y (by_later f xs)
  mem-by_later f d [] n b m = absurd (not-suc-le-zero b)
  mem-by_later f d (x ∷ xs) zero b m = mathlib.Core.List.Memᴰ.append_left (by_later f xs) m
  mem-by_later f d (x ∷ xs) (suc n) b m = mathlib.Core.List.Memᴰ.append_right (f x xs) (mem-by_later f d xs n (le_of_suc-le-suc b) m)

  -- the distinct ones by a test of what h gives
  pub distinct-map : (same : B → B → Bool) (h : A → B) (xs : List A) → distinct same (map h xs) ≡ map h (distinct (λ x y. same (h x) (h y)) xs)
  distinct-map same h [] = refl
  distinct-map same h (x ∷ xs) =
      ap (λ (l : List B). cond (any (same (h x)) l) l (h x ∷ l)) (distinct-map same h xs)
      ∙ ap (λ (b : Bool). cond b (map h d) (h x ∷ map h d)) (any-map (same (h x)) h d)
      ∙ by-test (any (λ y. same (h x) (h y)) d)
    where
      d : List A
      d = distinct (λ x y. same (h x) (h y)) xs

      by-test : (b : Bool) → cond b (map h d) (h x ∷ map h d) ≡ map h (cond b d (x ∷ d))
      by-test true = refl
      by-test false = refl

module _ {A : Type 0} where
  pub mem-filter : (p : A → Bool) {x : A} (xs : List A) → Memᴰ x xs → T (p x) → Memᴰ x (filter p xs)
  mem-filter p [] m t = m
  mem-filter p {x} (y ∷ ys) m t = by-test (p y) (λ u. u) (⊎_elim inl (λ (n : Memᴰ x ys). inr (mem-filter p ys n t)) (mathlib.Core.List.Memᴰ.cases_cons m))
    where
      by-test : (b : Bool) → (T (p y) → T b) → (x ≡ y) ⊎ Memᴰ x (filter p ys) → Memᴰ x (cond b (y ∷ filter p ys) (filter p ys))
      by-test true k (inl e) = mathlib.Core.List.Memᴰ.head e
      by-test true k (inr n) = mathlib.Core.List.Memᴰ.tail n
      by-test false k (inl e) = absurd (k (subst (λ (z : A). T (p z)) e t))
      by-test false k (inr n) = n

  pub of-filter : (p : A → Bool) {x : A} (xs : List A) → Memᴰ x (filter p xs) → Memᴰ x xs × T (p x)
  of-filter p [] m = absurd (mathlib.Core.List.Memᴰ.not-nil m)
  of-filter p {x} (y ∷ ys) m = by-test (p y) (λ u. u) (λ n. let r = of-filter p ys n in (mathlib.Core.List.Memᴰ.tail r.0, r.1)) m
    where
      by-test : (b : Bool) → (T b → T (p y)) → (Memᴰ x (filter p ys) → Memᴰ x (y ∷ ys) × T (p x))
          → Memᴰ x (cond b (y ∷ filter p ys) (filter p ys)) → Memᴰ x (y ∷ ys) × T (p x)
      by-test true k later n = ⊎_elim (λ (e : x ≡ y). (mathlib.Core.List.Memᴰ.head e, subst (λ (z : A). T (p z)) (sym e) (k tt))) later (mathlib.Core.List.Memᴰ.cases_cons n)
      by-test false k later n = later n

  pub of-distinct : (same : A → A → Bool) {x : A} (xs : List A) → Memᴰ x (distinct same xs) → Memᴰ x xs
  of-distinct same [] m = m
  of-distinct same {x} (y ∷ ys) m = by-test (any (same y) (distinct same ys)) (λ n. mathlib.Core.List.Memᴰ.tail (of-distinct same ys n)) m
    where
      by-test : (b : Bool) → (Memᴰ x (distinct same ys) → Memᴰ x (y ∷ ys)) → Memᴰ x (cond b (distinct same ys) (y ∷ distinct same ys)) → Memᴰ x (y ∷ ys)
      by-test true later n = later n
      by-test false later n = ⊎_elim (λ (e : x ≡ y). mathlib.Core.List.Memᴰ.head e) later (mathlib.Core.List.Memᴰ.cases_cons n)

  pub each_of : (P : A → Type 0) (xs : List A) → ((x : A) → Memᴰ x xs → P x) → All P xs
  each_of P [] h = tt
  each_of P (x ∷ xs) h = (h x (mathlib.Core.List.Memᴰ.head refl), each_of P xs (λ y m. h y (mathlib.Core.List.Memᴰ.tail m)))

  pub of-each : (P : A → Type 0) {x : A} {xs : List A} → All P xs → Memᴰ x xs → P x
  of-each P h (mathlib.Core.List.Memᴰ.head e) = subst P (sym e) h.0
  of-each P h (mathlib.Core.List.Memᴰ.tail m) = of-each P h.1 m

  -- some beginning passes the test
  pub of-beginnings : (p : List A → Bool) (xs : List A) → T (any p (beginnings xs)) → (b rest : List A) × (xs ≡ b ++ rest) × T (p b)
  of-beginnings p [] t = ([], [], refl, or-e (p []) false t (λ u. u) absurd)
  of-beginnings p (x ∷ xs) t = or-e (p []) (any p (map (λ (b : List A). x ∷ b) (beginnings xs))) t
      (λ u. ([], x ∷ xs, refl, u))
      (λ u.
      let r = of-beginnings (λ (b : List A). p (x ∷ b)) xs (subst T (any-map p (λ (b : List A). x ∷ b) (beginnings xs)) u) in
      (x ∷ r.0, r.1, ap (λ (l : List A). x ∷ l) r.2, r.3))

  pub a-beginning : (p : List A → Bool) (b rest : List A) → T (p b) → T (any p (beginnings (b ++ rest)))
  a-beginning p [] [] t = or_l (p []) false t
  a-beginning p [] (x ∷ rest) t = or_l (p []) (any p (map (λ (b : List A). x ∷ b) (beginnings rest))) t
  a-beginning p (x ∷ b) rest t = or_r (p []) (any p (map (λ (c : List A). x ∷ c) (beginnings (b ++ rest))))
      (subst T (sym (any-map p (λ (c : List A). x ∷ c) (beginnings (b ++ rest)))) (a-beginning (λ (c : List A). p (x ∷ c)) b rest t))

-- ---- how many are apart

module _ {A : Type 0} (same : A → A → Bool) where
  -- of those that are apart any smaller number is
  pub some_of : (P : A → Type 0) (xs : List A) (n : ℕ) → n ≤ length xs → All P xs → T (apart same xs) → (ys : List A) × (length ys ≡ n) × All P ys × T (apart same ys)
  some_of P xs n l h a = (drop k xs, length-drop k xs ∙ exact, kept k xs h, still k xs a)
    where
      k : ℕ
      k = length xs - n

      exact : length xs - k ≡ n
      exact = omega arith

      kept : (j : ℕ) (xs : List A) → All P xs → All P (drop j xs)
      kept zero xs h = h
      kept (suc j) [] h = h
      kept (suc j) (x ∷ xs) h = kept j xs h.1

      still : (j : ℕ) (xs : List A) → T (apart same xs) → T (apart same (drop j xs))
      still zero xs a = a
      still (suc j) [] a = a
      still (suc j) (x ∷ xs) a = still j xs (and_r (not (any (same x) xs)) (apart same xs) a)

  -- those that are apart and each the same as one of a list are no more than it has
  pub no_more : Equivalence same → (xs ys : List A) → T (apart same xs) → ((x : A) → Memᴰ x xs → (y : A) × Memᴰ y ys × T (same x y)) → length xs ≤ length ys
  no_more E xs ys a h = length-le same E xs ys a
      (λ z t.
      let m = any-member (same z) xs t in
      let r = h m.0 m.1 in
      member-any (same z) r.1 (E.chain z m.0 r.0 m.2 r.2))

-- apart by a test, and R of no two
module _ {A : Type 0} (same : A → A → Bool) (R : A → A → Type 0) where
  -- where R is of none but what the test calls the same
  pub of-apart : ((x y : A) → R x y → T (same x y)) → (xs : List A) → T (apart same xs) → NoTwo R xs
  of-apart h [] a = tt
  of-apart h (x ∷ xs) a =
      let n = not (any (same x) xs) in (
        each_of (λ (y : A). R x y → ⊥) xs (λ y m r. T_not (any (same x) xs) (and_l n (apart same xs) a) (member-any (same x) m (h x y r))),
        of-apart h xs (and_r n (apart same xs) a),
      )

  -- where R is of all that the test calls the same, among those with P
  pub to-apart : (P : A → Type 0) → ((x y : A) → P x → P y → T (same x y) → R x y) → (xs : List A) → All P xs → NoTwo R xs → T (apart same xs)
  to-apart P h [] p n = tt
  to-apart P h (x ∷ xs) p n = and_i (not (any (same x) xs)) (apart same xs)
      (not_T (any (same x) xs) (λ t.
      let m = any-member (same x) xs t in
      of-each (λ (y : A). R x y → ⊥) n.0 m.1 (h x m.0 p.0 (of-each P p.1 m.1) m.2)))
      (to-apart P h xs p.1 n.1)
