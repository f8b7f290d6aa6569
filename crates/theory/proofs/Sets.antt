-- Sets up to a test that is an equivalence: `distinct` keeps the set and is without repeats, and two lists without repeats that are the same set are as long. Assumes nothing.
use mathlib.Core.Bool.{Bool, true, false, not, cond, ◌&&◌, ◌||◌}
use mathlib.Core.List.{List, [], ◌∷◌, ◌++◌, append_assoc, append-nil}
use mathlib.Core.Path.{◌≡◌, refl, sym, ap, ◌∙◌, subst}
use Prim.Native.Nat.{ℕ, suc, ◌≤◌, ◌<◌}
use native.Mathlib.Nat.{le_antisymm}
use native.Mathlib.Omega.{arith}
use lib.Dec.{T, T_not, not_T}
use lib.ListN.{length}
use Rattle.tesl.specs.Lists.{any, filter, distinct, within}
use Rattle.tesl.specs.Remainder.{same_sets, distinct_count}
use Rattle.theory.specs.Sets.{apart, Covers, SameSet, EachOnce}
use Rattle.theory.specs.Adding.{insert, insert_all}
use Rattle.tesl.proofs.Tests.{and_l, and_r, and_i, or_l, or_r, or-e}
use Rattle.theory.proofs.Lists.{bool-ext, any-imp, any_snoc, any-filter}

pub record Equivalence {A : Type 0} (same : A → A → Bool) : Type 0 where
  pub reflex : (x : A) → T (same x x)
  pub swap : (x y : A) → T (same x y) → T (same y x)
  pub chain : (x y z : A) → T (same x y) → T (same y z) → T (same x z)

module _ {A : Type 0} (same : A → A → Bool) where
  -- without the first that is the same as x
  remove : A → List A → List A
  remove x [] = []
  remove x (y ∷ ys) = cond (same x y) ys (y ∷ remove x ys)

  length-remove : (x : A) (ys : List A) → T (any (same x) ys) → length ys ≡ suc (length (remove x ys))
  unfolding remove
  length-remove x [] t = absurd t
  length-remove x (y ∷ ys) t = by-test (same x y) t (length-remove x ys)
    where
      by-test : (b : Bool) → T (b || any (same x) ys) → (T (any (same x) ys) → length ys ≡ suc (length (remove x ys)))
          → suc (length ys) ≡ suc (length (cond b ys (y ∷ remove x ys)))
      by-test true t h = refl
      by-test false t h = ap suc (h t)

module _ {A : Type 0} (same : A → A → Bool) (E : Equivalence same) where
  -- ---- tests

  -- what is the same as one of xs
  pub any_same : (x y : A) (xs : List A) → T (same x y) → T (any (same y) xs) → T (any (same x) xs)
  any_same x y xs s t = any-imp (same y) (same x) xs (λ z u. E.chain x y z s u) t

  pub any-covers : (p : A → Bool) → ((x y : A) → T (same x y) → T (p x) → T (p y)) → (xs ys : List A) → Covers same xs ys → T (any p xs) → T (any p ys)
  any-covers p h [] ys c t = absurd t
  any-covers p h (x ∷ xs) ys c t = or-e (p x) (any p xs) t
      (λ u. any-imp (same x) p ys (λ y s. h x y s u) (c x (or_l (same x x) (any (same x) xs) (E.reflex x))))
      (λ u. any-covers p h xs ys (λ z v. c z (or_r (same z x) (any (same z) xs) v)) u)

  -- a test that cannot tell apart what is the same says the same of the same set
  pub any-set : (p : A → Bool) → ((x y : A) → T (same x y) → T (p x) → T (p y)) → (xs ys : List A) → SameSet same xs ys → any p xs ≡ any p ys
  any-set p h xs ys e = bool-ext (any p xs) (any p ys) (any-covers p h xs ys (λ x t. subst T (e x) t)) (any-covers p h ys xs (λ x t. subst T (sym (e x)) t))

  within→covers : (xs ys : List A) → T (within same xs ys) → Covers same xs ys
  within→covers [] ys t x u = absurd u
  within→covers (z ∷ xs) ys t x u = or-e (same x z) (any (same x) xs) u
      (λ v. any_same x z ys v (and_l (any (same z) ys) (within same xs ys) t))
      (λ v. within→covers xs ys (and_r (any (same z) ys) (within same xs ys) t) x v)

  pub within→set : (xs ys : List A) → T (within same xs ys) → T (within same ys xs) → SameSet same xs ys
  within→set xs ys t u x = bool-ext (any (same x) xs) (any (same x) ys) (within→covers xs ys t x) (within→covers ys xs u x)

  pub covers→within : (xs ys : List A) → Covers same xs ys → T (within same xs ys)
  covers→within [] ys c = tt
  covers→within (x ∷ xs) ys c = and_i (any (same x) ys) (within same xs ys) (c x (or_l (same x x) (any (same x) xs) (E.reflex x)))
      (covers→within xs ys (λ z t. c z (or_r (same z x) (any (same z) xs) t)))

  -- ---- distinct: the same set, without repeats

  pub distinct-set : (xs : List A) → SameSet same (distinct same xs) xs
  distinct-set [] x = refl
  distinct-set (y ∷ ys) x = by-test (any (same y) (distinct same ys)) (λ t. t) (distinct-set ys x)
    where
      d : List A
      d = distinct same ys

      by-test : (b : Bool) → (T b → T (any (same y) d)) → any (same x) d ≡ any (same x) ys
          → any (same x) (cond b d (y ∷ d)) ≡ (same x y || any (same x) ys)
      by-test true h e = bool-ext (any (same x) d) (same x y || any (same x) ys)
          (λ t. or_r (same x y) (any (same x) ys) (subst T e t))
          (λ t. or-e (same x y) (any (same x) ys) t (λ u. any_same x y d u (h tt)) (λ u. subst T (sym e) u))
      by-test false h e = ap (λ (b : Bool). same x y || b) e

  pub distinct_apart : (xs : List A) → T (apart same (distinct same xs))
  distinct_apart [] = tt
  distinct_apart (x ∷ xs) = by-test (any (same x) (distinct same xs)) (λ t. t) (distinct_apart xs)
    where
      d : List A
      d = distinct same xs

      by-test : (b : Bool) → (T (not b) → T (not (any (same x) d))) → T (apart same d) → T (apart same (cond b d (x ∷ d)))
      by-test true n h = h
      by-test false n h = and_i (not (any (same x) d)) (apart same d) (n tt) h

  -- ---- counting

  remove-keeps : (x z : A) → T (not (same x z)) → (ys : List A) → T (any (same z) ys) → T (any (same z) (remove same x ys))
  unfolding remove
  remove-keeps x z n [] t = absurd t
  remove-keeps x z n (y ∷ ys) t = by-test (same x y) (λ s. s) (remove-keeps x z n ys)
    where
      by-test : (b : Bool) → (T b → T (same x y)) → (T (any (same z) ys) → T (any (same z) (remove same x ys)))
          → T (any (same z) (cond b ys (y ∷ remove same x ys)))
      by-test true s h = or-e (same z y) (any (same z) ys) t (λ u. absurd (T_not (same x z) n (E.chain x y z (s tt) (E.swap z y u)))) (λ u. u)
      by-test false s h = or-e (same z y) (any (same z) ys) t (λ u. or_l (same z y) (any (same z) (remove same x ys)) u)
          (λ u. or_r (same z y) (any (same z) (remove same x ys)) (h u))

  pub length-le : (xs ys : List A) → T (apart same xs) → Covers same xs ys → length xs ≤ length ys
  length-le [] ys a c = omega arith
  length-le (x ∷ xs) ys a c =
      let n = and_l (not (any (same x) xs)) (apart same xs) a in
      let r = length-le xs (remove same x ys) (and_r (not (any (same x) xs)) (apart same xs) a)
      (λ z t. remove-keeps x z (not_T (same x z) (λ s. T_not (any (same x) xs) n (any_same x z xs s t))) ys (c z (or_r (same z x) (any (same z) xs) t))) in
      omega (arith, length-remove same x ys (c x (or_l (same x x) (any (same x) xs) (E.reflex x))))

  -- each of xs among ys, none of xs twice, and ys no longer: each of ys is among xs
  covers-back : (xs ys : List A) → T (apart same xs) → length ys ≤ length xs → Covers same xs ys → Covers same ys xs
  covers-back xs ys a l c y t = by-test (any (same y) xs) (λ n. n)
    where
      by-test : (b : Bool) → (T (not b) → T (not (any (same y) xs))) → T b
      by-test true n = tt
      by-test false n =
          let k = length-le (y ∷ xs) ys (and_i (not (any (same y) xs)) (apart same xs) (n tt) a) (λ z u. or-e (same z y) (any (same z) xs) u (λ v. any_same z y ys v t) (c z)) in
          omega arith

  pub within-back : (xs ys : List A) → T (apart same xs) → length ys ≤ length xs → T (within same xs ys) → T (within same ys xs)
  within-back xs ys a l t = covers→within ys xs (covers-back xs ys a l (within→covers xs ys t))

  pub length-same : (xs ys : List A) → T (apart same xs) → T (apart same ys) → SameSet same xs ys → length xs ≡ length ys
  length-same xs ys a b e = le_antisymm (length-le xs ys a (λ x t. subst T (e x) t)) (length-le ys xs b (λ x t. subst T (sym (e x)) t))

  pub distinct-length : (xs ys : List A) → SameSet same xs ys → length (distinct same xs) ≡ length (distinct same ys)
  distinct-length xs ys e = length-same (distinct same xs) (distinct same ys) (distinct_apart xs) (distinct_apart ys)
      (λ x. distinct-set xs x ∙ e x ∙ sym (distinct-set ys x))

  -- a set has no more than its list is long, and more than so many where so many and one more are among it
  pub number-most : (xs : List A) → distinct_count same xs ≤ length xs
  number-most xs = length-le (distinct same xs) xs (distinct_apart xs) (λ x t. subst T (distinct-set xs x) t)

  pub number_more : (most : ℕ) (among xs : List A) → T (apart same among) → Covers same among xs → most < length among → most < distinct_count same xs
  number_more most among xs a c l = let le = length-le among (distinct same xs) a (λ x t. subst T (sym (distinct-set xs x)) (c x t)) in omega arith

  -- the same sets, by the test and as sets
  pub sets_same : (xs ys : List A) → T (same_sets same xs ys) → SameSet same xs ys
  sets_same xs ys t = within→set xs ys (and_l (within same xs ys) (within same ys xs) t) (and_r (within same xs ys) (within same ys xs) t)

  pub same-sets : (xs ys : List A) → SameSet same xs ys → T (same_sets same xs ys)
  same-sets xs ys e = and_i (within same xs ys) (within same ys xs) (covers→within xs ys (λ x t. subst T (e x) t)) (covers→within ys xs (λ x t. subst T (sym (e x)) t))

  pub apart_snoc : (xs : List A) (y : A) → T (apart same xs) → T (not (any (same y) xs)) → T (apart same (xs ++ (y ∷ [])))
  apart_snoc [] y a n = tt
  apart_snoc (x ∷ xs) y a n =
      and_i (not (any (same x) (xs ++ (y ∷ [])))) (apart same (xs ++ (y ∷ [])))
      (not_T (any (same x) (xs ++ (y ∷ []))) (λ t. or-e (any (same x) xs) (same x y) (subst T (any_snoc (same x) xs y) t)
      (λ u. T_not (any (same x) xs) (and_l (not (any (same x) xs)) (apart same xs) a) u)
      (λ u. T_not (same y x || any (same y) xs) n (or_l (same y x) (any (same y) xs) (E.swap x y u)))))
      (apart_snoc xs y (and_r (not (any (same x) xs)) (apart same xs) a) (not_T (any (same y) xs) (λ t. T_not (same y x || any (same y) xs) n (or_r (same y x) (any (same y) xs) t))))

  -- ---- gathering: each of a list once, in any order of work

  pub once-length : {xs ys : List A} → EachOnce same xs ys → length xs ≡ length (distinct same ys)
  once-length {xs} {ys} h = length-same xs (distinct same ys) h.each-once (distinct_apart ys) (λ x. h.these x ∙ sym (distinct-set ys x))

  -- one more that is there already
  pub again : {xs ys : List A} → EachOnce same xs ys → (x y : A) → T (same x y) → T (any (same x) xs) → EachOnce same xs (ys ++ (y ∷ []))
  again {xs} {ys} h x y s t = record {
    each-once = h.each-once;
    these = λ z. bool-ext (any (same z) xs) (any (same z) (ys ++ (y ∷ [])))
        (λ u. subst T (sym (any_snoc (same z) ys y)) (or_l (any (same z) ys) (same z y) (subst T (h.these z) u)))
        (λ u. or-e (any (same z) ys) (same z y) (subst T (any_snoc (same z) ys y) u)
        (λ v. subst T (sym (h.these z)) v)
        (λ v. any_same z x xs (E.chain z y x v (E.swap x y s)) t));
  }

  -- one more that is not there yet
  pub fresh : {xs ys : List A} → EachOnce same xs ys → (x y : A) → T (same x y) → T (not (any (same x) xs)) → EachOnce same (xs ++ (x ∷ [])) (ys ++ (y ∷ []))
  fresh {xs} {ys} h x y s n = record {
    each-once = apart_snoc xs x h.each-once n;
    these = λ z.
        any_snoc (same z) xs x
        ∙ ap (λ (b : Bool). b || same z x) (h.these z)
        ∙ ap (λ (b : Bool). any (same z) ys || b) (bool-ext (same z x) (same z y) (λ u. E.chain z x y u s) (λ u. E.chain z y x u (E.swap x y s)))
        ∙ sym (any_snoc (same z) ys y);
  }

  pub insert_all-once : {xs ys : List A} → EachOnce same xs ys → (zs : List A) → EachOnce same (insert_all same xs zs) (ys ++ zs)
  insert_all-once {xs} {ys} h [] = subst (EachOnce same xs) (sym (append-nil ys)) h
  insert_all-once {xs} {ys} h (z ∷ zs) =
      subst (EachOnce same (insert_all same (insert same xs z) zs)) (append_assoc ys (z ∷ []) zs) (insert_all-once {xs = insert same xs z} {ys = ys ++ (z ∷ [])} (one (any (same z) xs) (λ t. t) (λ t. t)) zs)
    where
      one : (b : Bool) → (T b → T (any (same z) xs)) → (T (not b) → T (not (any (same z) xs))) → EachOnce same (cond b xs (xs ++ (z ∷ []))) (ys ++ (z ∷ []))
      one true t n = again h z z (E.reflex z) (t tt)
      one false t n = fresh h z z (E.reflex z) (n tt)

  filter-apart : (p : A → Bool) (xs : List A) → T (apart same xs) → T (apart same (filter p xs))
  filter-apart p [] a = tt
  filter-apart p (x ∷ xs) a = by-test (p x) (filter-apart p xs (and_r (not (any (same x) xs)) (apart same xs) a))
    where
      kept : T (not (any (same x) (filter p xs)))
      kept = not_T (any (same x) (filter p xs)) (λ t. T_not (any (same x) xs) (and_l (not (any (same x) xs)) (apart same xs) a)
          (any-imp (λ z. p z && same x z) (same x) xs (λ z u. and_r (p z) (same x z) u) (subst T (any-filter (same x) p xs) t)))

      by-test : (b : Bool) → T (apart same (filter p xs)) → T (apart same (cond b (x ∷ filter p xs) (filter p xs)))
      by-test true h = and_i (not (any (same x) (filter p xs))) (apart same (filter p xs)) kept h
      by-test false h = h

  -- those that pass a test that cannot tell apart what is the same
  pub filter-once : (p : A → Bool) → ((x y : A) → T (same x y) → T (p x) → T (p y)) → {xs ys : List A} → EachOnce same xs ys → EachOnce same (filter p xs) (filter p ys)
  filter-once p r {xs} {ys} h = record {
    each-once = filter-apart p xs h.each-once;
    these = λ z.
        any-filter (same z) p xs
        ∙ any-set (λ x. p x && same z x) (λ x y s t. and_i (p y) (same z y) (r x y s (and_l (p x) (same z x) t)) (E.chain z x y (and_r (p x) (same z x) t) s)) xs ys h.these
        ∙ sym (any-filter (same z) p ys);
  }
