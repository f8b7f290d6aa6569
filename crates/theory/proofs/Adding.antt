-- Adding to a set with room for so many: the same set and each once, or more distinct ones than there is room for; to add each once is to add them all; and sets that have each once are equal by counts. Assumes nothing.
use mathlib.Core.Bool.{Bool, true, false, not, cond, ◌&&◌, ◌||◌}
use mathlib.Core.List.{List, [], ◌∷◌, ◌++◌, append-nil, append_assoc}
use mathlib.Core.Option.{Option, none, some}
use mathlib.Core.Path.{◌≡◌, refl, sym, ap, ◌∙◌, subst}
use Prim.Native.Nat.{ℕ, ◌≤◌, ◌<◌}
use native.Mathlib.Omega.{arith}
use lib.Dec.{T, ltb, eqb, ltb→lt, nltb→le, eqb→eq, eqb_refl}
use lib.ListN.{length, length-append}
use Rattle.tesl.specs.Lists.{any, within}
use Rattle.theory.specs.Sets.{apart, Covers, SameSet}
use Rattle.theory.specs.Adding.{onward, insert, insert_all, once_each, added_to, all_added_to, same_by_count}
use Rattle.tesl.proofs.Tests.{and_l, and_r, and_i, or_l, or_r, or-e, T→≡}
use Rattle.theory.proofs.Lists.{bool-ext, any_append, any_snoc}
use Rattle.theory.proofs.Sets.{Equivalence, any_same, apart_snoc, within→set, within-back, length-same}

module _ {A : Type 0} (same : A → A → Bool) (most : ℕ) where
  -- xs are these; as few as there is room for, and each once, if the ones before are
  pub record Tidied (before these xs : List A) : Type 0 where
    pub set : SameSet same xs these
    pub room : length before ≤ most → length xs ≤ most
    pub once : T (apart same before) → T (apart same xs)

  -- more than there is room for among these, distinct if the ones before are
  pub record Beyond (before these : List A) : Type 0 where
    pub among : List A
    pub covered : Covers same among these
    pub many : most < length among
    pub once : T (apart same before) → T (apart same among)

  pub data Adding (before these : List A) : Option (List A) → Type 0 where
    room : {xs : List A} → Tidied before these xs → Adding before these (some xs)
    full : Beyond before these → Adding before these none

  -- the same from an earlier list of them
  pub earlier : {before these later those : List A} {q : Option (List A)} → SameSet same those these → (length before ≤ most → length later ≤ most)
      → (T (apart same before) → T (apart same later)) → Adding later those q → Adding before these q
  earlier e l a (room h) = room (record { set = λ o. h.set o ∙ e o; room = λ k. h.room (l k); once = λ k. h.once (a k) })
  earlier e l a (full h) = full (record { among = h.among; covered = λ o t. subst T (e o) (h.covered o t); many = h.many; once = λ k. h.once (a k) })

module _ {A : Type 0} (same : A → A → Bool) (E : Equivalence same) (most : ℕ) where
  -- one that is there already adds nothing
  there-already : (o : A) (os begun : List A) → T (any (same o) os) → SameSet same (os ++ begun) (os ++ (o ∷ begun))
  there-already o os begun t z =
      let here = any (same z) os in
      let rest = any (same z) begun in
      any_append (same z) os begun
      ∙ bool-ext _ _
      (λ u. or-e here rest u (λ w. or_l here _ w) (λ w. or_r here _ (or_r (same z o) rest w)))
      (λ u. or-e here _ u (λ w. or_l here rest w)
      (λ w. or-e (same z o) rest w (λ x. or_l here rest (any_same same E z o os x t)) (λ x. or_r here rest x)))
      ∙ sym (any_append (same z) os (o ∷ begun))

  pub added-all : (begun os : List A) → Adding same most os (os ++ begun) (all_added_to same most begun os)
  unfolding added_to
  added-all [] os = room (record { set = λ o. ap (any (same o)) (sym (append-nil os)); room = λ k. k; once = λ k. k })
  added-all (o ∷ begun) os = one (any (same o) os) (ltb (length os) most) (λ t. t) (λ t. t) (λ t. t) (λ t. t) (added-all begun os) (added-all begun (os ++ (o ∷ [])))
    where
      one : (a b : Bool) → (T a → T (any (same o) os)) → (T (not a) → T (not (any (same o) os))) → (T b → T (ltb (length os) most))
          → (T (not b) → T (not (ltb (length os) most))) → Adding same most os (os ++ begun) (all_added_to same most begun os)
          → Adding same most (os ++ (o ∷ [])) ((os ++ (o ∷ [])) ++ begun) (all_added_to same most begun (os ++ (o ∷ [])))
          → Adding same most os (os ++ (o ∷ begun)) (onward (all_added_to same most begun) (cond a (some os) (cond b (some (os ++ (o ∷ []))) none)))
      one true b t n l g h k = earlier same most (there-already o os begun (t tt)) (λ w. w) (λ w. w) h
      one false true t n l g h k =
          earlier same most (λ z. ap (any (same z)) (append_assoc os (o ∷ []) begun)) (λ w. let lt = ltb→lt (length os) most (l tt) in omega (arith, length-append os (o ∷ [])))
          (λ w. apart_snoc same E os o w (n tt)) k
      one false false t n l g h k = full (record {
        among = os ++ (o ∷ []);
        covered = λ z u. subst T (ap (any (same z)) (append_assoc os (o ∷ []) begun))
            (subst T (sym (any_append (same z) (os ++ (o ∷ [])) begun)) (or_l (any (same z) (os ++ (o ∷ []))) (any (same z) begun) u));
        many = let le = nltb→le (length os) most (g tt) in omega (arith, length-append os (o ∷ []));
        once = λ w. apart_snoc same E os o w (n tt);
      })

  -- ---- one more is there

  -- these, if there are any, have o among them
  abbrev Has : A → Option (List A) → Type 0
  Has o none = Unit
  Has o (some q) = T (any (same o) q)

  snoc-has : (o x : A) (q : List A) → T (any (same o) q || same o x) → T (any (same o) (q ++ (x ∷ [])))
  snoc-has o x q t = subst T (sym (any_snoc (same o) q x)) t

  -- what is there is there with one more
  still-has : (o x : A) (q : List A) → T (any (same o) q) → Has o (added_to same most q x)
  unfolding added_to
  still-has o x q t = by_tests (any (same x) q) (ltb (length q) most)
    where
      by_tests : (a b : Bool) → Has o (cond a (some q) (cond b (some (q ++ (x ∷ []))) none))
      by_tests true b = t
      by_tests false true = snoc-has o x q (or_l (any (same o) q) (same o x) t)
      by_tests false false = tt

  -- the one more too
  now-has : (o x : A) (q : List A) → T (same o x) → Has o (added_to same most q x)
  unfolding added_to
  now-has o x q s = by_tests (any (same x) q) (ltb (length q) most) (λ t. t)
    where
      by_tests : (a b : Bool) → (T a → T (any (same x) q)) → Has o (cond a (some q) (cond b (some (q ++ (x ∷ []))) none))
      by_tests true b t = any_same same E o x q s (t tt)
      by_tests false true t = snoc-has o x q (or_r (any (same o) q) (same o x) s)
      by_tests false false t = tt

  -- ---- one after the other

  module _ (o : A) (more : List A) where
    -- after these, o adds nothing
    abbrev Needless : List A → List A → Type 0
    Needless os q = all_added_to same most (os ++ more) q ≡ all_added_to same most (os ++ (o ∷ more)) q

    needless-onward : (os : List A) (x : Option (List A)) → ((q : List A) → x ≡ some q → Needless os q) → onward (all_added_to same most (os ++ more)) x ≡ onward (all_added_to same most (os ++ (o ∷ more))) x
    needless-onward os none h = refl
    needless-onward os (some q) h = h q refl

    -- where it is there
    needless-there : (os q : List A) → T (any (same o) q) → Needless os q
    unfolding added_to
    needless-there [] q t = rw (T→≡ (any (same o) q) t)
    needless-there (x ∷ os) q t = needless-onward os (added_to same most q x) (λ p e. needless-there os p (subst (Has o) e (still-has o x q t)))

    -- where it is one of them
    needless-among : (os q : List A) → T (any (same o) os) → Needless os q
    needless-among [] q t = absurd t
    needless-among (x ∷ os) q t = or-e (same o x) (any (same o) os) t
        (λ u. needless-onward os (added_to same most q x) (λ p e. needless-there os p (subst (Has o) e (now-has o x q u))))
        (λ u. needless-onward os (added_to same most q x) (λ p e. needless-among os p u))

  inserted-added : (before os q : List A) → all_added_to same most (insert_all same before os) q ≡ all_added_to same most (before ++ os) q
  inserted-added before [] q = ap (λ (xs : List A). all_added_to same most xs q) (sym (append-nil before))
  inserted-added before (o ∷ os) q = inserted-added (insert same before o) os q ∙ by-test (any (same o) before) (λ t. t)
    where
      by-test : (a : Bool) → (T a → T (any (same o) before)) → all_added_to same most (cond a before (before ++ (o ∷ [])) ++ os) q ≡ all_added_to same most (before ++ (o ∷ os)) q
      by-test true t = needless-among o os before q (t tt)
      by-test false t = ap (λ (xs : List A). all_added_to same most xs q) (append_assoc before (o ∷ []) os)

  pub added-once : (os q : List A) → all_added_to same most (once_each same os) q ≡ all_added_to same most os q
  added-once os q = inserted-added [] os q

-- ---- equality by counts

pub by_count : {A : Type 0} (same : A → A → Bool) → Equivalence same → (xs ys : List A) → T (apart same xs) → T (apart same ys)
    → same_by_count same xs ys ≡ (within same xs ys && within same ys xs)
by_count same E xs ys a b =
    let c = eqb (length xs) (length ys) in
    let v = within same xs ys in
    let w = within same ys xs in
    bool-ext (c && w) (v && w)
    (λ t.
    let e = eqb→eq (length xs) (length ys) (and_l c w t) in
    and_i v w (within-back same E ys xs b (omega arith) (and_r c w t)) (and_r c w t))
    (λ t.
    and_i c w
    (subst (λ (n : ℕ). T (eqb (length xs) n)) (length-same same E xs ys a b (within→set same E xs ys (and_l v w t) (and_r v w t))) (eqb_refl (length xs)))
    (and_r v w t))
