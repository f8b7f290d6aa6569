-- `same_remainder` is an equivalence, and the step and the numbers of obligations and countdowns cannot tell apart what it calls the same. Assumes nothing.
use mathlib.Core.Bool.{Bool, true, false, not, ◌&&◌, ◌||◌, beq}
use mathlib.Core.List.{List, [], ◌∷◌}
use mathlib.Core.Option.{Option, some}
use mathlib.Core.Path.{◌≡◌, refl, sym, ap, ◌∙◌, subst}
use Prim.Native.Nat.{ℕ}
use lib.Dec.{T, ltb, eqb, eqb→eq, eqb_refl}
use lib.IntN.{ℤ}
use Rattle.records.specs.declared.line.Line.{Line}
use Rattle.records.specs.Sheet.{SheetValue}
use Rattle.tesl.specs.Lists.{all, any, filter, flat_map, same_list}
use Rattle.tesl.specs.Run.{Filled, tag_in}
use Rattle.tesl.specs.Fits.{eq_z, most_tag, Obligation, meets, owed_from, not_late, Countdown, left_of, left_by}
use Rattle.tesl.specs.Remainder.{Remainder, same_obligation, same_countdown, same_sets, same_remainder, owes, counts, overfull, is_clear}
use lib.Signed.{le_z}
use Rattle.theory.specs.Sets.{SameSet}
use Rattle.theory.specs.Step.{next, step_ok, next_owed, misses, begun_countdowns, next_countdowns}
use Rattle.tesl.proofs.Tests.{and_l, and_r, and_i}
use Rattle.theory.proofs.Lists.{any_append, any-filter, any-flat_map, all-as-any}
use Rattle.theory.proofs.Sets.{Equivalence, any-set, sets_same, same-sets, distinct-length}
use Rattle.tesl.proofs.FormulaOwed.{eq_z→eq}
use Rattle.theory.proofs.Whole.{eq_z-refl}

-- ---- a test that says yes only to equals, and yes to each with itself

pub record Equality {A : Type 0} (same : A → A → Bool) : Type 0 where
  pub equal : (a b : A) → T (same a b) → a ≡ b
  pub own : (a : A) → T (same a a)

module _ {A : Type 0} {same : A → A → Bool} (E : Equality same) where
  pub by-equality : Equivalence same
  by-equality = record {
    reflex = E.own;
    swap = λ x y s. subst (λ (z : A). T (same z x)) (E.equal x y s) (E.own x);
    chain = λ x y z s t. subst (λ (w : A). T (same x w)) (E.equal y z t) s;
  }

  -- any test says the same of the same set
  pub any-equal : (p : A → Bool) (xs ys : List A) → SameSet same xs ys → any p xs ≡ any p ys
  any-equal p = any-set same by-equality p (λ x y s t. subst (λ (a : A). T (p a)) (E.equal x y s) t)

  pub all-equal : (p : A → Bool) (xs ys : List A) → SameSet same xs ys → all p xs ≡ all p ys
  all-equal p xs ys e = all-as-any p xs ∙ ap not (any-equal (λ x. not (p x)) xs ys e) ∙ sym (all-as-any p ys)

-- ---- obligations and countdowns: the same are equal

pub owed-equality : Equality same_obligation
owed-equality = record { equal = equal; own = own }
  where
    equal : (a b : Obligation) → T (same_obligation a b) → a ≡ b
    equal a b t =
        let u = and_l (eqb a.clock b.clock && eq_z a.due b.due) (eqb a.on b.on) t in
        let c = eqb→eq a.clock b.clock (and_l (eqb a.clock b.clock) (eq_z a.due b.due) u) in
        let d = eq_z→eq a.due b.due (and_r (eqb a.clock b.clock) (eq_z a.due b.due) u) in
        let o = eqb→eq a.on b.on (and_r (eqb a.clock b.clock && eq_z a.due b.due) (eqb a.on b.on) t) in
        λ i. record { clock = c i; due = d i; on = o i }

    own : (a : Obligation) → T (same_obligation a a)
    own a = and_i (eqb a.clock a.clock && eq_z a.due a.due) (eqb a.on a.on)
        (and_i (eqb a.clock a.clock) (eq_z a.due a.due) (eqb_refl a.clock) (eq_z-refl a.due)) (eqb_refl a.on)

pub count-equality : Equality same_countdown
count-equality = record { equal = equal; own = own }
  where
    equal : (a b : Countdown) → T (same_countdown a b) → a ≡ b
    equal a b t =
        let u = and_l (eqb a.clock b.clock && eqb a.wanted b.wanted) (eqb a.on b.on) t in
        let c = eqb→eq a.clock b.clock (and_l (eqb a.clock b.clock) (eqb a.wanted b.wanted) u) in
        let w = eqb→eq a.wanted b.wanted (and_r (eqb a.clock b.clock) (eqb a.wanted b.wanted) u) in
        let o = eqb→eq a.on b.on (and_r (eqb a.clock b.clock && eqb a.wanted b.wanted) (eqb a.on b.on) t) in
        λ i. record { clock = c i; on = o i; wanted = w i }

    own : (a : Countdown) → T (same_countdown a a)
    own a = and_i (eqb a.clock a.clock && eqb a.wanted a.wanted) (eqb a.on a.on)
        (and_i (eqb a.clock a.clock) (eqb a.wanted a.wanted) (eqb_refl a.clock) (eqb_refl a.wanted)) (eqb_refl a.on)

pub owed-equivalence : Equivalence same_obligation
owed-equivalence = by-equality owed-equality

pub count-equivalence : Equivalence same_countdown
count-equivalence = by-equality count-equality

beq→eq : (a b : Bool) → T (beq a b) → a ≡ b
beq→eq true true t = refl
beq→eq true false t = absurd t
beq→eq false true t = absurd t
beq→eq false false t = refl

beq-refl : (a : Bool) → T (beq a a)
beq-refl true = tt
beq-refl false = tt

module _ {A : Type 0} (same : A → A → Bool) where
  sameList→eq : ((a b : A) → T (same a b) → a ≡ b) → (xs ys : List A) → T (same_list same xs ys) → xs ≡ ys
  sameList→eq e [] [] t = refl
  sameList→eq e [] (y ∷ ys) t = absurd t
  sameList→eq e (x ∷ xs) [] t = absurd t
  sameList→eq e (x ∷ xs) (y ∷ ys) t =
      λ i. e x y (and_l (same x y) (same_list same xs ys) t) i ∷ sameList→eq e xs ys (and_r (same x y) (same_list same xs ys) t) i

  same_list-refl : ((a : A) → T (same a a)) → (xs : List A) → T (same_list same xs xs)
  same_list-refl r [] = tt
  same_list-refl r (x ∷ xs) = and_i (same x x) (same_list same xs xs) (r x) (same_list-refl r xs)

-- ---- remainders: what the test says, as a record

pub record Alike (a b : Remainder) : Type 0 where
  pub leads : a.leads ≡ b.leads
  pub stopped : a.stopped ≡ b.stopped
  pub owed : SameSet same_obligation a.owed b.owed
  pub countdowns : SameSet same_countdown a.countdowns b.countdowns

pub alike : (a b : Remainder) → T (same_remainder a b) → Alike a b
unfolding same_remainder
alike a b t =
    let p = same_list eqb a.leads b.leads in
    let q = same_list beq a.stopped b.stopped in
    let u = same_sets same_obligation a.owed b.owed in
    let v = same_sets same_countdown a.countdowns b.countdowns in
    let t₁ = and_r p (q && (u && v)) t in
    let t₂ = and_r q (u && v) t₁ in
    record {
      leads = sameList→eq eqb eqb→eq a.leads b.leads (and_l p (q && (u && v)) t);
      stopped = sameList→eq beq beq→eq a.stopped b.stopped (and_l q (u && v) t₁);
      owed = sets_same same_obligation owed-equivalence a.owed b.owed (and_l u v t₂);
      countdowns = sets_same same_countdown count-equivalence a.countdowns b.countdowns (and_r u v t₂);
    }

pub same_of : (a b : Remainder) → Alike a b → T (same_remainder a b)
unfolding same_remainder
same_of a b h =
    let p = same_list eqb a.leads b.leads in
    let q = same_list beq a.stopped b.stopped in
    let u = same_sets same_obligation a.owed b.owed in
    let v = same_sets same_countdown a.countdowns b.countdowns in
    and_i p (q && (u && v)) (subst (λ (l : List ℕ). T (same_list eqb a.leads l)) h.leads (same_list-refl eqb eqb_refl a.leads))
    (and_i q (u && v) (subst (λ (l : List Bool). T (same_list beq a.stopped l)) h.stopped (same_list-refl beq beq-refl a.stopped))
    (and_i u v (same-sets same_obligation owed-equivalence a.owed b.owed h.owed)
    (same-sets same_countdown count-equivalence a.countdowns b.countdowns h.countdowns)))

pub remainder-equivalence : Equivalence same_remainder
remainder-equivalence = record {
  reflex = λ x. same_of x x (record { leads = refl; stopped = refl; owed = λ o. refl; countdowns = λ c. refl });
  swap = λ x y s. let h = alike x y s in same_of y x (record { leads = sym h.leads; stopped = sym h.stopped; owed = λ o. sym (h.owed o); countdowns = λ c. sym (h.countdowns c) });
  chain = λ x y z s t.
      let h = alike x y s in
      let k = alike y z t in
      same_of x z (record { leads = h.leads ∙ k.leads; stopped = h.stopped ∙ k.stopped; owed = λ o. h.owed o ∙ k.owed o; countdowns = λ c. h.countdowns c ∙ k.countdowns c });
}

-- ---- the numbers of obligations and countdowns

owes_same : (a b : Remainder) → T (same_remainder a b) → owes a ≡ owes b
unfolding owes
owes_same a b t = distinct-length same_obligation owed-equivalence a.owed b.owed (alike a b t).owed

counts_same : (a b : Remainder) → T (same_remainder a b) → counts a ≡ counts b
unfolding counts
counts_same a b t = distinct-length same_countdown count-equivalence a.countdowns b.countdowns (alike a b t).countdowns

-- what is asked of a remainder cannot tell apart what is the same
abbrev pub Respects : (Remainder → Bool) → Type 0
Respects p = (a b : Remainder) → T (same_remainder a b) → T (p a) → T (p b)

pub overfull-respects : Respects overfull
unfolding overfull
overfull-respects a b s t = subst T (λ i. ltb 8 (owes_same a b s i) || ltb 8 (counts_same a b s i)) t

pub clear-respects : Respects is_clear
unfolding is_clear
clear-respects a b s t = subst T (λ i. eqb (owes_same a b s i) 0 && eqb (counts_same a b s i) 0) t

-- ---- the step

next_owed-any : (p : Obligation → Bool) (most : ℤ) (ls : List Line) (f : Filled) (xs ys : List Obligation) → SameSet same_obligation xs ys
    → any p (next_owed most ls f xs) ≡ any p (next_owed most ls f ys)
next_owed-any p most ls f xs ys e =
    let kept : Obligation → Bool = λ o. not (meets f o) in
    let begun = flat_map (owed_from most f) ls in
    any_append p (filter kept xs) begun
    ∙ ap (λ (b : Bool). b || any p begun) (any-filter p kept xs ∙ any-equal owed-equality (λ o. kept o && p o) xs ys e ∙ sym (any-filter p kept ys))
    ∙ sym (any_append p (filter kept ys) begun)

next_countdowns-any : (p : Countdown → Bool) (ls : List Line) (f : Filled) (xs ys : List Countdown) → SameSet same_countdown xs ys
    → any p (next_countdowns ls f xs) ≡ any p (next_countdowns ls f ys)
next_countdowns-any p ls f xs ys e =
    let begun = begun_countdowns ls f in
    let left : Countdown → List Countdown = left_of (f ∷ []) in
    any_append p (left_by (f ∷ []) xs) begun
    ∙ ap (λ (b : Bool). b || any p begun) (any-flat_map p left xs ∙ any-equal count-equality (λ c. any p (left c)) xs ys e ∙ sym (any-flat_map p left ys))
    ∙ sym (any_append p (left_by (f ∷ []) ys) begun)

pub next-same : (s : SheetValue) (f : Filled) (a b : Remainder) → T (same_remainder a b) → T (same_remainder (next s f a) (next s f b))
unfolding next
next-same s f a b t =
    let h = alike a b t in
    same_of (next s f a) (next s f b) (record {
      leads = rw h.leads;
      stopped = rw h.stopped;
      owed = λ o. next_owed-any (same_obligation o) most_tag s.lines f a.owed b.owed h.owed;
      countdowns = λ c. next_countdowns-any (same_countdown c) s.lines f a.countdowns b.countdowns h.countdowns;
    })

not_late-same : (now : List ℤ) (most : ℤ) (ls : List Line) (f : Filled) (xs ys : List Obligation) → SameSet same_obligation xs ys
    → not_late (some now) (next_owed most ls f xs) ≡ not_late (some now) (next_owed most ls f ys)
not_late-same now most ls f xs ys e =
    let due : Obligation → Bool = λ o. le_z (tag_in now o.on) o.due in
    all-as-any due (next_owed most ls f xs) ∙ ap not (next_owed-any (λ o. not (due o)) most ls f xs ys e) ∙ sym (all-as-any due (next_owed most ls f ys))

pub step_ok-same : (s : SheetValue) (last : Option (List ℤ)) (f : Filled) (a b : Remainder) → T (same_remainder a b) → step_ok s last f a ≡ step_ok s last f b
unfolding step_ok
step_ok-same s last f a b t =
    let h = alike a b t in
    rw (h.leads, h.stopped, all-equal count-equality (λ (c : Countdown). not (misses f c)) a.countdowns b.countdowns h.countdowns, not_late-same f.tags most_tag s.lines f a.owed b.owed h.owed)
