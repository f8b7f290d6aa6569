-- One filling for each remainder held, then each filling of an instant: every successor is reached, in the order in which the monitor works. Assumes nothing.
use mathlib.Core.Bool.{Bool, true, false, cond, ◌&&◌, ◌||◌, or-false}
use mathlib.Core.List.{List, [], ◌∷◌, ◌++◌, append-nil, Memᴰ}
use mathlib.Core.Option.{Option, some}
use mathlib.Core.Path.{◌≡◌, refl, sym, ap, ◌∙◌, subst, fun_ext}
use Prim.Native.Nat.{ℕ, ◌≤◌}
use native.Mathlib.Omega.{arith}
use lib.IntN.{ℤ, pos}
use lib.ListN.{length, replicate}
use Rattle.records.specs.Lists.{filled}
use Rattle.records.specs.Types.{All}
use Rattle.records.specs.Sheet.{SheetValue}
use Rattle.tesl.specs.Lists.{all, any, flat_map}
use Rattle.tesl.specs.Run.{Instant, ticks_of, tags_of, Filled, fillings}
use Rattle.tesl.specs.Fits.{most_tag}
use Rattle.tesl.specs.Remainder.{Remainder, same_remainder}
use Rattle.theory.specs.Sets.{SameSet}
use Rattle.theory.specs.Step.{next, step_ok}
use Rattle.theory.specs.Held.{successors}
use Rattle.theory.proofs.Fill.{foldl}
use Rattle.theory.proofs.Lists.{any-flat_map}
use Rattle.theory.proofs.Held.{successors-any}
use Rattle.theory.proofs.Members.{each_of}
use Rattle.work.specs.View.{tags_before}
use Rattle.work.specs.Questions.{ticks_hold}
use Rattle.work.specs.Owed.{Owings, begun_by}
use Rattle.work.specs.Work.{advanced, took, all_advanced, filling, fill_from, worked}
use Rattle.work.proofs.Padded.{padded, last_in, tags_fit, goes_on, step_ok-law, fill_is, filling-tags}
use Rattle.work.proofs.Advance.{steps}
use Rattle.work.proofs.Gather.{Gathering, gather-one, gather-fold}

-- ---- lists of lists

flat_map-none : {A B : Type 0} (g : A → List B) (xs : List A) → All (λ (x : A). g x ≡ []) xs → flat_map g xs ≡ []
flat_map-none g [] h = refl
flat_map-none g (x ∷ xs) h = rw (h.0, flat_map-none g xs h.1)

or-regroup : (a b c d : Bool) → ((a || b) || (c || d)) ≡ ((a || c) || (b || d))
or-regroup true b c d = refl
or-regroup false true true d = refl
or-regroup false true false d = refl
or-regroup false false c d = refl

module _ {A B : Type 0} (q : A → B → Bool) where
  -- the two loops in either order
  any_swap : (xs : List A) (ys : List B) → any (λ (x : A). any (q x) ys) xs ≡ any (λ (y : B). any (λ (x : A). q x y) xs) ys
  any_swap [] ys = sym (nothing ys)
    where
      nothing : (ys : List B) → any (λ (y : B). false) ys ≡ false
      nothing [] = refl
      nothing (y ∷ ys) = nothing ys
  any_swap (x ∷ xs) ys = ap (λ (b : Bool). any (q x) ys || b) (any_swap xs ys) ∙ sym (both ys)
    where
      both : (ys : List B) → any (λ (y : B). q x y || any (λ (z : A). q z y) xs) ys ≡ (any (q x) ys || any (λ (y : B). any (λ (z : A). q z y) xs) ys)
      both [] = refl
      both (y ∷ ys) = ap (λ (b : Bool). (q x y || any (λ (z : A). q z y) xs) || b) (both ys)
          ∙ or-regroup (q x y) (any (λ (z : A). q z y) xs) (any (q x) ys) (any (λ (y : B). any (λ (z : A). q z y) xs) ys)

-- ---- the successors by the fillings

module _ (v : SheetValue) (last : Option (List ℤ)) where
  -- what a remainder becomes under a filling, if that may follow
  abbrev pub one : Filled → Remainder → List Remainder
  one f r = cond (step_ok v last f r) (next v f r ∷ []) []

  abbrev pub reached : List Remainder → List Filled → List Remainder
  reached rs fs = flat_map (λ (f : Filled). flat_map (one f) rs) fs

  any-one : (p : Remainder → Bool) (f : Filled) (r : Remainder) → any p (one f r) ≡ (step_ok v last f r && p (next v f r))
  any-one p f r = by-test (step_ok v last f r)
    where
      by-test : (b : Bool) → any p (cond b (next v f r ∷ []) []) ≡ (b && p (next v f r))
      by-test true = or-false (p (next v f r))
      by-test false = refl

  pub reached-are : (i : Instant) (rs : List Remainder) → SameSet same_remainder (reached rs (fillings i)) (successors v last i rs)
  reached-are i rs x =
      let p = same_remainder x in
      any-flat_map p (λ (f : Filled). flat_map (one f) rs) (fillings i)
      ∙ ap (λ (q : Filled → Bool). any q (fillings i))
      (fun_ext (λ f. any-flat_map p (one f) rs ∙ ap (λ (q : Remainder → Bool). any q rs) (fun_ext (λ r. any-one p f r))))
      ∙ any_swap (λ (f : Filled) (r : Remainder). step_ok v last f r && p (next v f r)) (fillings i) rs
      ∙ sym (successors-any v last i p rs)

  -- nothing is reached by a filling that none may take
  none-reached : (f : Filled) (rs : List Remainder) → ((r : Remainder) → step_ok v last f r ≡ false) → flat_map (one f) rs ≡ []
  none-reached f rs h = flat_map-none (one f) rs (each_of (λ (r : Remainder). one f r ≡ []) rs (λ r m. ap (λ (b : Bool). cond b (next v f r ∷ []) []) (h r)))

all-advanced-fold : (room : ℕ) (v : SheetValue) (f : Filled) (begun : Owings) (rs : List Remainder) (found : Option (List Remainder))
    → all_advanced room v f begun rs found ≡ foldl (λ (q : Option (List Remainder)) (r : Remainder). took room q (advanced v f begun r)) found rs
unfolding all_advanced
all-advanced-fold room v f begun [] found = refl
all-advanced-fold room v f begun (r ∷ rs) found = all-advanced-fold room v f begun rs (took room found (advanced v f begun r))

-- ---- the work on an instant

module _ (room : ℕ) (v : SheetValue) (first : Bool) (was : List ℤ) (i : Instant) where
  abbrev last : Option (List ℤ)
  last = last_in v first was

  abbrev tags : List ℤ
  tags = filled 8 (pos 0) (tags_of i)

  -- a filling may follow by its tags, its ticks and what is carried
  step_by : {f : Filled} {a b : Bool} → Memᴰ f (fillings i) → tags_fit v (tags_before first was) tags ≡ a → all (ticks_hold (padded f).ticks) v.lines ≡ b → (r : Remainder)
      → step_ok v last f r ≡ (a && (b && goes_on v (padded f) r))
  step_by {f} {a} m d e r =
      step_ok-law v first was f r
      ∙ ap (λ (t : List ℤ). tags_fit v (tags_before first was) (filled 8 (pos 0) t) && (all (ticks_hold (padded f).ticks) v.lines && goes_on v (padded f) r)) (filling-tags i m)
      ∙ ap (λ (c : Bool). c && (all (ticks_hold (padded f).ticks) v.lines && goes_on v (padded f) r)) d
      ∙ ap (λ (c : Bool). a && (c && goes_on v (padded f) r)) e

  module _ (rs : List Remainder) (shaped : (r : Remainder) → Memᴰ r rs → (length r.stopped ≡ v.clocks) × (length r.owed ≤ 8) × (length r.countdowns ≤ 8)) where
    abbrev Work : List Remainder → Option (List Remainder) → Type 0
    Work = Gathering room v last i rs

    nothing_yet : Work [] (some [])
    nothing_yet = record { among = λ x t. absurd t; live = omega arith; owe = tt; tidy = λ p. tt; once = λ p. record { each-once = tt; these = λ x. refl } }

    apply-one : tags_fit v (tags_before first was) tags ≡ true → (done : List Remainder) (found : Option (List Remainder)) (f : Filled) → Memᴰ f (fillings i) → Work done found
        → Work (done ++ flat_map (one v last f) rs) (filling room v tags rs found (padded f).ticks)
    unfolding filling
    apply-one fit done found f m h =
        subst (λ (t : List ℤ). Work (done ++ flat_map (one v last f) rs) (filling room v (filled 8 (pos 0) t) rs found (padded f).ticks)) (filling-tags i m)
        (by-test (all (ticks_hold (padded f).ticks) v.lines) refl)
      where
        begun : Owings
        begun = begun_by most_tag v.lines (padded f)

        by-test : (b : Bool) → all (ticks_hold (padded f).ticks) v.lines ≡ b
            → Work (done ++ flat_map (one v last f) rs) (cond b (all_advanced room v (padded f) begun rs found) found)
        by-test true e =
            subst (Work (done ++ flat_map (one v last f) rs)) (sym (all-advanced-fold room v (padded f) begun rs found))
            (gather-fold room v last i rs (λ q r. took room q (advanced v (padded f) begun r)) (one v last f) (λ (r : Remainder). Memᴰ r rs)
            (λ done found r n k. gather-one room v last i rs n m done found (λ t. t) (steps v f r (shaped r n).0 (shaped r n).1 (shaped r n).2 (step_by m fit e r)) k)
            done found rs (each_of (λ (r : Remainder). Memᴰ r rs) rs (λ r n. n)) h)
        by-test false e = subst (λ (l : List Remainder). Work l found) (sym (ap (λ (l : List Remainder). done ++ l) (none-reached v last f rs (step_by m fit e)) ∙ append-nil done)) h

    by-fit : length i ≤ 8 → (b : Bool) → tags_fit v (tags_before first was) tags ≡ b
        → Work (reached v last rs (fillings i)) (cond b (fill_from (filling room v tags rs) 0 (ticks_of i) (replicate 8 false) (some [])) (some []))
    by-fit size true e =
        subst (Work (reached v last rs (fillings i))) (sym (fill_is (filling room v tags rs) i size (some [])))
        (gather-fold room v last i rs (λ q f. filling room v tags rs q (padded f).ticks) (λ (f : Filled). flat_map (one v last f) rs) (λ (f : Filled). Memᴰ f (fillings i))
        (apply-one e) [] (some []) (fillings i) (each_of (λ (f : Filled). Memᴰ f (fillings i)) (fillings i) (λ f m. m)) nothing_yet)
    by-fit size false e =
        subst (λ (l : List Remainder). Work l (some []))
        (sym (flat_map-none (λ (f : Filled). flat_map (one v last f) rs) (fillings i)
        (each_of (λ (f : Filled). flat_map (one v last f) rs ≡ []) (fillings i) (λ f m. none-reached v last f rs (step_by m e refl))))) nothing_yet

  pub worked-gathers : length i ≤ 8 → (rs : List Remainder) → ((r : Remainder) → Memᴰ r rs → (length r.stopped ≡ v.clocks) × (length r.owed ≤ 8) × (length r.countdowns ≤ 8))
      → Gathering room v last i rs (reached v last rs (fillings i)) (worked room v (tags_before first was) (ticks_of i) tags (some rs))
  unfolding worked
  worked-gathers size [] shaped =
      subst (λ (l : List Remainder). Gathering room v last i [] l (some []))
      (sym (flat_map-none (λ (f : Filled). []) (fillings i) (each_of (λ (f : Filled). [] ≡ []) (fillings i) (λ f m. refl)))) (nothing_yet [] shaped)
  worked-gathers size (r ∷ rs) shaped = by-fit (r ∷ rs) shaped size (tags_fit v (tags_before first was) tags) refl
