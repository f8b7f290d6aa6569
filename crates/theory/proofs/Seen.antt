-- Runs without unseen ticks: there is one filling, the answer is broken exactly when TESL's formulas fail for it, and else it is holding with live 1, clear exactly when nothing is owed. Assumes nothing.
use mathlib.Core.Bool.{Bool, true, false, cond, ◌&&◌, ◌||◌}
use mathlib.Core.List.{List, [], ◌∷◌, ◌++◌, map}
use mathlib.Core.Logic.Iff
use mathlib.Core.Logic.{◌↔◌, ◌≢◌}
use mathlib.Core.Path.{◌≡◌, refl, sym, ap, ◌∙◌, subst}
use Prim.Native.Nat.{ℕ}
use native.Mathlib.Omega.{arith}
use lib.Dec.{T, eqb, eqb→eq}
use lib.IntN.{ℤ}
use lib.ListN.{length}
use Rattle.records.specs.declared.instant.Tick.{Tick}
use Rattle.records.specs.declared.instant.Tick.TheVariants.{Idle, Ticks, Unseen}
use Rattle.records.specs.Sheet.{SheetValue}
use Rattle.tesl.specs.Lists.{all, any, filter, distinct, flat_map}
use Rattle.tesl.specs.Run.{Instant, ticks_of, tags_of, Filled, fill_ticks, fillings, run_fillings}
use Rattle.tesl.specs.Fits.{most_tag, Obligation, unmet, Countdown, run_countdowns, fits}
use Rattle.tesl.specs.Remainder.{remainder, same_remainder, same_obligation, same_countdown, distinct_count, owes, counts, is_clear}
use Rattle.tesl.specs.Answer.{Standing, clear, owed, exhausted, broken, holding, remainders, over, standing, judged, verdict, answer_within}
use Rattle.tesl.specs.Formula.{NoneFalls, EachHolds}
use Rattle.theory.specs.Unmet.{NoneOwed}
use Rattle.theory.specs.Limits.{OnScale}
use Rattle.theory.specs.Seen.{is_seen, Seen, ticked, seen_run, SeenJudged}
use Rattle.tesl.proofs.Tests.{and_l, and_r, or_l, or-e, T→≡}
use Rattle.tesl.proofs.Formula.{fits-holds}
use Rattle.theory.proofs.Scale.{filled-scale}
use Rattle.theory.proofs.Unmet.{none-owed}

-- ---- a run without unseen ticks, and its one filling

one-tick-list : (ts : List Tick) → T (all is_seen ts) → fill_ticks ts ≡ map ticked ts ∷ []
one-tick-list [] t = refl
one-tick-list (Idle ∷ ts) t = ap (map (λ (r : List Bool). false ∷ r)) (one-tick-list ts t)
one-tick-list (Ticks ∷ ts) t = ap (map (λ (r : List Bool). true ∷ r)) (one-tick-list ts t)
one-tick-list (Unseen ∷ ts) t = absurd t

pub one-filling : (run : List Instant) → Seen run → run_fillings run ≡ seen_run run ∷ []
unfolding run_fillings fillings
one-filling [] t = refl
one-filling (i ∷ run) t =
    ap (λ (bs : List (List Bool)). flat_map (λ (f : Filled). map (λ (r : List Filled). f ∷ r) (run_fillings run)) (map (λ (b : List Bool). record { ticks = b; tags = tags_of i }) bs))
    (one-tick-list (ticks_of i) (and_l (all is_seen (ticks_of i)) (all (λ (j : Instant). all is_seen (ticks_of j)) run) t))
    ∙ ap (λ (rs : List (List Filled)). map (λ (r : List Filled). record { ticks = map ticked (ticks_of i); tags = tags_of i } ∷ r) rs ++ [])
    (one-filling run (and_r (all is_seen (ticks_of i)) (all (λ (j : Instant). all is_seen (ticks_of j)) run) t))

-- ---- the answer

some-kept : {A : Type 0} (same : A → A → Bool) (x : A) (xs : List A) → length (distinct same (x ∷ xs)) ≡ 0 → ⊥
some-kept {A} same x xs = go (distinct same xs)
  where
    go : (d : List A) → length (cond (any (same x) d) d (x ∷ d)) ≡ 0 → ⊥
    go [] = λ e. omega arith
    go (y ∷ d) = elim (any (same x) (y ∷ d)) as (λ b. length (cond b (y ∷ d) (x ∷ (y ∷ d))) ≡ 0 → ⊥) [ true ↦ λ e. omega arith | false ↦ λ e. omega arith ]

-- where the number of a set is 0, there is none
none_kept : {A : Type 0} (same : A → A → Bool) (xs : List A) → distinct_count same xs ≡ 0 → xs ≡ []
none_kept same [] e = refl
none_kept same (x ∷ xs) e = absurd (some-kept same x xs e)

pub clear-exactly : (s : SheetValue) (f : List Filled) → T (is_clear (remainder s f)) ↔ NoneOwed most_tag s.lines f
unfolding remainder owes counts is_clear
clear-exactly s f = Iff.trans (there, back) (none-owed most_tag s.lines f)
  where
    os : List Obligation
    os = unmet most_tag s.lines f

    cs : List Countdown
    cs = run_countdowns s.lines f

    there : T (eqb (distinct_count same_obligation os) 0 && eqb (distinct_count same_countdown cs) 0) → (os ≡ []) × (cs ≡ [])
    there t =
        let a = distinct_count same_obligation os in
        let b = distinct_count same_countdown cs in
        (none_kept same_obligation os (eqb→eq a 0 (and_l (eqb a 0) (eqb b 0) t)), none_kept same_countdown cs (eqb→eq b 0 (and_r (eqb a 0) (eqb b 0) t)))

    back : (os ≡ []) × (cs ≡ []) → T (eqb (distinct_count same_obligation os) 0 && eqb (distinct_count same_countdown cs) 0)
    back e = subst T (sym (λ i. eqb (distinct_count same_obligation (e.0 i)) 0 && eqb (distinct_count same_countdown (e.1 i)) 0)) tt

pub clear-when : (b : Bool) → cond b clear owed ≡ clear → T b
clear-when true e = tt
clear-when false e = let z : ◌≡◌ {A = ℕ} 0 1 = cc in omega arith

pub clear_of : (b : Bool) → T b → cond b clear owed ≡ clear
clear_of true t = refl
clear_of false t = absurd t

one-clear : (s : SheetValue) (f : List Filled) → (standing (remainder s f ∷ []) ≡ clear) ↔ T (is_clear (remainder s f))
one-clear s f =
    let b = is_clear (remainder s f) in
    (λ e. or-e b false (clear-when (b || false) e) (λ u. u) absurd, λ t. clear_of (b || false) (or_l b false t))

module _ (s : SheetValue) (run : List Instant) where
  not-exhausted : (room : ℕ) → (answer_within room s run ≡ exhausted → ⊥) → answer_within room s run ≡ judged (remainders s run)
  unfolding answer_within
  not-exhausted room n = go (over room s run) n
    where
      go : (b : Bool) → (verdict b (remainders s run) ≡ exhausted → ⊥) → verdict b (remainders s run) ≡ judged (remainders s run)
      go true n = absurd (n refl)
      go false n = refl

  one-remainder : (f : List Filled) → run_fillings run ≡ f ∷ [] → remainders s run ≡ cond (fits s f) (remainder s f ∷ []) []
  unfolding remainders
  one-remainder f e = ap (λ (fs : List (List Filled)). distinct same_remainder (map (remainder s) (filter (fits s) fs))) e
      ∙ elim (fits s f) as (λ b. distinct same_remainder (map (remainder s) (cond b (f ∷ []) [])) ≡ cond b (remainder s f ∷ []) []) [ true ↦ refl | false ↦ refl ]

fails : (b : Bool) → (T b → ⊥) → b ≡ false
fails true n = absurd (n tt)
fails false n = refl

seen-tags : (run : List Instant) → map (λ (g : Filled). g.tags) (seen_run run) ≡ map tags_of run
seen-tags [] = refl
seen-tags (i ∷ run) = ap (λ (ts : List (List ℤ)). tags_of i ∷ ts) (seen-tags run)

pub seen-judged : (room : ℕ) (s : SheetValue) (run : List Instant) → OnScale most_tag run → SeenJudged s run (answer_within room s run)
unfolding judged
seen-judged room s run on t n = record {
  breaks = (λ e h. let w = holds h in let z : ◌≡◌ {A = ℕ} 0 1 = cc w.1 in omega arith, breaks);
  else-holds = λ k. by-test (fits s f) (λ u. u) (λ u. u) k;
}
  where
    f : List Filled
    f = seen_run run

    exactly : T (fits s f) ↔ (NoneFalls s.clocks f × EachHolds s.lines f)
    exactly = fits-holds s f (filled-scale run f (seen-tags run) on)

    said : answer_within room s run ≡ judged (cond (fits s f) (remainder s f ∷ []) [])
    said = not-exhausted s run room n ∙ ap judged (one-remainder s run f (one-filling run t))

    Holding : Type 0
    Holding = (standing : Standing) × (answer_within room s run ≡ holding 1 standing) × ((standing ≡ clear) ↔ NoneOwed most_tag s.lines f)

    holds : NoneFalls s.clocks f × EachHolds s.lines f → Holding
    holds h = (
      standing (remainder s f ∷ []),
      said ∙ ap (λ (b : Bool). judged (cond b (remainder s f ∷ []) [])) (T→≡ (fits s f) (exactly.1 h)),
      Iff.trans (one-clear s f) (clear-exactly s f),
    )

    breaks : (NoneFalls s.clocks f × EachHolds s.lines f → ⊥) → answer_within room s run ≡ broken
    breaks none = said ∙ ap (λ (b : Bool). judged (cond b (remainder s f ∷ []) [])) (fails (fits s f) (λ u. none (exactly.0 u)))

    by-test : (b : Bool) → (T b → T (fits s f)) → (T (fits s f) → T b) → answer_within room s run ≢ broken → Holding
    by-test true y _ k = holds (exactly.0 (y tt))
    by-test false _ y k = absurd (k (breaks (λ h. y (exactly.1 h))))
