-- What to answer from what is held: exhausted and broken stay; what an observer must find to answer exhausted; and the answer else. Assumes nothing.
use mathlib.Core.Bool.{Bool, true, false, not, ◌||◌, or-true, or-false}
use mathlib.Core.List.{List, [], ◌∷◌, ◌++◌, map, append_assoc, append-nil}
use mathlib.Core.Logic.{◌≢◌}
use mathlib.Core.Path.{◌≡◌, refl, sym, ap, ◌∙◌, subst}
use Prim.Native.Nat.{ℕ, ◌≤◌, ◌<◌}
use native.Mathlib.Omega.{arith}
use lib.Dec.{T, T_not, not_T, ltb, lt→ltb, ltb→lt, nltb→le}
use lib.ListN.{length}
use Rattle.records.specs.Sheet.{SheetValue}
use Rattle.tesl.specs.Lists.{any, filter, beginnings}
use Rattle.tesl.specs.Run.{Instant, run_fillings}
use Rattle.tesl.specs.Fits.{fits}
use Rattle.tesl.specs.Remainder.{Remainder, remainder, same_remainder, overfull}
use Rattle.tesl.specs.Answer.{Answer, exhausted, broken, holding, Standing, remainders, too_many, over, judged, verdict, answer_within}
use Rattle.theory.specs.Sets.{apart, Covers}
use Rattle.theory.specs.Step.{last_tags_of, well_formed}
use Rattle.theory.specs.Held.{Held, successors}
use Rattle.tesl.proofs.Tests.{or_l, or_r, or-e, T→≡}
use Rattle.theory.proofs.Lists.{F→≡, any_snoc, beginnings-snoc, snoc-ind}
use Rattle.theory.proofs.Sets.{distinct_apart}
use Rattle.theory.proofs.Respect.{remainder-equivalence, overfull-respects}
use Rattle.theory.proofs.Held.{held-step, many-found, one-more-found, one_found, held-too_many, held-judged, held_start}

is_exhausted : Answer → Bool
is_exhausted exhausted = true
is_exhausted broken = false
is_exhausted (holding live standing) = false

none-held : (s : SheetValue) (run : List Instant) → remainders s run ≡ [] → Held s run []
none-held s run e = record { each-once = tt; these = λ x. sym (ap (any (same_remainder x)) e) }

none-next : (s : SheetValue) → T (well_formed s) → (run : List Instant) (i : Instant) → remainders s run ≡ [] → Held s (run ++ (i ∷ [])) []
unfolding successors
none-next s wf run i e = held-step s wf run i [] (none-held s run e) [] (record { each-once = tt; these = λ x. refl })

-- with room for so many remainders
module _ (room : ℕ) where
  -- ---- exhausted, by the beginnings

  many : SheetValue → List Instant → Bool
  many s b = too_many room (remainders s b)

  over-snoc : (s : SheetValue) (run : List Instant) (i : Instant) → over room s (run ++ (i ∷ [])) ≡ (over room s run || many s (run ++ (i ∷ [])))
  unfolding over many
  over-snoc s run i = ap (any (many s)) (beginnings-snoc run i) ∙ any_snoc (many s) (beginnings run) (run ++ (i ∷ []))

  answer-by : (s : SheetValue) (run : List Instant) (b : Bool) → over room s run ≡ b → answer_within room s run ≡ verdict b (remainders s run)
  unfolding answer_within
  answer-by s run b e = ap (λ (c : Bool). verdict c (remainders s run)) e

  over-is : (s : SheetValue) (run : List Instant) → is_exhausted (answer_within room s run) ≡ over room s run
  unfolding is_exhausted judged answer_within
  over-is s run = by-test (over room s run) (remainders s run)
    where
      by-test : (b : Bool) (rs : List Remainder) → is_exhausted (verdict b rs) ≡ b
      by-test true rs = refl
      by-test false [] = refl
      by-test false (r ∷ rs) = refl

  not-over : (s : SheetValue) (run : List Instant) → answer_within room s run ≢ exhausted → over room s run ≡ false
  unfolding is_exhausted
  not-over s run n = sym (over-is s run) ∙ by_answer (answer_within room s run) n
    where
      by_answer : (a : Answer) → a ≢ exhausted → is_exhausted a ≡ false
      by_answer exhausted n = absurd (n refl)
      by_answer broken n = refl
      by_answer (holding live standing) n = refl

  pub exhausted-stays : (s : SheetValue) (run : List Instant) (i : Instant) → answer_within room s run ≡ exhausted → answer_within room s (run ++ (i ∷ [])) ≡ exhausted
  unfolding is_exhausted
  exhausted-stays s run i e = answer-by s (run ++ (i ∷ [])) true
      (over-snoc s run i ∙ ap (λ (b : Bool). b || many s (run ++ (i ∷ []))) (sym (over-is s run) ∙ ap is_exhausted e))

  pub exhausted-now : (s : SheetValue) (run : List Instant) (i : Instant) → T (too_many room (remainders s (run ++ (i ∷ [])))) → answer_within room s (run ++ (i ∷ [])) ≡ exhausted
  unfolding many
  exhausted-now s run i t = answer-by s (run ++ (i ∷ [])) true
      (over-snoc s run i ∙ ap (λ (b : Bool). over room s run || b) (T→≡ (many s (run ++ (i ∷ []))) t) ∙ or-true (over room s run))

  -- ---- what an observer must find to answer exhausted, in any order of work

  module _ (s : SheetValue) (wf : T (well_formed s)) (run : List Instant) (i : Instant) (rs : List Remainder) (h : Held s run rs) where
    -- a: more distinct ones among the successors than there is room for; or as many, and one that is none of them
    by_number : room < length (remainders s (run ++ (i ∷ []))) → answer_within room s (run ++ (i ∷ [])) ≡ exhausted
    unfolding too_many
    by_number l =
        let new = remainders s (run ++ (i ∷ [])) in
        exhausted-now s run i (or_l (ltb room (length new)) (any overfull new) (lt→ltb room (length new) l))

    pub exhausted-by-many : (among : List Remainder) → T (apart same_remainder among) → Covers same_remainder among (successors s (last_tags_of run) i rs) → room < length among
        → answer_within room s (run ++ (i ∷ [])) ≡ exhausted
    exhausted-by-many among a c l = by_number (many-found s wf run i rs h room among a c l)

    pub exhausted-by-one-more : (among : List Remainder) → T (apart same_remainder among) → Covers same_remainder among (successors s (last_tags_of run) i rs) → room ≤ length among
        → (x : Remainder) → T (any (same_remainder x) (successors s (last_tags_of run) i rs)) → T (not (any (same_remainder x) among)) → answer_within room s (run ++ (i ∷ [])) ≡ exhausted
    exhausted-by-one-more among a c l x t n = by_number (one-more-found s wf run i rs h room among a c l x t n)

    -- b: one successor with more than eight obligations
    pub exhausted-by-owed : (x : Remainder) → T (any (same_remainder x) (successors s (last_tags_of run) i rs)) → T (overfull x) → answer_within room s (run ++ (i ∷ [])) ≡ exhausted
    unfolding too_many
    exhausted-by-owed x t l =
        let new = remainders s (run ++ (i ∷ [])) in
        exhausted-now s run i (or_r (ltb room (length new)) (any overfull new) (one_found s wf run i rs h overfull overfull-respects x t l))

  -- ---- else the answer goes by what is held

  few : (rs : List Remainder) → length rs ≤ room → T (not (any overfull rs)) → T (not (too_many room rs))
  unfolding too_many
  few rs l a = not_T (ltb room (length rs) || any overfull rs)
      (λ t. or-e (ltb room (length rs)) (any overfull rs) t (λ u. let k = ltb→lt room (length rs) u in absurd (omega arith)) (T_not (any overfull rs) a))

  pub answer-next : (s : SheetValue) (run : List Instant) (i : Instant) (new : List Remainder) → answer_within room s run ≢ exhausted → Held s (run ++ (i ∷ [])) new
      → length new ≤ room → T (not (any overfull new)) → answer_within room s (run ++ (i ∷ [])) ≡ judged new
  unfolding many
  answer-next s run i new n h l a = answer-by s (run ++ (i ∷ [])) false
      (over-snoc s run i
      ∙ ap (λ (b : Bool). b || many s (run ++ (i ∷ []))) (not-over s run n)
      ∙ sym (held-too_many s (run ++ (i ∷ [])) new h room)
      ∙ F→≡ (too_many room new) (few new l a))
      ∙ sym (held-judged s (run ++ (i ∷ [])) new h)

  -- at the opening
  pub answer-start : 1 ≤ room → (s : SheetValue) (r : Remainder) → T (same_remainder r (remainder s [])) → T (not (overfull r)) → answer_within room s [] ≡ judged (r ∷ [])
  unfolding over many
  answer-start one s r e l =
      let h = held_start s e in
      answer-by s [] false
      (or-false (many s []) ∙ sym (held-too_many s [] (r ∷ []) h room) ∙ F→≡ (too_many room (r ∷ []))
      (few (r ∷ []) (omega arith) (subst (λ (b : Bool). T (not b)) (sym (or-false (overfull r))) l)))
      ∙ sym (held-judged s [] (r ∷ []) h)

  -- what is held where the answer isn't exhausted is within the bounds
  pub held-few : (s : SheetValue) (run : List Instant) (rs : List Remainder) → answer_within room s run ≢ exhausted → Held s run rs
      → (length rs ≤ room) × T (not (any overfull rs))
  unfolding too_many over many
  held-few s run rs n h = (
    nltb→le room (length rs) (not_T (ltb room (length rs)) (λ t. not-many (or_l (ltb room (length rs)) (any overfull rs) t))),
    not_T (any overfull rs) (λ t. not-many (or_r (ltb room (length rs)) (any overfull rs) t)),
  )
    where
      whole : (b : List Instant) → T (many s b) → T (over room s b)
      whole = snoc-ind (λ (b : List Instant). T (many s b) → T (over room s b)) (λ t. or_l (many s []) false t)
          (λ b i ih t. subst T (sym (over-snoc s b i)) (or_r (over room s b) (many s (b ++ (i ∷ []))) t))

      not-many : T (too_many room rs) → ⊥
      not-many t = subst T (not-over s run n) (whole run (subst T (held-too_many s run rs h room) t))

  -- so live is at most the room
  pub few-remainders : (s : SheetValue) (run : List Instant) → answer_within room s run ≢ exhausted → length (remainders s run) ≤ room
  unfolding remainders
  few-remainders s run n =
      (held-few s run (remainders s run) n
      (record { each-once = distinct_apart same_remainder remainder-equivalence (map (remainder s) (filter (fits s) (run_fillings run))); these = λ x. refl })
      ).0

  holding-live : (s : SheetValue) (run : List Instant) {n : ℕ} {standing : Standing} → answer_within room s run ≡ holding n standing → n ≡ length (remainders s run)
  unfolding answer_within judged
  holding-live s run {n} {standing} e = by-test (over room s run) (remainders s run) e
    where
      by-test : (b : Bool) (rs : List Remainder) → verdict b rs ≡ holding n standing → n ≡ length rs
      by-test true rs x = let z : ◌≡◌ {A = ℕ} 0 1 = cc in absurd (omega arith)
      by-test false [] x = let z : ◌≡◌ {A = ℕ} 0 1 = cc in absurd (omega arith)
      by-test false (r ∷ rs) x = cc

  pub holding-few : (s : SheetValue) (run : List Instant) {n : ℕ} {standing : Standing} → answer_within room s run ≡ holding n standing → n ≤ room
  holding-few s run e =
      let h = few-remainders s run (λ x. let z : ◌≡◌ {A = ℕ} 0 1 = cc in absurd (omega arith)) in
      let l = holding-live s run e in
      omega arith

  -- ---- broken stays

  -- the answer is broken where none is left and no beginning had too many
  broken-is : (s : SheetValue) (run : List Instant) → answer_within room s run ≡ broken → (answer_within room s run ≢ exhausted) × (remainders s run ≡ [])
  unfolding answer_within judged
  broken-is s run e = (λ x. differ (sym x ∙ e), by-test (over room s run) (remainders s run) e)
    where
      differ : exhausted ≡ broken → ⊥
      differ x = let z : ◌≡◌ {A = ℕ} 0 1 = cc in absurd (omega arith)

      by-test : (b : Bool) (rs : List Remainder) → verdict b rs ≡ broken → rs ≡ []
      by-test true rs x = absurd (differ x)
      by-test false [] x = refl
      by-test false (r ∷ rs) x = let z : ◌≡◌ {A = ℕ} 0 1 = cc in absurd (omega arith)

  pub broken-stays : (s : SheetValue) → T (well_formed s) → (run later : List Instant) → answer_within room s run ≡ broken → answer_within room s (run ++ later) ≡ broken
  unfolding judged
  broken-stays s wf run [] e = ap (answer_within room s) (append-nil run) ∙ e
  broken-stays s wf run (i ∷ later) e =
      let b = broken-is s run e in
      ap (answer_within room s) (sym (append_assoc run (i ∷ []) later))
      ∙ broken-stays s wf (run ++ (i ∷ [])) later (answer-next s run i [] b.0 (none-next s wf run i b.1) (omega arith) tt)
