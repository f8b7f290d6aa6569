-- What is held after a run and what it becomes with one more instant: the successors of the held remainders are the longer run's, however they are gathered. Assumes nothing.
use mathlib.Core.Bool.{Bool, not, cond, ◌&&◌}
use mathlib.Core.List.{List, [], ◌∷◌, ◌++◌, Memᴰ}
use mathlib.Core.Option.{Option}
use mathlib.Core.Path.{◌≡◌, refl, sym, ap, ◌∙◌, subst, fun_ext}
use Prim.Native.Nat.{ℕ, ◌≤◌, ◌<◌}
use native.Mathlib.Nat.{suc-ne-zero}
use native.Mathlib.Omega.{arith}
use lib.Dec.{T}
use lib.IntN.{ℤ}
use lib.ListN.{length, length-append}
use Rattle.records.specs.Sheet.{SheetValue}
use Rattle.tesl.specs.Lists.{any}
use Rattle.tesl.specs.Run.{Instant, Filled, fillings, run_fillings}
use Rattle.tesl.specs.Fits.{fits}
use Rattle.tesl.specs.Remainder.{Remainder, remainder, same_remainder, overfull, is_clear}
use Rattle.tesl.specs.Answer.{clear, owed, holding, remainders, too_many, judged}
use Rattle.theory.specs.Sets.{apart, Covers, SameSet, EachOnce}
use Rattle.theory.specs.Step.{next, step_ok, last_tags_of, nexts, well_formed}
use Rattle.theory.specs.Held.{Held, successors}
use Rattle.tesl.proofs.Tests.{and_l, and_r, and_i, or-e}
use Rattle.theory.proofs.Lists.{any-flat_map, any-imp, any_snoc, member-any}
use Rattle.theory.proofs.Sets.{any_same, any-set, distinct-set, distinct_apart, length-same, length-le, apart_snoc, fresh}
use Rattle.theory.proofs.Respect.{remainder-equivalence, Respects, overfull-respects, clear-respects, next-same, step_ok-same}
use Rattle.theory.proofs.Fillings.{found, any-nexts, found-snoc}

-- ---- the successors

-- a test of the successors is one of the held ones and the fillings
pub successors-any : (s : SheetValue) (last : Option (List ℤ)) (i : Instant) (p : Remainder → Bool) (rs : List Remainder)
    → any p (successors s last i rs) ≡ any (λ (r : Remainder). any (λ (f : Filled). step_ok s last f r && p (next s f r)) (fillings i)) rs
unfolding successors
successors-any s last i p rs = any-flat_map p (nexts s last i) rs ∙ ap (λ (q : Remainder → Bool). any q rs) (fun_ext (λ r. any-nexts s last i p r))

-- what a held one becomes under a filling that may follow is among them
pub successor-found : (s : SheetValue) (last : Option (List ℤ)) (i : Instant) {rs : List Remainder} {r : Remainder} {f : Filled}
    → Memᴰ r rs → Memᴰ f (fillings i) → T (step_ok s last f r) → T (any (same_remainder (next s f r)) (successors s last i rs))
successor-found s last i {rs} {r} {f} m n t =
    let x = next s f r in
    subst T (sym (successors-any s last i (same_remainder x) rs))
    (member-any (λ (q : Remainder). any (λ (g : Filled). step_ok s last g q && same_remainder x (next s g q)) (fillings i)) m
    (member-any (λ (g : Filled). step_ok s last g r && same_remainder x (next s g r)) n
    (and_i (step_ok s last f r) (same_remainder x x) t (remainder-equivalence.reflex x))))

-- a remainder that is the same has the same successors
nexts-same : (s : SheetValue) (last : Option (List ℤ)) (i : Instant) (x a b : Remainder) → T (same_remainder a b)
    → T (any (same_remainder x) (nexts s last i a)) → T (any (same_remainder x) (nexts s last i b))
nexts-same s last i x a b e t =
    subst T (sym (any-nexts s last i (same_remainder x) b))
    (any-imp (λ (f : Filled). step_ok s last f a && same_remainder x (next s f a)) (λ (f : Filled). step_ok s last f b && same_remainder x (next s f b)) (fillings i)
    (λ f u. and_i (step_ok s last f b) (same_remainder x (next s f b))
    (subst T (step_ok-same s last f a b e) (and_l (step_ok s last f a) (same_remainder x (next s f a)) u))
    (remainder-equivalence.chain x (next s f a) (next s f b) (and_r (step_ok s last f a) (same_remainder x (next s f a)) u) (next-same s f a b e)))
    (subst T (any-nexts s last i (same_remainder x) a) t))

module _ (s : SheetValue) (wf : T (well_formed s)) (run : List Instant) (i : Instant) (rs : List Remainder) (h : Held s run rs) where
  -- the successors of what is held are the remainders of the run with one more instant
  pub successors-are : SameSet same_remainder (successors s (last_tags_of run) i rs) (remainders s (run ++ (i ∷ [])))
  unfolding successors remainders
  successors-are x =
      any-flat_map (same_remainder x) (nexts s (last_tags_of run) i) rs
      ∙ any-set same_remainder remainder-equivalence leads-to (λ a b u v. nexts-same s (last_tags_of run) i x a b u v) rs (found s run)
      (λ z. h.these z ∙ distinct-set same_remainder remainder-equivalence (found s run) z)
      ∙ sym (found-snoc s wf run i (same_remainder x))
      ∙ sym (distinct-set same_remainder remainder-equivalence (found s (run ++ (i ∷ []))) x)
    where
      leads-to : Remainder → Bool
      leads-to r = any (same_remainder x) (nexts s (last_tags_of run) i r)

  -- every way to hold the successors, each once
  pub held-step : (new : List Remainder) → EachOnce same_remainder new (successors s (last_tags_of run) i rs) → Held s (run ++ (i ∷ [])) new
  held-step new h = record { each-once = h.each-once; these = λ x. h.these x ∙ successors-are x }

  -- more than `room` distinct ones among the successors, or one that is not among `room` of them
  pub many-found : (room : ℕ) (among : List Remainder) → T (apart same_remainder among) → Covers same_remainder among (successors s (last_tags_of run) i rs)
      → room < length among → room < length (remainders s (run ++ (i ∷ [])))
  many-found room among a c l =
      let le = length-le same_remainder remainder-equivalence among (remainders s (run ++ (i ∷ []))) a (λ x t. subst T (successors-are x) (c x t)) in
      omega arith

  pub one-more-found : (room : ℕ) (among : List Remainder) → T (apart same_remainder among) → Covers same_remainder among (successors s (last_tags_of run) i rs)
      → room ≤ length among → (x : Remainder) → T (any (same_remainder x) (successors s (last_tags_of run) i rs)) → T (not (any (same_remainder x) among))
      → room < length (remainders s (run ++ (i ∷ [])))
  one-more-found room among a c l x t n =
      many-found room (among ++ (x ∷ [])) (apart_snoc same_remainder remainder-equivalence among x a n)
      (λ z u. or-e (any (same_remainder z) among) (same_remainder z x) (subst T (any_snoc (same_remainder z) among x) u)
      (λ v. c z v)
      (λ v. any_same same_remainder remainder-equivalence z x (successors s (last_tags_of run) i rs) v t))
      (omega (arith, length-append among (x ∷ [])))

  -- one of which p holds among the successors
  pub one_found : (p : Remainder → Bool) → Respects p → (x : Remainder) → T (any (same_remainder x) (successors s (last_tags_of run) i rs)) → T (p x)
      → T (any p (remainders s (run ++ (i ∷ []))))
  one_found p respects x t l = any-imp (same_remainder x) p (remainders s (run ++ (i ∷ []))) (λ r u. respects x r u l) (subst T (successors-are x) t)

-- ---- what is held tells the number, the standing and whether it is too many

-- as many, and a clear one among both or neither
pub judged-alike : (xs ys : List Remainder) → length xs ≡ length ys → any is_clear xs ≡ any is_clear ys → judged xs ≡ judged ys
unfolding judged
judged-alike [] [] l c = refl
judged-alike [] (b ∷ bs) l c = absurd (suc-ne-zero (length bs) (sym l))
judged-alike (a ∷ xs) [] l c = absurd (suc-ne-zero (length xs) l)
judged-alike (a ∷ xs) (b ∷ bs) l c = λ i. holding (l i) (cond (c i) clear owed)

module _ (s : SheetValue) (run : List Instant) (rs : List Remainder) (h : Held s run rs) where
  pub held-length : length rs ≡ length (remainders s run)
  unfolding remainders
  held-length = length-same same_remainder remainder-equivalence rs (remainders s run) h.each-once (distinct_apart same_remainder remainder-equivalence (found s run)) h.these

  pub held_any : (p : Remainder → Bool) → Respects p → any p rs ≡ any p (remainders s run)
  held_any p respects = any-set same_remainder remainder-equivalence p respects rs (remainders s run) h.these

  pub held-too_many : (room : ℕ) → too_many room rs ≡ too_many room (remainders s run)
  unfolding too_many
  held-too_many room = rw (held-length, held_any overfull overfull-respects)

  pub held-judged : judged rs ≡ judged (remainders s run)
  held-judged = judged-alike rs (remainders s run) held-length (held_any is_clear clear-respects)

-- ---- at the opening: the sheet's own remainder
pub held_start : (s : SheetValue) {r : Remainder} → T (same_remainder r (remainder s [])) → Held s [] (r ∷ [])
unfolding remainders run_fillings fits
held_start s {r} e = fresh same_remainder remainder-equivalence {xs = []} {ys = []} (record { each-once = tt; these = λ x. refl }) r (remainder s []) e tt
