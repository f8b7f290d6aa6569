-- The remainders of a run with one more instant: the successors of the run's remainders. Assumes nothing.
use mathlib.Core.Bool.{Bool, true, false, ◌&&◌, ◌||◌, and_assoc, and-true, or-false}
use mathlib.Core.List.{List, [], ◌∷◌, ◌++◌, map, append_assoc, append-nil}
use mathlib.Core.Option.{Option}
use mathlib.Core.Path.{◌≡◌, refl, sym, ap, ◌∙◌, subst, fun_ext}
use lib.Dec.{T}
use lib.IntN.{ℤ}
use Rattle.records.specs.Sheet.{SheetValue}
use Rattle.tesl.specs.Lists.{any, filter, last_of, always}
use Rattle.tesl.specs.Run.{Instant, ticks_of, tags_of, Filled, fill_ticks, fillings, run_fillings}
use Rattle.tesl.specs.Fits.{last_tags, fits_at, most_tag, unmet, not_late, fits}
use Rattle.tesl.specs.Remainder.{Remainder, remainder}
use Rattle.theory.specs.Step.{next, step_ok, last_tags_of, nexts, well_formed}
use Rattle.tesl.proofs.Tests.{and_l}
use Rattle.theory.proofs.Lists.{and-under, any-map, any-flat_map, any-filter, any-imp}
use Rattle.theory.proofs.Step.{fits_snoc, remainder-snoc}

module _ {A : Type 0} where
  any-ext : (p q : A → Bool) (xs : List A) → ((x : A) → p x ≡ q x) → any p xs ≡ any q xs
  any-ext p q xs h = ap (λ (r : A → Bool). any r xs) (fun_ext h)

  any-and : (a : Bool) (q : A → Bool) (xs : List A) → any (λ x. a && q x) xs ≡ (a && any q xs)
  any-and true q xs = refl
  any-and false q [] = refl
  any-and false q (x ∷ xs) = any-and false q xs

-- ---- fillings of a run with one more instant

run_fillings-snoc : (run : List Instant) (i : Instant) (p : List Filled → Bool)
    → any p (run_fillings (run ++ (i ∷ []))) ≡ any (λ (w : List Filled). any (λ (f : Filled). p (w ++ (f ∷ []))) (fillings i)) (run_fillings run)
unfolding run_fillings fillings
run_fillings-snoc [] i p =
    any-flat_map p (λ (f : Filled). (f ∷ []) ∷ []) (fillings i)
    ∙ any-ext (λ (f : Filled). p (f ∷ []) || false) (λ (f : Filled). p (f ∷ [])) (fillings i) (λ f. or-false (p (f ∷ [])))
    ∙ sym (or-false (any (λ (f : Filled). p (f ∷ [])) (fillings i)))
run_fillings-snoc (j ∷ run) i p =
    let q : List Filled → Bool = λ w. any (λ (f : Filled). p (w ++ (f ∷ []))) (fillings i) in
    any-flat_map p (λ (g : Filled). map (λ (w : List Filled). g ∷ w) (run_fillings (run ++ (i ∷ [])))) (fillings j)
    ∙ any-ext (λ (g : Filled). any p (map (λ (w : List Filled). g ∷ w) (run_fillings (run ++ (i ∷ [])))))
    (λ (g : Filled). any q (map (λ (w : List Filled). g ∷ w) (run_fillings run))) (fillings j)
    (λ g. any-map p (λ (w : List Filled). g ∷ w) (run_fillings (run ++ (i ∷ [])))
    ∙ run_fillings-snoc run i (λ (w : List Filled). p (g ∷ w))
    ∙ sym (any-map q (λ (w : List Filled). g ∷ w) (run_fillings run)))
    ∙ sym (any-flat_map q (λ (g : Filled). map (λ (w : List Filled). g ∷ w) (run_fillings run)) (fillings j))

-- a filled run has the tags of its run, so that tests that agree on such say the same of its fillings
run_fillings-ext : (run : List Instant) (p q : List Filled → Bool) → ((w : List Filled) → map (λ (f : Filled). f.tags) w ≡ map tags_of run → p w ≡ q w)
    → any p (run_fillings run) ≡ any q (run_fillings run)
unfolding run_fillings fillings
run_fillings-ext [] p q h = ap (λ (b : Bool). b || false) (h [] refl)
run_fillings-ext (i ∷ run) p q h =
    let mk : List Bool → Filled = λ b. record { ticks = b; tags = tags_of i } in
    let longer : Filled → List (List Filled) = λ f. map (λ (w : List Filled). f ∷ w) (run_fillings run) in
    any-flat_map p longer (fillings i)
    ∙ any-map (λ (f : Filled). any p (longer f)) mk (fill_ticks (ticks_of i))
    ∙ any-ext (λ (b : List Bool). any p (longer (mk b))) (λ (b : List Bool). any q (longer (mk b))) (fill_ticks (ticks_of i))
    (λ b. any-map p (λ (w : List Filled). mk b ∷ w) (run_fillings run)
    ∙ run_fillings-ext run (λ (w : List Filled). p (mk b ∷ w)) (λ (w : List Filled). q (mk b ∷ w)) (λ w e. h (mk b ∷ w) (ap (λ (l : List (List ℤ)). tags_of i ∷ l) e))
    ∙ sym (any-map q (λ (w : List Filled). mk b ∷ w) (run_fillings run)))
    ∙ sym (any-map (λ (f : Filled). any q (longer f)) mk (fill_ticks (ticks_of i)))
    ∙ sym (any-flat_map q longer (fillings i))

-- ---- the remainders of the fitting fillings, repeats and all

abbrev pub found : SheetValue → List Instant → List Remainder
found s run = map (remainder s) (filter (fits s) (run_fillings run))

any_found : (s : SheetValue) (p : Remainder → Bool) (run : List Instant)
    → any p (found s run) ≡ any (λ (w : List Filled). fits s w && p (remainder s w)) (run_fillings run)
any_found s p run = any-map p (remainder s) (filter (fits s) (run_fillings run)) ∙ any-filter (λ (w : List Filled). p (remainder s w)) (fits s) (run_fillings run)

pub any-nexts : (s : SheetValue) (last : Option (List ℤ)) (i : Instant) (p : Remainder → Bool) (r : Remainder)
    → any p (nexts s last i r) ≡ any (λ (f : Filled). step_ok s last f r && p (next s f r)) (fillings i)
unfolding nexts
any-nexts s last i p r = any-map p (λ (f : Filled). next s f r) (filter (λ (f : Filled). step_ok s last f r) (fillings i))
    ∙ any-filter (λ (f : Filled). p (next s f r)) (λ (f : Filled). step_ok s last f r) (fillings i)

pub found-snoc : (s : SheetValue) → T (well_formed s) → (run : List Instant) (i : Instant) (p : Remainder → Bool)
    → any p (found s (run ++ (i ∷ []))) ≡ any (λ (r : Remainder). any p (nexts s (last_tags_of run) i r)) (found s run)
unfolding fits
found-snoc s wf run i p =
    any_found s p (run ++ (i ∷ []))
    ∙ run_fillings-snoc run i (λ (w : List Filled). fits s w && p (remainder s w))
    ∙ run_fillings-ext run
    (λ (w : List Filled). any (λ (f : Filled). fits s (w ++ (f ∷ [])) && p (remainder s (w ++ (f ∷ [])))) (fillings i))
    (λ (w : List Filled). fits s w && any p (nexts s (last_tags_of run) i (remainder s w)))
    (λ w e. any-ext (λ (f : Filled). fits s (w ++ (f ∷ [])) && p (remainder s (w ++ (f ∷ []))))
    (λ (f : Filled). fits s w && (step_ok s (last_tags_of run) f (remainder s w) && p (next s f (remainder s w)))) (fillings i) (one w e)
    ∙ any-and (fits s w) (λ (f : Filled). step_ok s (last_tags_of run) f (remainder s w) && p (next s f (remainder s w))) (fillings i)
    ∙ ap (λ (b : Bool). fits s w && b) (sym (any-nexts s (last_tags_of run) i p (remainder s w))))
    ∙ sym (any_found s (λ (r : Remainder). any p (nexts s (last_tags_of run) i r)) run)
  where
    one : (w : List Filled) → map (λ (f : Filled). f.tags) w ≡ map tags_of run → (f : Filled)
        → (fits s (w ++ (f ∷ [])) && p (remainder s (w ++ (f ∷ [])))) ≡ (fits s w && (step_ok s (last_tags_of run) f (remainder s w) && p (next s f (remainder s w))))
    one w e f =
        ap (λ (b : Bool). b && p (remainder s (w ++ (f ∷ [])))) (fits_snoc s w f wf)
        ∙ and_assoc (fits s w) (step_ok s (last_tags w) f (remainder s w)) (p (remainder s (w ++ (f ∷ []))))
        ∙ and-under (fits s w) (step_ok s (last_tags w) f (remainder s w) && p (remainder s (w ++ (f ∷ []))))
        (step_ok s (last_tags_of run) f (remainder s w) && p (next s f (remainder s w)))
        (λ t. ap (λ (r : Remainder). step_ok s (last_tags w) f (remainder s w) && p r) (remainder-snoc s w f (and_l (always (fits_at s) [] w) (not_late (last_tags w) (unmet most_tag s.lines w)) t))
        ∙ ap (λ (l : List (List ℤ)). step_ok s (last_of l) f (remainder s w) && p (next s f (remainder s w))) e)

-- ---- once no filling fits, no longer run fits: of a run that fits by some filling, each beginning does

fits-found : (s : SheetValue) (run : List Instant) → any (λ (r : Remainder). true) (found s run) ≡ any (fits s) (run_fillings run)
fits-found s run = any_found s (λ r. true) run ∙ any-ext (λ (w : List Filled). fits s w && true) (fits s) (run_fillings run) (λ w. and-true (fits s w))

pub fits-before : (s : SheetValue) → T (well_formed s) → (run later : List Instant) → T (any (fits s) (run_fillings (run ++ later))) → T (any (fits s) (run_fillings run))
fits-before s wf run [] t = subst (λ (l : List Instant). T (any (fits s) (run_fillings l))) (append-nil run) t
fits-before s wf run (i ∷ later) t =
    subst T (fits-found s run)
    (any-imp (λ (r : Remainder). any (λ (x : Remainder). true) (nexts s (last_tags_of run) i r)) (λ (r : Remainder). true) (found s run) (λ r u. tt)
    (subst T (sym (fits-found s (run ++ (i ∷ []))) ∙ found-snoc s wf run i (λ (r : Remainder). true))
    (fits-before s wf (run ++ (i ∷ [])) later (subst (λ (l : List Instant). T (any (fits s) (run_fillings l))) (sym (append_assoc run (i ∷ []) later)) t))))
