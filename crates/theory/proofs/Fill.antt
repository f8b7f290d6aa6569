-- The recursion over the clocks left: what each clock adds to the clocks settled; done with an accumulator, it is a fold over the fillings. Assumes nothing.
use mathlib.Core.Bool.{Bool, true, false}
use mathlib.Core.List.{List, [], ◌∷◌, ◌++◌, map, map-map, append_assoc, append-nil}
use mathlib.Core.Path.{◌≡◌, refl, sym, ap, ◌∙◌, fun_ext}
use Rattle.records.specs.declared.instant.Tick.{Tick}
use Rattle.records.specs.declared.instant.Tick.TheVariants.{Idle, Ticks, Unseen}
use Rattle.records.proofs.Lists.{map-append}
use Rattle.tesl.specs.Run.{Instant, ticks_of, tags_of, fill_ticks, fillings}

-- the fillings that begin with the clocks settled, `left` being the ticks of those left
abbrev pub settled : List Bool → List Tick → List (List Bool)
settled done left = map (λ (b : List Bool). done ++ b) (fill_ticks left)

-- ---- a clock more is settled

branch : (done : List Bool) (b : Bool) (xs : List (List Bool))
    → map (λ (x : List Bool). done ++ x) (map (λ (x : List Bool). b ∷ x) xs) ≡ map (λ (x : List Bool). (done ++ (b ∷ [])) ++ x) xs
branch done b xs =
    map-map (λ (x : List Bool). done ++ x) (λ (x : List Bool). b ∷ x) xs
    ∙ ap (λ (g : List Bool → List Bool). map g xs) (fun_ext (λ x. sym (append_assoc done (b ∷ []) x)))

pub settled-all : (done : List Bool) → settled done [] ≡ done ∷ []
settled-all done = ap (λ (x : List Bool). x ∷ []) (append-nil done)

pub settled-idle : (done : List Bool) (left : List Tick) → settled done (Idle ∷ left) ≡ settled (done ++ (false ∷ [])) left
settled-idle done left = branch done false (fill_ticks left)

pub settled-ticks : (done : List Bool) (left : List Tick) → settled done (Ticks ∷ left) ≡ settled (done ++ (true ∷ [])) left
settled-ticks done left = branch done true (fill_ticks left)

pub settled-unseen : (done : List Bool) (left : List Tick) → settled done (Unseen ∷ left) ≡ settled (done ++ (false ∷ [])) left ++ settled (done ++ (true ∷ [])) left
settled-unseen done left =
    map-append (λ (x : List Bool). done ++ x) (map (λ (x : List Bool). false ∷ x) (fill_ticks left)) (map (λ (x : List Bool). true ∷ x) (fill_ticks left))
    ∙ rw (branch done false (fill_ticks left), branch done true (fill_ticks left))

-- from the first clock on these are the fillings of an instant
pub fillings-settled : (i : Instant) → fillings i ≡ map (λ (b : List Bool). record { ticks = b; tags = tags_of i }) (settled [] (ticks_of i))
unfolding fillings
fillings-settled i = sym (map-map (λ (b : List Bool). record { ticks = b; tags = tags_of i }) (λ (b : List Bool). b) (fill_ticks (ticks_of i)))

-- ---- with an accumulator

module _ {R : Type 0} where
  abbrev pub foldl : {A : Type 0} → (R → A → R) → R → List A → R
  foldl g r [] = r
  foldl g r (x ∷ xs) = foldl g (g r x) xs

  -- at the last clock g takes the filling; before it, idle goes before tick
  abbrev pub fill_fold : (R → List Bool → R) → List Bool → List Tick → R → R
  fill_fold g done [] r = g r done
  fill_fold g done (Idle ∷ left) r = fill_fold g (done ++ (false ∷ [])) left r
  fill_fold g done (Ticks ∷ left) r = fill_fold g (done ++ (true ∷ [])) left r
  fill_fold g done (Unseen ∷ left) r = fill_fold g (done ++ (true ∷ [])) left (fill_fold g (done ++ (false ∷ [])) left r)

  pub foldl-append : {A : Type 0} (g : R → A → R) (r : R) (xs ys : List A) → foldl g r (xs ++ ys) ≡ foldl g (foldl g r xs) ys
  foldl-append g r [] ys = refl
  foldl-append g r (x ∷ xs) ys = foldl-append g (g r x) xs ys

  pub fill_fold-is : (g : R → List Bool → R) (done : List Bool) (left : List Tick) (r : R) → fill_fold g done left r ≡ foldl g r (settled done left)
  fill_fold-is g done [] r = ap (foldl g r) (sym (settled-all done))
  fill_fold-is g done (Idle ∷ left) r = fill_fold-is g (done ++ (false ∷ [])) left r ∙ ap (foldl g r) (sym (settled-idle done left))
  fill_fold-is g done (Ticks ∷ left) r = fill_fold-is g (done ++ (true ∷ [])) left r ∙ ap (foldl g r) (sym (settled-ticks done left))
  fill_fold-is g done (Unseen ∷ left) r =
      fill_fold-is g (done ++ (true ∷ [])) left (fill_fold g (done ++ (false ∷ [])) left r)
      ∙ ap (λ (q : R). foldl g q (settled (done ++ (true ∷ [])) left)) (fill_fold-is g (done ++ (false ∷ [])) left r)
      ∙ sym (foldl-append g r (settled (done ++ (false ∷ [])) left) (settled (done ++ (true ∷ [])) left))
      ∙ ap (foldl g r) (sym (settled-unseen done left))
