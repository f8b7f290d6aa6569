-- Why the order of lines and repeats of them change no answer: under two sheets with the same clocks and the same lines the same filled runs fit, and two filled runs leave equal remainders under one exactly if they do under the other;
-- so one filling for each remainder is the same list for both. No remainder itself need be equal to its counterpart, since leads stand line by line. For every kind of line. Assumes nothing.
use mathlib.Core.Bool.{Bool, not, cond, ◌&&◌, ◌||◌, beq}
use mathlib.Core.List.Permᴰ
use mathlib.Core.List.{List, [], ◌∷◌, ◌++◌, map, Permᴰ}
use mathlib.Core.Logic.{inl, inr}
use mathlib.Core.Option.{Option, none, some}
use mathlib.Core.Path.{◌≡◌, refl, sym, ap, ◌∙◌, subst, fun_ext}
use Prim.Native.Nat.{ℕ}
use lib.Dec.{T, ltb, eqb}
use lib.IntN.{ℤ}
use lib.ListN.{length, length-map}
use lib.Signed.{le_z}
use Rattle.records.specs.declared.line.Line.{Line}
use Rattle.records.specs.Outcome.{Outcome, taken, refused}
use Rattle.records.specs.Sheet.{SheetValue}
use Rattle.records.specs.Sort.{IsIn, SameLines}
use Rattle.tesl.specs.Lists.{all, any, filter, distinct, within, same_list, beginnings, always, flat_map, by_later, table}
use Rattle.tesl.specs.Run.{Instant, Filled, tag_in, run_fillings}
use Rattle.tesl.specs.Fits.{last_tags, none_falls, holds_at, fits_at, most_tag, Obligation, meets, owed_at_start, owed_from, unmet_by, unmet, not_late, counted_from, left_of, run_countdowns, fits}
use Rattle.tesl.specs.Remainder.{Remainder, lead_of, stops, remainder, same_obligation, same_countdown, same_sets, same_remainder, distinct_count, owes, counts, overfull, is_clear}
use Rattle.tesl.specs.Answer.{Answer, exhausted, remainders, too_many, over, verdict, answer_within, most_live}
use Rattle.tesl.specs.Machine.{accepts, list_after, reply, machine, Reader, session, opened_with}
use Rattle.theory.specs.SameLines.{SameClocksAndLines, SameSessions}
use Rattle.records.proofs.sort.Forms.{further-lines}
use Rattle.tesl.proofs.Tests.{or_l, or_r, or-e}
use Rattle.theory.proofs.Lists.{bool-ext, any_append, any-filter, any-map, any-flat_map, all-as-any}
use Rattle.theory.proofs.Sets.{Equivalence, distinct-length}
use Rattle.theory.proofs.Respect.{owed-equivalence, count-equivalence}
use Rattle.theory.proofs.Held.{judged-alike}
use Rattle.theory.proofs.SameLeft.{same_left}
use Rattle.theory.proofs.Listed.{fittings}
use Rattle.theory.proofs.Kept.{kept, remainders-kept}

-- ---- lists that no test of their elements tells apart

record SameTests {A : Type 0} (xs ys : List A) : Type 0 where
  tests : (p : A → Bool) → any p xs ≡ any p ys

module _ {A : Type 0} where
  in-any : (p : A → Bool) (x : A) (xs : List A) → IsIn x xs → T (p x) → T (any p xs)
  in-any p x [] m t = absurd m
  in-any p x (y ∷ xs) (inl e) t = or_l (p y) (any p xs) (subst (λ (z : A). T (p z)) e t)
  in-any p x (y ∷ xs) (inr m) t = or_r (p y) (any p xs) (in-any p x xs m t)

  any-among : (p : A → Bool) (xs ys : List A) → ((x : A) → IsIn x xs → IsIn x ys) → T (any p xs) → T (any p ys)
  any-among p [] ys h t = absurd t
  any-among p (x ∷ xs) ys h t = or-e (p x) (any p xs) t (in-any p x ys (h x (inl refl))) (any-among p xs ys (λ y m. h y (inr m)))

  all_alike : {xs ys : List A} → SameTests xs ys → (p : A → Bool) → all p xs ≡ all p ys
  all_alike {xs} {ys} h p = all-as-any p xs ∙ ap not (h.tests (λ x. not (p x))) ∙ sym (all-as-any p ys)

  append-alike : {xs ys zs ws : List A} → SameTests xs ys → SameTests zs ws → SameTests (xs ++ zs) (ys ++ ws)
  append-alike {xs} {ys} {zs} {ws} h k = record { tests = λ p. any_append p xs zs ∙ (λ i. h.tests p i || k.tests p i) ∙ sym (any_append p ys ws) }

  filter_alike : (q : A → Bool) {xs ys : List A} → SameTests xs ys → SameTests (filter q xs) (filter q ys)
  filter_alike q {xs} {ys} h = record { tests = λ p. any-filter p q xs ∙ h.tests (λ x. q x && p x) ∙ sym (any-filter p q ys) }

  -- as sets, and by the number of what is distinct among them
  sets-alike : (same : A → A → Bool) {xs ys zs ws : List A} → SameTests xs ys → SameTests zs ws → same_sets same xs zs ≡ same_sets same ys ws
  sets-alike same h k = λ i. within-alike h k i && within-alike k h i
    where
      within-alike : {xs ys zs ws : List A} → SameTests xs ys → SameTests zs ws → within same xs zs ≡ within same ys ws
      within-alike {xs} {ys} {zs} {ws} h k =
          ap (λ (p : A → Bool). all p xs) (fun_ext (λ x. k.tests (same x))) ∙ all_alike h (λ x. any (same x) ws)

  number-alike : (same : A → A → Bool) → Equivalence same → {xs ys : List A} → SameTests xs ys → distinct_count same xs ≡ distinct_count same ys
  number-alike same E {xs} {ys} h = distinct-length same E xs ys (λ x. h.tests (same x))

module _ {A B : Type 0} where
  flat_map-alike : (g : A → List B) {xs ys : List A} → SameTests xs ys → SameTests (flat_map g xs) (flat_map g ys)
  flat_map-alike g {xs} {ys} h = record { tests = λ p. any-flat_map p g xs ∙ h.tests (λ x. any p (g x)) ∙ sym (any-flat_map p g ys) }

  by_later-alike : (g h : A → List A → List B) → ((x : A) (later : List A) → SameTests (g x later) (h x later)) → (xs : List A) → SameTests (by_later g xs) (by_later h xs)
  by_later-alike g h k [] = record { tests = λ p. refl }
  by_later-alike g h k (x ∷ xs) = append-alike (k x xs) (by_later-alike g h k xs)

  -- two lists made of one are the same where each element makes the same
  same_list-map : (same : B → B → Bool) (g h : A → B) (xs : List A) → same_list same (map g xs) (map h xs) ≡ all (λ x. same (g x) (h x)) xs
  same_list-map same g h [] = refl
  same_list-map same g h (x ∷ xs) = ap (λ (b : Bool). same (g x) (h x) && b) (same_list-map same g h xs)

lines-alike : {ls ms : List Line} → SameLines ls ms → SameTests ls ms
lines-alike {ls} {ms} s = record { tests = λ p. bool-ext (any p ls) (any p ms) (any-among p ls ms s.there) (any-among p ms ls s.back) }

-- ---- what is owed

unmet_by-alike : (f : List Filled) {os ps : List Obligation} → SameTests os ps → SameTests (unmet_by f os) (unmet_by f ps)
unmet_by-alike f = filter_alike (λ (o : Obligation). not (any (λ (g : Filled). meets g o) f))

module _ {ls ms : List Line} (lines : SameTests ls ms) (f : List Filled) where
  unmet-alike : (most : ℤ) → SameTests (unmet most ls f) (unmet most ms f)
  unmet-alike most =
      append-alike (unmet_by-alike f (flat_map-alike owed_at_start lines))
      (by_later-alike _ _ (λ g later. unmet_by-alike later (flat_map-alike (owed_from most g) lines)) f)

  countdowns-alike : SameTests (run_countdowns ls f) (run_countdowns ms f)
  countdowns-alike = by_later-alike _ _ (λ g later. flat_map-alike (left_of later) (flat_map-alike (counted_from g) lines)) f

-- ---- two sheets

module _ (v w : SheetValue) (same : SameClocksAndLines v w) where
  lines : SameTests v.lines w.lines
  lines = lines-alike same.lines

  -- the same filled runs fit
  pub fits-alike : (f : List Filled) → fits v f ≡ fits w f
  unfolding fits
  fits-alike f = λ i. always (λ before g. at-instant before g i) [] f && in-time (last_tags f) i
    where
      at-instant : (before : List Filled) (g : Filled) → fits_at v before g ≡ fits_at w before g
      at-instant before g = λ i. none_falls (same.clocks i) (last_tags before) g.tags && all_alike lines (λ (l : Line). holds_at l before g) i

      in-time : (now : Option (List ℤ)) → not_late now (unmet most_tag v.lines f) ≡ not_late now (unmet most_tag w.lines f)
      in-time none = refl
      in-time (some now) = all_alike (unmet-alike lines f most_tag) (λ (o : Obligation). le_z (tag_in now o.on) o.due)

  -- and two filled runs leave equal remainders under one sheet exactly if they do under the other
  pub left-alike : (f g : List Filled) → same_left v f g ≡ same_left w f g
  unfolding same_remainder remainder
  left-alike f g = λ i. leads i && (stopped-alike i && (owed i && counting i))
    where
      leads : same_list eqb (map (lead_of f) v.lines) (map (lead_of g) v.lines) ≡ same_list eqb (map (lead_of f) w.lines) (map (lead_of g) w.lines)
      leads =
          same_list-map eqb (lead_of f) (lead_of g) v.lines
          ∙ all_alike lines (λ (l : Line). eqb (lead_of f l) (lead_of g l))
          ∙ sym (same_list-map eqb (lead_of f) (lead_of g) w.lines)

      stopped : (h : List Filled) → table v.clocks (λ k. any (stops h k) v.lines) ≡ table w.clocks (λ k. any (stops h k) w.lines)
      stopped h = λ i. table (same.clocks i) (λ k. lines.tests (stops h k) i)

      stopped-alike : same_list beq (remainder v f).stopped (remainder v g).stopped ≡ same_list beq (remainder w f).stopped (remainder w g).stopped
      stopped-alike = λ i. same_list beq (stopped f i) (stopped g i)

      owed : same_sets same_obligation (remainder v f).owed (remainder v g).owed ≡ same_sets same_obligation (remainder w f).owed (remainder w g).owed
      owed = sets-alike same_obligation (unmet-alike lines f most_tag) (unmet-alike lines g most_tag)

      counting : same_sets same_countdown (remainder v f).countdowns (remainder v g).countdowns ≡ same_sets same_countdown (remainder w f).countdowns (remainder w g).countdowns
      counting = sets-alike same_countdown (countdowns-alike lines f) (countdowns-alike lines g)

  -- a filled run leaves as much owed
  owes-alike : (f : List Filled) → owes (remainder v f) ≡ owes (remainder w f)
  unfolding owes remainder
  owes-alike f = number-alike same_obligation owed-equivalence (unmet-alike lines f most_tag)

  counts-alike : (f : List Filled) → counts (remainder v f) ≡ counts (remainder w f)
  unfolding counts remainder
  counts-alike f = number-alike same_countdown count-equivalence (countdowns-alike lines f)

  -- ---- so one filling for each remainder is the same list
  kept-alike : (run : List Instant) → kept v run ≡ kept w run
  unfolding kept fittings
  kept-alike run =
      λ i. distinct (λ f g. left-alike f g i) (filter (λ f. fits-alike f i) (run_fillings run))

  number-left : (run : List Instant) → length (remainders v run) ≡ length (remainders w run)
  number-left run =
      ap length (remainders-kept v run) ∙ length-map (kept v run) (remainder v)
      ∙ ap length (kept-alike run)
      ∙ sym (ap length (remainders-kept w run) ∙ length-map (kept w run) (remainder w))

  any_left : (p : Remainder → Bool) → ((f : List Filled) → p (remainder v f) ≡ p (remainder w f)) → (run : List Instant) → any p (remainders v run) ≡ any p (remainders w run)
  any_left p h run =
      ap (any p) (remainders-kept v run) ∙ any-map p (remainder v) (kept v run)
      ∙ (λ i. any (λ f. h f i) (kept-alike run i))
      ∙ sym (ap (any p) (remainders-kept w run) ∙ any-map p (remainder w) (kept w run))

  -- ---- and every answer is equal

  too_many-alike : (room : ℕ) (run : List Instant) → too_many room (remainders v run) ≡ too_many room (remainders w run)
  unfolding too_many overfull
  too_many-alike room run = λ i. ltb room (number-left run i) || any_left overfull (λ f j. ltb 8 (owes-alike f j) || ltb 8 (counts-alike f j)) run i

  pub answer-alike : (room : ℕ) (run : List Instant) → answer_within room v run ≡ answer_within room w run
  unfolding answer_within over is_clear
  answer-alike room run =
      (λ i. verdict (any (λ b. too_many-alike room b i) (beginnings run)) (remainders v run))
      ∙ verdict-alike (over room w run)
    where
      clear-alike : any is_clear (remainders v run) ≡ any is_clear (remainders w run)
      clear-alike = any_left is_clear (λ f i. eqb (owes-alike f i) 0 && eqb (counts-alike f i) 0) run

      verdict-alike : (b : Bool) → verdict b (remainders v run) ≡ verdict b (remainders w run)
      verdict-alike b = ap (λ (a : Answer). cond b exhausted a) (judged-alike (remainders v run) (remainders w run) (number-left run) clear-alike)

  -- ---- of the plain machine, call by call

  accepts-alike : (run : List Instant) (bytes : List ℕ) → accepts v run bytes ≡ accepts w run bytes
  unfolding accepts
  accepts-alike run bytes = rw same.clocks

  reply-alike : (run : List Instant) (o : Outcome Instant) → reply v run o ≡ reply w run o
  reply-alike run (taken i) = ap taken (answer-alike most_live (run ++ (i ∷ [])))
  reply-alike run (refused n) = refl

  machine-alike : (run : List Instant) (calls : List (List ℕ)) → machine v run calls ≡ machine w run calls
  unfolding machine
  machine-alike run [] = refl
  machine-alike run (bytes ∷ calls) =
      ap (λ (o : Outcome Instant). reply v run o ∷ machine v (list_after run o) calls) (accepts-alike run bytes)
      ∙ (λ i. reply-alike run (accepts w run bytes) i ∷ machine-alike (list_after run (accepts w run bytes)) calls i)

pub same-sessions : (read again : Reader) → SameSessions read again
unfolding session
same-sessions read again b c v w e f same calls =
    ap (opened_with calls) e
    ∙ (λ i. record { opening = taken (answer-alike v w same most_live [] i); replies = machine-alike v w same [] calls i })
    ∙ ap (opened_with calls) (sym f)

-- ---- which lists have the same lines

module _ {A : Type 0} where
  in-permuted : (x : A) {xs ys : List A} → Permᴰ xs ys → IsIn x xs → IsIn x ys
  in-permuted x Permᴰ.nil m = m
  in-permuted x (Permᴰ.cons e d) (inl f) = inl (f ∙ e)
  in-permuted x (Permᴰ.cons e d) (inr m) = inr (in-permuted x d m)
  in-permuted x (Permᴰ.swap e g) (inl f) = inr (inl (f ∙ e))
  in-permuted x (Permᴰ.swap e g) (inr (inl f)) = inl (f ∙ g)
  in-permuted x (Permᴰ.swap e g) (inr (inr m)) = inr (inr m)
  in-permuted x (Permᴰ.trans c d) m = in-permuted x d (in-permuted x c m)

-- in another order
pub permuted-lines : {ls ms : List Line} → Permᴰ ls ms → SameLines ls ms
permuted-lines d = record { there = λ l m. in-permuted l d m; back = λ l m. in-permuted l (Permᴰ.symm d) m }

-- without one that stands elsewhere too
pub dropped-lines : (front rest : List Line) (l : Line) → IsIn l (front ++ rest) → SameLines (front ++ (l ∷ rest)) (front ++ rest)
dropped-lines front rest l m = further-lines (permuted-lines (Permᴰ.middle l front rest)) (record { there = elsewhere; back = λ k n. inr n })
  where
    elsewhere : (k : Line) → IsIn k (l ∷ (front ++ rest)) → IsIn k (front ++ rest)
    elsewhere k (inl e) = subst (λ (j : Line). IsIn j (front ++ rest)) (sym e) m
    elsewhere k (inr n) = n
