-- Obligations of a run with one more instant: those that it leaves unmet and those that it begins; what any test says of them; what isn't late after it wasn't late before. Assumes nothing.
use mathlib.Core.Bool.{Bool, true, false, not, ◌&&◌, ◌||◌, not-not}
use mathlib.Core.List.{List, [], ◌∷◌, ◌++◌, append_assoc}
use mathlib.Core.Option.{Option, none, some}
use mathlib.Core.Path.{◌≡◌, refl, sym, ap, ◌∙◌, subst, fun_ext}
use Prim.Native.Nat.{ℕ}
use lib.Dec.{T, ltb, ltb→lt}
use lib.IntN.{ℤ}
use lib.Signed.{le_z}
use Rattle.records.specs.declared.line.Line.{Line}
use Rattle.records.specs.Types.{All}
use Rattle.tesl.specs.Lists.{all, any, filter, flat_map}
use Rattle.tesl.specs.Run.{Filled, ticks_at, tag_in, tag_at}
use Rattle.tesl.specs.Fits.{eq_z, none_falls, Obligation, meets, owed_at_start, owed_from, unmet_by, unmet_later, unmet, not_late}
use Rattle.theory.specs.Step.{next_owed, line_below}
use Rattle.theory.specs.Limits.{clocks_ok}
use Rattle.tesl.proofs.Tests.{and_l, and_r, and_i, or-e}
use Rattle.tesl.proofs.FormulaLists.{all_append, below_at}
use Rattle.tesl.proofs.FormulaOwed.{eq_z→eq}
use Rattle.theory.proofs.Lists.{any_snoc, filter-append, filter-filter, filter-true, by_later-snoc, snoc-ind, all-imp, all_filter, filter-all, all_both}
use Rattle.theory.proofs.Whole.{le_z-trans}
use Rattle.theory.proofs.LineKinds.{law}

-- ---- one more instant

not-or : (a b : Bool) → not (a || b) ≡ (not a && not b)
not-or true b = refl
not-or false b = refl

unmet_by-snoc : (run : List Filled) (f : Filled) (os : List Obligation)
    → unmet_by (run ++ (f ∷ [])) os ≡ filter (λ (o : Obligation). not (meets f o)) (unmet_by run os)
unmet_by-snoc run f os =
    ap (λ (p : Obligation → Bool). filter p os)
    (fun_ext (λ o. ap not (any_snoc (λ (g : Filled). meets g o) run f) ∙ not-or (any (λ (g : Filled). meets g o) run) (meets f o)))
    ∙ sym (filter-filter (λ (o : Obligation). not (meets f o)) (λ (o : Obligation). not (any (λ (g : Filled). meets g o) run)) os)

unmet_later-snoc : (most : ℤ) (ls : List Line) (run : List Filled) (f : Filled) → unmet_later most ls (run ++ (f ∷ [])) ≡ next_owed most ls f (unmet_later most ls run)
unmet_later-snoc most ls run f =
    by_later-snoc (λ g later. unmet_by later (flat_map (owed_from most g) ls)) (filter (λ (o : Obligation). not (meets f o))) refl (filter-append (λ (o : Obligation). not (meets f o))) f
    (λ g later. unmet_by-snoc later f (flat_map (owed_from most g) ls)) run
    ∙ ap (λ (os : List Obligation). filter (λ (o : Obligation). not (meets f o)) (unmet_later most ls run) ++ os) (filter-true (flat_map (owed_from most f) ls))

pub unmet-snoc : (most : ℤ) (ls : List Line) (run : List Filled) (f : Filled) → unmet most ls (run ++ (f ∷ [])) ≡ next_owed most ls f (unmet most ls run)
unmet-snoc most ls run f =
    let kept : Obligation → Bool = λ o. not (meets f o) in
    let start = flat_map owed_at_start ls in
    (λ i. unmet_by-snoc run f start i ++ unmet_later-snoc most ls run f i)
    ∙ sym (append_assoc (filter kept (unmet_by run start)) (filter kept (unmet_later most ls run)) (flat_map (owed_from most f) ls))
    ∙ ap (λ (l : List Obligation). l ++ flat_map (owed_from most f) ls) (sym (filter-append kept (unmet_by run start) (unmet_later most ls run)))

-- ---- a test that passes of what each line owes at the start and begins passes of what is unmet

pub append-i : {A : Type 0} (p : A → Bool) (xs ys : List A) → T (all p xs) → T (all p ys) → T (all p (xs ++ ys))
append-i p xs ys s t = subst T (sym (all_append p xs ys)) (and_i (all p xs) (all p ys) s t)

module _ (p : Obligation → Bool) (most : ℤ) (P : Line → Type 0) where
  of-lines : (g : Line → List Obligation) → ((l : Line) → P l → T (all p (g l))) → (ls : List Line) → All P ls → T (all p (flat_map g ls))
  of-lines g h [] w = tt
  of-lines g h (l ∷ ls) w = append-i p (g l) (flat_map g ls) (h l w.0) (of-lines g h ls w.1)

  pub start-all : ((l : Line) → P l → T (all p (owed_at_start l))) → (ls : List Line) → All P ls → T (all p (unmet most ls []))
  start-all h ls w =
      append-i p (unmet_by [] (flat_map owed_at_start ls)) []
      (filter-all p (λ (o : Obligation). not (any (λ (f : Filled). meets f o) [])) (flat_map owed_at_start ls) (of-lines owed_at_start h ls w)) tt

  pub next-all : (f : Filled) → ((l : Line) → P l → T (all p (owed_from most f l))) → (ls : List Line) → All P ls
      → (os : List Obligation) → T (all p os) → T (all p (next_owed most ls f os))
  next-all f h ls w os t =
      append-i p (filter (λ (o : Obligation). not (meets f o)) os) (flat_map (owed_from most f) ls)
      (filter-all p (λ (o : Obligation). not (meets f o)) os t)
      (of-lines (owed_from most f) h ls w)

pub lines-below : (c : ℕ) (ls : List Line) → T (all (line_below c) ls) → All (λ (l : Line). T (line_below c l)) ls
lines-below c [] w = tt
lines-below c (l ∷ ls) w = (and_l (line_below c l) (all (line_below c) ls) w, lines-below c ls (and_r (line_below c l) (all (line_below c) ls) w))

module _ (c : ℕ) (most : ℤ) (ls : List Line) (w : T (all (line_below c) ls)) where
  pub start-clocks : T (all (clocks_ok c) (unmet most ls []))
  start-clocks = start-all (clocks_ok c) most (λ (l : Line). T (line_below c l)) (λ l v. (law l).owes.start-clocks c v) ls (lines-below c ls w)

  pub next-clocks : (f : Filled) (os : List Obligation) → T (all (clocks_ok c) os) → T (all (clocks_ok c) (next_owed most ls f os))
  next-clocks f os t = next-all (clocks_ok c) most (λ (l : Line). T (line_below c l)) f (λ l v. (law l).owes.begun-clocks most c f v) ls (lines-below c ls w) os t

  pub unmet-clocks : (run : List Filled) → T (all (clocks_ok c) (unmet most ls run))
  unmet-clocks = snoc-ind (λ (run : List Filled). T (all (clocks_ok c) (unmet most ls run))) start-clocks
      (λ run f t. subst (λ (os : List Obligation). T (all (clocks_ok c) os)) (sym (unmet-snoc most ls run f)) (next-clocks f (unmet most ls run) t))

-- ---- what isn't late after f wasn't late before it: the tags do not fall

one_earlier : (c : ℕ) (was : List ℤ) (f : Filled) → T (none_falls c (some was) f.tags) → (o : Obligation)
    → T (clocks_ok c o && (not (not (meets f o)) || le_z (tag_at f o.on) o.due)) → T (le_z (tag_in was o.on) o.due)
one_earlier c was f n o t =
    let met = not (not (meets f o)) in
    let due = le_z (tag_at f o.on) o.due in
    let on : T (ltb o.on c) = and_r (ltb o.clock c) (ltb o.on c) (and_l (clocks_ok c o) (met || due) t) in
    let up : T (le_z (tag_in was o.on) (tag_at f o.on)) = below_at c (λ k. le_z (tag_in was k) (tag_at f k)) n o.on (ltb→lt o.on c on) in
    or-e met due (and_r (clocks_ok c o) (met || due) t)
    (λ u. subst (λ (z : ℤ). T (le_z (tag_in was o.on) z))
    (eq_z→eq (tag_at f o.on) o.due (and_r (ticks_at f o.clock) (eq_z (tag_at f o.on) o.due) (subst T (not-not (meets f o)) u))) up)
    (λ u. le_z-trans (tag_in was o.on) (tag_at f o.on) o.due up u)

pub earlier : (c : ℕ) (most : ℤ) (ls : List Line) (last : Option (List ℤ)) (f : Filled) (os : List Obligation) → T (all (clocks_ok c) os) → T (none_falls c last f.tags)
    → T (not_late (some f.tags) (next_owed most ls f os)) → T (not_late last os)
earlier c most ls none f os b n t = tt
earlier c most ls (some was) f os b n t =
    let due : Obligation → Bool = λ o. le_z (tag_at f o.on) o.due in
    let kept : Obligation → Bool = λ o. not (meets f o) in
    all-imp (λ (o : Obligation). clocks_ok c o && (not (kept o) || due o)) (λ (o : Obligation). le_z (tag_in was o.on) o.due) os (one_earlier c was f n)
    (all_both (clocks_ok c) (λ (o : Obligation). not (kept o) || due o) os b
    (all_filter due kept os (and_l (all due (filter kept os)) (all due (flat_map (owed_from most f) ls)) (subst T (all_append due (filter kept os) (flat_map (owed_from most f) ls)) t))))
