-- The step: a filled run with one more instant fits where the run fits and the instant may follow its remainder, and its remainder is the step's. Assumes nothing.
use mathlib.Core.Bool.{Bool, true, false, not, ◌&&◌, ◌||◌, and-true, and-false}
use mathlib.Core.List.{List, [], ◌∷◌, ◌++◌, map}
use mathlib.Core.Option.{some}
use mathlib.Core.Path.{◌≡◌, refl, sym, ap, ◌∙◌, subst, fun_ext}
use Prim.Native.Nat.{ℕ, zero, suc, ◌<◌}
use lib.Dec.{T, T_not, not_T}
use lib.ListN.{get_or}
use Rattle.records.specs.declared.line.Line.{Line}
use Rattle.records.specs.Sheet.{SheetValue}
use Rattle.tesl.specs.Lists.{all, any, table, always}
use Rattle.tesl.specs.Run.{Filled, ticks_at}
use Rattle.tesl.specs.Fits.{last_tags, none_falls, holds_at, fits_at, most_tag, unmet, not_late, Countdown, run_countdowns, fits}
use Rattle.tesl.specs.Remainder.{lead_of, stops, remainder}
use Rattle.theory.specs.Step.{line_ok, overlap, lines_ok, next_lead, next_leads, next_owed, misses, none_missed, next, step_ok, line_below, well_formed}
use Rattle.tesl.proofs.Tests.{and_l, and_r, and_i, or_l, or_r, or-e, T→≡}
use Rattle.theory.proofs.Lists.{bool-ext, last_of-map-snoc, always-snoc, snoc-ind, all_of, all-imp, table_at, table-ext}
use Rattle.theory.proofs.Countdowns.{countdowns-snoc, one-more-line}
use Rattle.theory.proofs.Law.{ordered}
use Rattle.theory.proofs.LineKinds.{law}
use Rattle.theory.proofs.Owed.{unmet-snoc, unmet-clocks, earlier}

-- ---- leads

always-ordered : (s : SheetValue) (run : List Filled) → T (always (fits_at s) [] run) → T (all (ordered run) s.lines)
always-ordered s = snoc-ind (λ (run : List Filled). T (always (fits_at s) [] run) → T (all (ordered run) s.lines))
    (λ t. all_of (ordered []) s.lines (λ l. (law l).leads.at-start))
    (λ run f h t. all-imp (λ (l : Line). holds_at l run f) (ordered (run ++ (f ∷ []))) s.lines (λ l u. (law l).leads.stays run f u)
    (and_r (none_falls s.clocks (last_tags run) f.tags) (all (λ (l : Line). holds_at l run f) s.lines)
    (and_r (always (fits_at s) [] run) (fits_at s run f) (subst T (always-snoc (fits_at s) [] run f) t))))

leads-snoc : (run : List Filled) (f : Filled) (ls : List Line) → T (all (ordered run) ls)
    → map (lead_of (run ++ (f ∷ []))) ls ≡ next_leads (next_lead f) ls (map (lead_of run) ls)
leads-snoc run f [] t = refl
leads-snoc run f (l ∷ ls) t =
    λ i. (law l).leads.after run f (and_l (ordered run l) (all (ordered run) ls) t) i
    ∷ leads-snoc run f ls (and_r (ordered run l) (all (ordered run) ls) t) i

-- ---- stopped clocks

any-or : (p q : Line → Bool) (ls : List Line) → any (λ l. p l || q l) ls ≡ (any p ls || any q ls)
any-or p q [] = refl
any-or p q (l ∷ ls) = rw (any-or p q ls) (four (p l) (q l) (any p ls) (any q ls))
  where
    four : (a b c d : Bool) → (a || b || (c || d)) ≡ (a || c || (b || d))
    four true b c d = refl
    four false true true d = refl
    four false true false d = refl
    four false false c d = refl

stopped-snoc : (s : SheetValue) (run : List Filled) (f : Filled) → (remainder s (run ++ (f ∷ []))).stopped ≡ (next s f (remainder s run)).stopped
unfolding remainder next
stopped-snoc s run f = table-ext s.clocks (λ k. any (stops (run ++ (f ∷ [])) k) s.lines)
    (λ k. get_or (remainder s run).stopped k false || any (stops (f ∷ []) k) s.lines)
    (λ k h. ap (λ (p : Line → Bool). any p s.lines) (fun_ext (λ l. (law l).stops.after run f k))
    ∙ any-or (stops run k) (stops (f ∷ []) k) s.lines
    ∙ ap (λ (b : Bool). b || any (stops (f ∷ []) k) s.lines) (sym (table_at s.clocks (λ j. any (stops run j) s.lines) k false h)))

-- ---- the remainder of a run whose instants fit, with one more
pub remainder-snoc : (s : SheetValue) (run : List Filled) (f : Filled) → T (always (fits_at s) [] run)
    → remainder s (run ++ (f ∷ [])) ≡ next s f (remainder s run)
unfolding remainder next
remainder-snoc s run f t = λ i. record {
  owed = unmet-snoc most_tag s.lines run f i;
  countdowns = countdowns-snoc s.lines run f i;
  leads = leads-snoc run f s.lines (always-ordered s run t) i;
  stopped = stopped-snoc s run f i;
}

-- ---- lines

module _ (run : List Filled) (f : Filled) where
  all-ask : (ls : List Line) → T (all (ordered run) ls) → T (all (λ (l : Line). holds_at l run f) ls) → T (lines_ok (line_ok f) ls (map (lead_of run) ls))
  all-ask [] o h = tt
  all-ask (l ∷ ls) o h =
      let hs = all (λ (l : Line). holds_at l run f) ls in
      and_i (line_ok f l (lead_of run l)) (lines_ok (line_ok f) ls (map (lead_of run) ls))
      ((law l).judged.asks run f (and_l (ordered run l) (all (ordered run) ls) o) (and_l (holds_at l run f) hs h))
      (all-ask ls (and_r (ordered run l) (all (ordered run) ls) o) (and_r (holds_at l run f) hs h))

  -- none of the countdowns of a line is missed, and none of the others'
  missed-split : (l : Line) (ls : List Line) → none_missed f (run_countdowns (l ∷ ls) run) ≡ (none_missed f (run_countdowns (l ∷ []) run) && none_missed f (run_countdowns ls run))
  missed-split l ls = one-more-line (λ (c : Countdown). not (misses f c)) l ls run

  none-missed : (ls : List Line) → T (all (λ (l : Line). holds_at l run f) ls) → T (none_missed f (run_countdowns ls run))
  none-missed [] h = all-true-run run
    where
      all-true-run : (run : List Filled) → T (none_missed f (run_countdowns [] run))
      all-true-run [] = tt
      all-true-run (g ∷ run) = all-true-run run
  none-missed (l ∷ ls) h =
      let hs = all (λ (l : Line). holds_at l run f) ls in
      subst T (sym (missed-split l ls)) (and_i (none_missed f (run_countdowns (l ∷ []) run)) (none_missed f (run_countdowns ls run))
      ((law l).counts.none-missed run f (and_l (holds_at l run f) hs h)) (none-missed ls (and_r (holds_at l run f) hs h)))

  all-suffice : (ls : List Line) → ((k : ℕ) → T (any (stops run k) ls) → T (ticks_at f k) → ⊥) → T (none_missed f (run_countdowns ls run)) → T (all (ordered run) ls)
      → T (lines_ok (line_ok f) ls (map (lead_of run) ls)) → T (all (λ (l : Line). holds_at l run f) ls)
  all-suffice [] quiet m o h = tt
  all-suffice (l ∷ ls) quiet m o h =
      let own = none_missed f (run_countdowns (l ∷ []) run) in
      let others = none_missed f (run_countdowns ls run) in
      let both = subst T (missed-split l ls) m in
      let ok = line_ok f l (lead_of run l) in
      let oks = lines_ok (line_ok f) ls (map (lead_of run) ls) in
      and_i (holds_at l run f) (all (λ (l : Line). holds_at l run f) ls)
      ((law l).judged.suffices run f (λ k t. quiet k (or_l (stops run k l) (any (stops run k) ls) t)) (and_l own others both) (and_l (ordered run l) (all (ordered run) ls) o) (and_l ok oks h))
      (all-suffice ls (λ k t. quiet k (or_r (stops run k l) (any (stops run k) ls) t)) (and_r own others both) (and_r (ordered run l) (all (ordered run) ls) o) (and_r ok oks h))

-- clocks in two lists
no-overlap : (xs ys : List Bool) → ((k : ℕ) → T (get_or xs k false) → T (get_or ys k false) → ⊥) → T (overlap xs ys) → ⊥
no-overlap [] ys h t = t
no-overlap (x ∷ xs) [] h t = t
no-overlap (x ∷ xs) (y ∷ ys) h t =
    or-e (x && y) (overlap xs ys) t (λ u. h 0 (and_l x y u) (and_r x y u)) (no-overlap xs ys (λ k. h (suc k)))

overlap-at : (xs ys : List Bool) (k : ℕ) → T (get_or xs k false) → T (get_or ys k false) → T (overlap xs ys)
overlap-at [] ys k t u = absurd t
overlap-at (x ∷ xs) [] k t u = absurd u
overlap-at (x ∷ xs) (y ∷ ys) zero t u = or_l (x && y) (overlap xs ys) (and_i x y t u)
overlap-at (x ∷ xs) (y ∷ ys) (suc k) t u = or_r (x && y) (overlap xs ys) (overlap-at xs ys k t u)

-- a stopped clock does not tick at f, where every line holds; and it is one of the sheet's
quiet_all : (run : List Filled) (f : Filled) (k : ℕ) (ls : List Line) → T (all (λ (l : Line). holds_at l run f) ls) → T (any (stops run k) ls) → T (ticks_at f k) → ⊥
quiet_all run f k [] h s u = s
quiet_all run f k (l ∷ ls) h s u =
    let hs = all (λ (l : Line). holds_at l run f) ls in
    or-e (stops run k l) (any (stops run k) ls) s
    (λ v. (law l).stops.quiet run f k (and_l (holds_at l run f) hs h) v u)
    (λ v. quiet_all run f k ls (and_r (holds_at l run f) hs h) v u)

stops-below : (run : List Filled) (c k : ℕ) (ls : List Line) → T (all (line_below c) ls) → T (any (stops run k) ls) → k < c
stops-below run c k [] w t = absurd t
stops-below run c k (l ∷ ls) w t =
    or-e (stops run k l) (any (stops run k) ls) t
    ((law l).stops.below run c k (and_l (line_below c l) (all (line_below c) ls) w))
    (stops-below run c k ls (and_r (line_below c l) (all (line_below c) ls) w))

table-says : (n : ℕ) (p : ℕ → Bool) (k : ℕ) → T (get_or (table n p) k false) → T (p k)
table-says zero p k t = absurd t
table-says (suc n) p zero t = t
table-says (suc n) p (suc k) t = table-says n (λ j. p (suc j)) k t

lines_same : (s : SheetValue) (run : List Filled) (f : Filled) → T (well_formed s) → T (all (ordered run) s.lines)
    → all (λ (l : Line). holds_at l run f) s.lines
    ≡ (none_missed f (remainder s run).countdowns && (not (overlap f.ticks (remainder s run).stopped) && lines_ok (line_ok f) s.lines (remainder s run).leads))
unfolding remainder
lines_same s run f w o =
    let stopped = (remainder s run).stopped in
    let both = overlap f.ticks stopped in
    let oks = lines_ok (line_ok f) s.lines (remainder s run).leads in
    let stop : ℕ → Bool = λ j. any (stops run j) s.lines in
    let kept = none_missed f (run_countdowns s.lines run) in
    bool-ext (all (λ (l : Line). holds_at l run f) s.lines) (kept && (not both && oks))
    (λ h. and_i kept (not both && oks) (none-missed run f s.lines h) (and_i (not both) oks (not_T both (no-overlap f.ticks stopped (λ k u t. quiet_all run f k s.lines h (table-says s.clocks stop k t) u))) (all-ask run f s.lines o h)))
    (λ h. all-suffice run f s.lines
    (λ k t u. T_not both (and_l (not both) oks (and_r kept (not both && oks) h))
    (overlap-at f.ticks stopped k u (subst T (sym (table_at s.clocks stop k false (stops-below run s.clocks k s.lines w t))) t)))
    (and_l kept (not both && oks) h) o (and_r (not both) oks (and_r kept (not both && oks) h)))

-- ---- a filled run with one more instant

implied : (n h d e : Bool) → (T n → T e → T d) → (n && h && e) ≡ (d && (n && h && e))
implied false h d e r = sym (and-false d)
implied true false d e r = sym (and-false d)
implied true true d false r = sym (and-false d)
implied true true d true r = sym (and-true d ∙ T→≡ d (r tt tt))

pub fits_snoc : (s : SheetValue) (run : List Filled) (f : Filled) → T (well_formed s)
    → fits s (run ++ (f ∷ [])) ≡ (fits s run && step_ok s (last_tags run) f (remainder s run))
unfolding fits step_ok remainder
fits_snoc s run f w =
    rw (always-snoc (fits_at s) [] run f, last_of-map-snoc (λ (g : Filled). g.tags) run f, unmet-snoc most_tag s.lines run f) (by-test (always (fits_at s) [] run) (always-ordered s run))
  where
    rising : Bool
    rising = none_falls s.clocks (last_tags run) f.tags

    hold : Bool
    hold = all (λ (l : Line). holds_at l run f) s.lines

    may : Bool
    may = none_missed f (remainder s run).countdowns && (not (overlap f.ticks (remainder s run).stopped) && lines_ok (line_ok f) s.lines (remainder s run).leads)

    due : Bool
    due = not_late (last_tags run) (unmet most_tag s.lines run)

    due_now : Bool
    due_now = not_late (some f.tags) (next_owed most_tag s.lines f (unmet most_tag s.lines run))

    by-test : (a : Bool) → (T a → T (all (ordered run) s.lines)) → (a && (rising && hold) && due_now) ≡ (a && due && (rising && may && due_now))
    by-test false o = refl
    by-test true o =
        ap (λ (h : Bool). rising && h && due_now) (lines_same s run f w (o tt))
        ∙ implied rising may due due_now (λ u v. earlier s.clocks most_tag s.lines (last_tags run) f (unmet most_tag s.lines run) (unmet-clocks s.clocks most_tag s.lines w run) u v)
