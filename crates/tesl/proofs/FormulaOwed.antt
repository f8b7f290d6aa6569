-- What the laws of the lines share: ticks counted by instants, and an obligation met at some instant or on time. Assumes nothing.
use mathlib.Core.Bool.{Bool, true, false, not, cond, ◌&&◌, ◌||◌}
use mathlib.Core.List.{List, [], ◌∷◌, ◌++◌}
use mathlib.Core.Logic.{◌↔◌, ◌⊎◌, inl, inr}
use mathlib.Core.Path.{◌≡◌, refl, sym, ap, ◌∙◌, subst}
use Prim.Native.Nat.{ℕ, zero, suc, ◌+◌, ◌-◌, ◌≤◌, ◌<◌}
use native.Mathlib.Omega.{arith}
use lib.Dec.{T, le→leb, ltb→lt, eqb→eq, eqb_refl}
use lib.IntN.{ℤ, pos, negsuc}
use lib.Signed.{lt_z, le_z, ◌≤ℤ◌, le_z_yes, lt_z_yes, lt_z_no, <ℤ-≤ℤ_trans}
use lib.ListN.{length, get_or, take, drop, length-drop, take-append-drop}
use lib.Seq.{take-suc, take-take, get_or-drop}
use Rattle.tesl.specs.Lists.{any}
use Rattle.tesl.specs.Run.{Filled, ticks_at}
use Rattle.tesl.specs.Fits.{eq_z, last_tags, ticks_in, Obligation, meets}
use Rattle.tesl.specs.Formula.{instant, Ticking, tag, ticks_below, LastTagAtMost, no_instant}
use Rattle.tesl.proofs.Tests.{and_l, and_r, and_i, or_l, or_r, or-e, T→≡, ≡→T}
use Rattle.tesl.proofs.FormulaLists.{any-find, any-has, count-snoc, count-append}
use Rattle.tesl.proofs.FormulaParts.{on_time, paid}

-- ---- whole numbers

pub eq_z→eq : (a b : ℤ) → T (eq_z a b) → a ≡ b
eq_z→eq (pos a) (pos b) t = ap pos (eqb→eq a b t)
eq_z→eq (pos a) (negsuc b) t = absurd t
eq_z→eq (negsuc a) (pos b) t = absurd t
eq_z→eq (negsuc a) (negsuc b) t = ap negsuc (eqb→eq a b t)

eq_z-refl : (a : ℤ) → T (eq_z a a)
eq_z-refl (pos a) = eqb_refl a
eq_z-refl (negsuc a) = eqb_refl a

pub eq→eq_z : {a b : ℤ} → a ≡ b → T (eq_z a b)
eq→eq_z {a} e = subst (λ (z : ℤ). T (eq_z a z)) e (eq_z-refl a)

below-at-most : (a b : ℤ) → T (lt_z a b) → T (le_z a b)
below-at-most (pos a) (pos b) t = let h = ltb→lt a b t in le→leb a b (omega arith)
below-at-most (pos a) (negsuc b) t = t
below-at-most (negsuc a) (pos b) t = tt
below-at-most (negsuc a) (negsuc b) t = let h = ltb→lt b a t in le→leb b a (omega arith)

-- what exceeds the end of the scale is above all that doesn't
pub exceeds : {most : ℤ} (z due : ℤ) → z ≤ℤ most → (T (le_z due most) → ⊥) → z ≤ℤ due
exceeds {most} z due h n = by-test (lt_z due z) (λ t. t) (λ t. t)
  where
    by-test : (b : Bool) → (T b → T (lt_z due z)) → (T (not b) → T (not (lt_z due z))) → z ≤ℤ due
    by-test true y m = absurd (n (below-at-most due most (<ℤ-≤ℤ_trans {a = due} {b = z} {c = most} (lt_z_yes (y tt)) h).lt))
    by-test false y m = lt_z_no (m tt)

-- ---- ticks below an instant

pub ticks-below : (run : List Filled) (K n : ℕ) → n ≤ length run → ticks_in K (take n run) ≡ ticks_below run K n
ticks-below run K zero h = refl
ticks-below run K (suc n) h =
    ap (ticks_in K) (take-suc run n no_instant h)
    ∙ count-snoc (λ (f : Filled). ticks_at f K) (take n run) (instant run n)
    ∙ ap (λ (c : ℕ). cond (ticks_at (instant run n) K) 1 0 + c) (ticks-below run K n (omega arith))

pub ticks-with : (run : List Filled) (K n : ℕ) → n < length run → ticks_in K (take n run ++ (instant run n ∷ [])) ≡ ticks_below run K (suc n)
ticks-with run K n h = ap (ticks_in K) (sym (take-suc run n no_instant h)) ∙ ticks-below run K (suc n) h

-- from the instant after i up to and with j
pub ticks-between : (run : List Filled) (K i j : ℕ) → i < j → j < length run
    → ticks_below run K (suc j) ≡ ticks_below run K (suc i) + ticks_in K (drop (suc i) (take j run) ++ (instant run j ∷ []))
ticks-between run K i j l h =
    let p : Filled → Bool = λ f. ticks_at f K in
    let before = take j run in
    let here = instant run j ∷ [] in
    let whole : ticks_in K before ≡ ticks_in K (take (suc i) before) + ticks_in K (drop (suc i) before) =
    ap (ticks_in K) (sym (take-append-drop (suc i) before)) ∙ count-append p (take (suc i) before) (drop (suc i) before) in
    let early : ticks_in K (take (suc i) before) ≡ ticks_below run K (suc i) = ap (ticks_in K) (take-take (suc i) j run l) ∙ ticks-below run K (suc i) (omega arith) in
    omega (arith, ticks-with run K j h, count-append p before here, count-append p (drop (suc i) before) here, whole, early)

-- ---- an obligation: met from instant k on, or on time

last-tag : (run : List Filled) (o : Obligation) → T (on_time (last_tags run) o) ↔ LastTagAtMost run o.on o.due
last-tag [] o = (λ t n e. absurd (omega arith), λ h. tt)
last-tag (f ∷ []) o = (λ t n e. rw (let z : n ≡ 0 = omega arith in z) (le_z_yes t), λ h. (h 0 refl).le)
last-tag (f ∷ (g ∷ run)) o =
    let r = last-tag (g ∷ run) o in
    (λ t. elim [ zero ↦ λ e. absurd (omega arith) | suc n ↦ λ e. r.0 t n (omega arith) ], λ h. r.1 (λ n e. h (suc n) (ap suc e)))

abbrev pub MetFrom : ℕ → List Filled → Obligation → Type 0
MetFrom k run o = (m : ℕ) × (k ≤ m) × (m < length run) × Ticking run o.clock m × (tag run o.on m ≡ o.due)

pub met-from : (k : ℕ) (run : List Filled) (o : Obligation) → T (any (λ (f : Filled). meets f o) (drop k run)) ↔ MetFrom k run o
met-from k run o = (λ t. found (any-find (λ (f : Filled). meets f o) (drop k run) no_instant t), back)
  where
    ticks : ℕ → Bool
    ticks m = ticks_at (instant run m) o.clock

    due : ℕ → Bool
    due m = eq_z (tag run o.on m) o.due

    found : ((j : ℕ) × (j < length (drop k run)) × T (meets (get_or (drop k run) j no_instant) o)) → MetFrom k run o
    found w =
        let m : ℕ = k + w.0 in
        let u : T (ticks m && due m) = subst (λ (f : Filled). T (meets f o)) (get_or-drop k run w.0 no_instant) w.2 in
        let b : w.0 < length (drop k run) = w.1 in
        (m, omega arith, omega (arith, length-drop k run), T→≡ (ticks m) (and_l (ticks m) (due m) u), eq_z→eq (tag run o.on m) o.due (and_r (ticks m) (due m) u))

    back : MetFrom k run o → T (any (λ (f : Filled). meets f o) (drop k run))
    back w =
        let m : ℕ = w.0 in
        let l : k ≤ m = w.1 in
        let b : m < length run = w.2 in
        let e : m ≡ k + (m - k) = omega arith in
        any-has (λ (f : Filled). meets f o) (drop k run) no_instant (m - k) (omega (arith, length-drop k run))
        (subst (λ (f : Filled). T (meets f o)) (ap (instant run) e ∙ sym (get_or-drop k run (m - k) no_instant))
        (and_i (ticks m) (due m) (≡→T w.3) (eq→eq_z w.4)))

pub paid-one : (k : ℕ) (run : List Filled) (o : Obligation) → T (paid (last_tags run) (drop k run) (o ∷ [])) ↔ (MetFrom k run o ⊎ LastTagAtMost run o.on o.due)
paid-one k run o =
    let met : Bool = any (λ (f : Filled). meets f o) (drop k run) in
    let fair : Bool = on_time (last_tags run) o in (
      λ t. or-e met fair (and_l (met || fair) true t) (λ u. inl ((met-from k run o).0 u)) (λ u. inr ((last-tag run o).0 u)),
      λ s. and_i (met || fair) true (from_either s) tt,
    )
  where
    from_either : (MetFrom k run o ⊎ LastTagAtMost run o.on o.due) → T (any (λ (f : Filled). meets f o) (drop k run) || on_time (last_tags run) o)
    from_either (inl w) = or_l (any (λ (f : Filled). meets f o) (drop k run)) (on_time (last_tags run) o) ((met-from k run o).1 w)
    from_either (inr h) = or_r (any (λ (f : Filled). meets f o) (drop k run)) (on_time (last_tags run) o) ((last-tag run o).1 h)
