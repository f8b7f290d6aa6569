-- The executable `unmet` lists the unmet obligations and no others: it filters those that sporadic lines are and those that each number of an instant begins, by what the numbers from there on meet.
-- And `countdowns` lists the countdowns: those that each number of an instant begins, less the ticks from there on. Assumes nothing.
use mathlib.Core.Bool.{Bool, true, false, not, cond, ◌&&◌}
use mathlib.Core.List.Memᴰ
use mathlib.Core.List.{List, [], ◌∷◌, Memᴰ}
use mathlib.Core.Logic.{◌↔◌, ⊎_elim}
use mathlib.Core.Path.{◌≡◌, refl, sym, ap, ◌∙◌, subst}
use Prim.Native.Nat.{ℕ, suc, ◌+◌, ◌-◌, ◌<◌}
use native.Mathlib.Nat.{le_refl}
use native.Mathlib.Omega.{arith}
use lib.Dec.{T, ltb, ltb→lt, lt→ltb}
use lib.IntN.{ℤ, pos, ◌+ℤ◌}
use lib.ListN.{length, take, drop, take-append-drop}
use lib.Seq.{take-length}
use lib.Signed.{le_z, ◌≤ℤ◌, le_z_yes}
use Rattle.records.specs.declared.line.Line.{Line}
use Rattle.records.specs.declared.line.Line.TheVariants.{Sporadic, Relation, Implies, Excludes, Delayed, Weakly, Strictly, Kills, Counted}
use Rattle.tesl.specs.Lists.{any, flat_map}
use Rattle.tesl.specs.Run.{Filled, ticks_at, tag_at}
use Rattle.tesl.specs.Fits.{Obligation, meets, owed_at_start, owed_from, unmet_by, unmet_later, unmet, ticks_in, Countdown, counted_from, left_of, left_by, run_countdowns}
use Rattle.tesl.specs.Formula.{instant, tag, ticks_below, no_instant}
use Rattle.theory.specs.Unmet.{Unmet, sporadic, delayed, Counting, counted, NoneOwed}
use Rattle.tesl.proofs.Tests.{T→≡}
use Rattle.tesl.proofs.FormulaLists.{count-append}
use Rattle.tesl.proofs.FormulaOwed.{ticks-below, MetFrom, met-from}
use Rattle.theory.proofs.Members.{mem-flat_map, of-flat_map, of-by_later, mem-by_later, mem-filter, of-filter}

-- ---- the obligations of the lines

-- the one that a sporadic line is
start_of : (l : Line) (o : Obligation) → Memᴰ o (owed_at_start l) → (A B : ℕ) × (t : ℤ) × (l ≡ Sporadic A B t) × (o ≡ record { clock = A; due = t; on = B })
start_of (Sporadic A B t) o m = (A, B, t, refl, Memᴰ.eq_of_singleton m)
start_of (Relation A B p q) o m = absurd (Memᴰ.not-nil m)
start_of (Implies A B) o m = absurd (Memᴰ.not-nil m)
start_of (Excludes A B) o m = absurd (Memᴰ.not-nil m)
start_of (Delayed A B D d) o m = absurd (Memᴰ.not-nil m)
start_of (Weakly A B) o m = absurd (Memᴰ.not-nil m)
start_of (Strictly A B) o m = absurd (Memᴰ.not-nil m)
start_of (Kills A B) o m = absurd (Memᴰ.not-nil m)
start_of (Counted A B D n) o m = absurd (Memᴰ.not-nil m)

-- the one that a delay line's tick begins
begun-of : (most : ℤ) (f : Filled) (l : Line) (o : Obligation) → Memᴰ o (owed_from most f l)
    → (A B D d : ℕ) × (l ≡ Delayed A B D d) × (ticks_at f A ≡ true) × ((tag_at f B +ℤ pos d) ≤ℤ most) × (o ≡ record { clock = D; due = tag_at f B +ℤ pos d; on = B })
begun-of most f (Delayed A B D d) o m = let r = by_tests (ticks_at f A) (le_z (tag_at f B +ℤ pos d) most) m in (A, B, D, d, refl, r.0, le_z_yes r.1, r.2)
  where
    begun : Obligation
    begun = record { clock = D; due = tag_at f B +ℤ pos d; on = B }

    by_tests : (b c : Bool) → Memᴰ o (cond (b && c) (begun ∷ []) []) → (b ≡ true) × T c × (o ≡ begun)
    by_tests true true m = (refl, tt, Memᴰ.eq_of_singleton m)
    by_tests true false m = absurd (Memᴰ.not-nil m)
    by_tests false c m = absurd (Memᴰ.not-nil m)
begun-of most f (Sporadic A B t) o m = absurd (Memᴰ.not-nil m)
begun-of most f (Relation A B p q) o m = absurd (Memᴰ.not-nil m)
begun-of most f (Implies A B) o m = absurd (Memᴰ.not-nil m)
begun-of most f (Excludes A B) o m = absurd (Memᴰ.not-nil m)
begun-of most f (Weakly A B) o m = absurd (Memᴰ.not-nil m)
begun-of most f (Strictly A B) o m = absurd (Memᴰ.not-nil m)
begun-of most f (Kills A B) o m = absurd (Memᴰ.not-nil m)
begun-of most f (Counted A B D n) o m = absurd (Memᴰ.not-nil m)

-- ---- those that no instant from number k on meets

not-i : (b : Bool) → (T b → ⊥) → T (not b)
not-i true n = n tt
not-i false n = tt

not-e : (b : Bool) → T (not b) → T b → ⊥
not-e true n t = n
not-e false n t = t

unmet_by-listed : (k : ℕ) (run : List Filled) (os : List Obligation) (o : Obligation) → Memᴰ o (unmet_by (drop k run) os) ↔ (Memᴰ o os × (MetFrom k run o → ⊥))
unmet_by-listed k run os o = (
  λ m. let r = of-filter left os m in (r.0, λ w. not-e (met o) r.1 ((met-from k run o).1 w)),
  λ h. mem-filter left os h.0 (not-i (met o) (λ t. h.1 ((met-from k run o).0 t))),
)
  where
    met : Obligation → Bool
    met p = any (λ (f : Filled). meets f p) (drop k run)

    left : Obligation → Bool
    left p = not (met p)

-- ---- those begun at the instant number n

-- those that it begins and no later one meets
abbrev begun : ℤ → List Line → Filled → List Filled → List Obligation
begun most ls f later = unmet_by later (flat_map (owed_from most f) ls)

-- ---- the unmet obligations

pub unmet-listed : (most : ℤ) (ls : List Line) (run : List Filled) (o : Obligation) → Memᴰ o (unmet most ls run) ↔ Unmet most ls run o
unmet-listed most ls run o = (λ m. ⊎_elim from_start from-later (Memᴰ.append_cases (unmet_by run (flat_map owed_at_start ls)) m), listed)
  where
    from_start : Memᴰ o (unmet_by run (flat_map owed_at_start ls)) → Unmet most ls run o
    from_start m =
        let u = (unmet_by-listed 0 run (flat_map owed_at_start ls) o).0 m in
        let r = of-flat_map owed_at_start ls u.0 in
        let b = start_of r.0 o r.2 in
        sporadic b.0 b.1 b.2 (subst (λ (l : Line). Memᴰ l ls) b.3 r.1) b.4 (λ i w. u.1 (i, omega arith, w.0, w.1, w.2))

    from-later : Memᴰ o (unmet_later most ls run) → Unmet most ls run o
    from-later m =
        let n = of-by_later (begun most ls) no_instant run m in
        let f = instant run n.0 in
        let u = (unmet_by-listed (suc n.0) run (flat_map (owed_from most f) ls) o).0 n.2 in
        let r = of-flat_map (owed_from most f) ls u.0 in
        let b = begun-of most f r.0 o r.2 in
        delayed b.0 b.1 b.2 b.3 (subst (λ (l : Line). Memᴰ l ls) b.4 r.1) n.0 n.1 b.5 b.6 b.7 (λ i l w. u.1 (i, l, w.0, w.1, w.2))

    listed : Unmet most ls run o → Memᴰ o (unmet most ls run)
    listed (sporadic A B t l e none) =
        Memᴰ.append_left (unmet_later most ls run)
        ((unmet_by-listed 0 run (flat_map owed_at_start ls) o).1 (mem-flat_map owed_at_start l (Memᴰ.head e), λ w. none w.0 (w.2, w.3, w.4)))
    listed (delayed A B D d l n k t h e none) =
        Memᴰ.append_right (unmet_by run (flat_map owed_at_start ls))
        (mem-by_later (begun most ls) no_instant run n k ((unmet_by-listed (suc n) run (flat_map (owed_from most (instant run n)) ls) o).1
        (mem-flat_map (owed_from most (instant run n)) l (rw (t, T→≡ (le_z (tag run B n +ℤ pos d) most) h.le) (Memᴰ.head e)), λ w. none w.0 w.1 (w.2, w.3, w.4))))

-- ---- the countdowns

-- the one that a counted line's tick begins
counted_of : (f : Filled) (l : Line) (c : Countdown) → Memᴰ c (counted_from f l)
    → (A B D n : ℕ) × (l ≡ Counted A B D n) × (ticks_at f A ≡ true) × (c ≡ record { clock = D; on = B; wanted = n })
counted_of f (Counted A B D n) c m = let r = by-test (ticks_at f A) m in (A, B, D, n, refl, r.0, r.1)
  where
    here : Countdown
    here = record { clock = D; on = B; wanted = n }

    by-test : (b : Bool) → Memᴰ c (cond b (here ∷ []) []) → (b ≡ true) × (c ≡ here)
    by-test true m = (refl, Memᴰ.eq_of_singleton m)
    by-test false m = absurd (Memᴰ.not-nil m)
counted_of f (Sporadic A B t) c m = absurd (Memᴰ.not-nil m)
counted_of f (Relation A B p q) c m = absurd (Memᴰ.not-nil m)
counted_of f (Implies A B) c m = absurd (Memᴰ.not-nil m)
counted_of f (Excludes A B) c m = absurd (Memᴰ.not-nil m)
counted_of f (Delayed A B D d) c m = absurd (Memᴰ.not-nil m)
counted_of f (Weakly A B) c m = absurd (Memᴰ.not-nil m)
counted_of f (Strictly A B) c m = absurd (Memᴰ.not-nil m)
counted_of f (Kills A B) c m = absurd (Memᴰ.not-nil m)

-- those that an instant begins, left by the later ones
abbrev counting : List Line → Filled → List Filled → List Countdown
counting ls f later = left_by later (flat_map (counted_from f) ls)

-- K's ticks of a run: up to and with instant i, and after it
ticks-after : (run : List Filled) (K i : ℕ) → i < length run → ticks_below run K (length run) ≡ ticks_below run K (suc i) + ticks_in K (drop (suc i) run)
ticks-after run K i b =
    sym (ticks-below run K (length run) (le_refl (length run)))
    ∙ ap (ticks_in K) (take-length run ∙ sym (take-append-drop (suc i) run))
    ∙ count-append (λ (f : Filled). ticks_at f K) (take (suc i) run) (drop (suc i) run)
    ∙ ap (λ (n : ℕ). n + ticks_in K (drop (suc i) run)) (ticks-below run K (suc i) b)

pub countdowns-listed : (ls : List Line) (run : List Filled) (c : Countdown) → Memᴰ c (run_countdowns ls run) ↔ Counting ls run c
countdowns-listed ls run c = (of-list, listed)
  where
    -- what is left of one
    left_is : (later : List Filled) (x : Countdown) (b : Bool) → (T b → ticks_in x.on later < x.wanted)
        → Memᴰ c (cond b (record { clock = x.clock; on = x.on; wanted = x.wanted - ticks_in x.on later } ∷ []) [])
        → (ticks_in x.on later < x.wanted) × (c ≡ record { clock = x.clock; on = x.on; wanted = x.wanted - ticks_in x.on later })
    left_is later x true l m = (l tt, Memᴰ.eq_of_singleton m)
    left_is later x false l m = absurd (Memᴰ.not-nil m)

    begun-at : (i : ℕ) → i < length run → (l : Line) → Memᴰ l ls → (x : Countdown) → Memᴰ x (counted_from (instant run i) l) → Memᴰ c (left_of (drop (suc i) run) x) → Counting ls run c
    begun-at i b l h x m n =
        let k = counted_of (instant run i) l x m in
        let y : Countdown = record { clock = k.2; on = k.1; wanted = k.3 } in
        let later = drop (suc i) run in
        let r = left_is later y (ltb (ticks_in k.1 later) k.3) (ltb→lt (ticks_in k.1 later) k.3) (subst (λ (z : Countdown). Memᴰ c (left_of later z)) k.6 n) in
        counted k.0 k.1 k.2 k.3 (subst (λ (z : Line). Memᴰ z ls) k.4 h) i b k.5 (ticks_in k.1 later) (ticks-after run k.1 i b) (omega (arith, r.0)) r.1

    of-list : Memᴰ c (run_countdowns ls run) → Counting ls run c
    of-list m =
        let n = of-by_later (counting ls) no_instant run m in
        let f = instant run n.0 in
        let later = drop (suc n.0) run in
        let u = of-flat_map (left_of later) (flat_map (counted_from f) ls) n.2 in
        let r = of-flat_map (counted_from f) ls u.1 in
        begun-at n.0 n.1 r.0 r.1 u.0 r.2 u.2

    listed : Counting ls run c → Memᴰ c (run_countdowns ls run)
    listed (counted A B D n h i b t m e l q) =
        let later = drop (suc i) run in
        let k : m ≡ ticks_in B later = omega (arith, ticks-after run B i b) in
        let x : Countdown = record { clock = D; on = B; wanted = n } in
        mem-by_later (counting ls) no_instant run i b
        (mem-flat_map (left_of later) {x = x} (mem-flat_map (counted_from (instant run i)) h (rw t (Memᴰ.head refl)))
        (subst (λ (j : ℕ). Memᴰ c (cond (ltb j n) (record { clock = D; on = B; wanted = n - j } ∷ []) [])) k (rw (T→≡ (ltb m n) (lt→ltb m n l)) (Memᴰ.head q))))

-- ---- none

nothing : {A : Type 0} (xs : List A) → ((x : A) → Memᴰ x xs → ⊥) → xs ≡ []
nothing [] h = refl
nothing (x ∷ xs) h = absurd (h x (Memᴰ.head refl))

-- none is owed exactly when none is listed
pub none-owed : (most : ℤ) (ls : List Line) (run : List Filled) → ((unmet most ls run ≡ []) × (run_countdowns ls run ≡ [])) ↔ NoneOwed most ls run
none-owed most ls run = (
  λ e. record {
    unmet = λ o u. Memᴰ.not-nil (subst (Memᴰ o) e.0 ((unmet-listed most ls run o).1 u));
    counting = λ c u. absurd (Memᴰ.not-nil (subst (Memᴰ c) e.1 ((countdowns-listed ls run c).1 u)));
  },
  λ n. (nothing (unmet most ls run) (λ o m. n.unmet o ((unmet-listed most ls run o).0 m)), nothing (run_countdowns ls run) (λ c m. n.counting c ((countdowns-listed ls run c).0 m))),
)
