-- The law of each kind of line, one after the other; a new kind adds its law and its clause of `law`. Assumes nothing.
use mathlib.Core.Bool.{Bool, true, false, cond, ◌&&◌, and-or_distrib_left}
use mathlib.Core.List.{List, [], ◌∷◌, ◌++◌}
use mathlib.Core.Path.{◌≡◌, refl, sym, subst}
use Prim.Native.Nat.{ℕ, suc, ◌+◌, ◌-◌, ◌≤◌, ◌<◌}
use native.Mathlib.Omega.{arith}
use lib.Dec.{T, T_not, not_T, leb, ltb, eqb, leb→le, le→leb, ltb→lt, eqb→eq, eqb_refl}
use lib.IntN.{ℤ, pos, negsuc, ◌+ℤ◌}
use lib.Signed.{le_z}
use Rattle.records.specs.declared.line.Line.{Line}
use Rattle.records.specs.declared.line.Line.TheVariants.{Sporadic, Relation, Implies, Excludes, Delayed, Weakly, Strictly, Kills, Counted}
use Rattle.records.specs.Line.{clocks_of}
use Rattle.tesl.specs.Lists.{all, any}
use Rattle.tesl.specs.Run.{Filled, ticks_at, tag_at}
use Rattle.tesl.specs.Fits.{ticks_in, most_tag, Obligation, Countdown, left_by}
use Rattle.theory.specs.Step.{bit}
use Rattle.theory.specs.Limits.{due_ok, clocks_ok, least_wanted, most_wanted, countdown_ok}
use Rattle.tesl.proofs.Tests.{and_l, and_r, and_i, or_l, or_r, or-e}
use Rattle.theory.proofs.Lists.{any_append, any_snoc, count-snoc}
use Rattle.theory.proofs.Whole.{tag-due, delay-due}
use Rattle.theory.proofs.Countdowns.{counted-asks}
use Rattle.theory.proofs.Law.{Law, no_lead, no_stop, no-owed, no-count, by-instant}

-- ---- sporadic: an obligation from the start

two-clocks : (a b c : ℕ) → T (ltb a c && (ltb b c && true)) → T (ltb a c && ltb b c && true)
two-clocks a b c t =
    let u = and_r (ltb a c) (ltb b c && true) t in
    and_i (ltb a c && ltb b c) true (and_i (ltb a c) (ltb b c) (and_l (ltb a c) (ltb b c && true) t) (and_l (ltb b c) true u)) tt

sporadic-law : (A B : ℕ) (t : ℤ) → Law (Sporadic A B t)
unfolding clocks_of
sporadic-law A B t = record {
  leads = no_lead (Sporadic A B t) (λ run. refl) (λ run. refl) (λ f n. refl);
  stops = no_stop (Sporadic A B t) (λ run k. refl);
  owes = record {
    start-number = omega arith;
    start-clocks = λ c w. two-clocks A B c w;
    begun-clocks = λ most c f w. tt;
    start-dues = λ v. and_i (due_ok most_tag t) true (tag-due t v.2) tt;
    begun-dues = λ most f g. tt;
  };
  counts = no-count (Sporadic A B t) (λ f. refl);
  judged = by-instant (Sporadic A B t) (λ run f. refl);
}

-- ---- relation, implies, excludes: by the instant alone

relation-law : (A B : ℕ) (p q : ℤ) → Law (Relation A B p q)
relation-law A B p q = record {
  leads = no_lead (Relation A B p q) (λ run. refl) (λ run. refl) (λ f n. refl);
  stops = no_stop (Relation A B p q) (λ run k. refl);
  owes = no-owed (Relation A B p q) refl (λ most f. refl);
  counts = no-count (Relation A B p q) (λ f. refl);
  judged = by-instant (Relation A B p q) (λ run f. refl);
}

implies-law : (A B : ℕ) → Law (Implies A B)
implies-law A B = record {
  leads = no_lead (Implies A B) (λ run. refl) (λ run. refl) (λ f n. refl);
  stops = no_stop (Implies A B) (λ run k. refl);
  owes = no-owed (Implies A B) refl (λ most f. refl);
  counts = no-count (Implies A B) (λ f. refl);
  judged = by-instant (Implies A B) (λ run f. refl);
}

excludes-law : (A B : ℕ) → Law (Excludes A B)
excludes-law A B = record {
  leads = no_lead (Excludes A B) (λ run. refl) (λ run. refl) (λ f n. refl);
  stops = no_stop (Excludes A B) (λ run k. refl);
  owes = no-owed (Excludes A B) refl (λ most f. refl);
  counts = no-count (Excludes A B) (λ f. refl);
  judged = by-instant (Excludes A B) (λ run f. refl);
}

-- ---- delayed: each tick of A begins an obligation

-- what holds of the one, if it is begun, holds of what is begun
if-begun : {X : Type 0} (p : X → Bool) (b : Bool) (o : X) → (T b → T (p o)) → T (all p (cond b (o ∷ []) []))
if-begun p true o t = and_i (p o) true (t tt) tt
if-begun p false o t = tt

delayed-law : (A B D d : ℕ) → Law (Delayed A B D d)
unfolding clocks_of
delayed-law A B D d = record {
  leads = no_lead (Delayed A B D d) (λ run. refl) (λ run. refl) (λ f n. refl);
  stops = no_stop (Delayed A B D d) (λ run k. refl);
  owes = record {
    start-number = omega arith;
    start-clocks = λ c w. tt;
    begun-clocks = λ most c f w.
        let u = and_r (ltb A c) (ltb B c && (ltb D c && true)) w in
        if-begun (clocks_ok c) (begins most f) (begun f)
        (λ t. and_i (ltb D c) (ltb B c) (and_l (ltb D c) true (and_r (ltb B c) (ltb D c && true) u)) (and_l (ltb B c) (ltb D c && true) u));
    start-dues = λ v. tt;
    begun-dues = λ most f g.
        if-begun (λ (o : Obligation). due_ok most o.due) (begins most f) (begun f)
        (λ t. and_i (le_z (negsuc 32767) (due f)) (le_z (due f) most) (delay-due (tag_at f B) d (g B)) (and_r (ticks_at f A) (le_z (due f) most) t));
  };
  counts = no-count (Delayed A B D d) (λ f. refl);
  judged = by-instant (Delayed A B D d) (λ run f. refl);
}
  where
    due : Filled → ℤ
    due f = tag_at f B +ℤ pos d

    begins : ℤ → Filled → Bool
    begins most f = ticks_at f A && le_z (due f) most

    begun : Filled → Obligation
    begun f = record { clock = D; due = due f; on = B }

-- ---- precedes: the lead

ticks_in-snoc : (k : ℕ) (run : List Filled) (f : Filled) → ticks_in k (run ++ (f ∷ [])) ≡ ticks_in k run + bit (ticks_at f k)
ticks_in-snoc k run f = count-snoc (λ (g : Filled). ticks_at g k) run f

lead_after-law : (A B : ℕ) (run : List Filled) (f : Filled) → T (leb (ticks_in B run) (ticks_in A run))
    → ticks_in A (run ++ (f ∷ [])) - ticks_in B (run ++ (f ∷ [])) ≡ ticks_in A run - ticks_in B run + bit (ticks_at f A) - bit (ticks_at f B)
lead_after-law A B run f o = omega (arith, leb→le (ticks_in B run) (ticks_in A run) o, ticks_in-snoc A run f, ticks_in-snoc B run f)

lead-grows : (a b : Bool) (n held : ℕ) → n ≤ held → n + bit a - bit b ≤ suc held
lead-grows true b n held h = omega arith
lead-grows false b n held h = omega arith

weakly-law : (A B : ℕ) → Law (Weakly A B)
weakly-law A B = record {
  leads = record {
    at-start = tt;
    none = refl;
    stays = λ run f h. h;
    after = lead_after-law A B;
    grows = λ f n held h. lead-grows (ticks_at f A) (ticks_at f B) n held h;
  };
  stops = no_stop (Weakly A B) (λ run k. refl);
  owes = no-owed (Weakly A B) refl (λ most f. refl);
  counts = no-count (Weakly A B) (λ f. refl);
  judged = record {
    asks = λ run f o h. le→leb (bit (ticks_at f B)) (ticks_in A run - ticks_in B run + bit (ticks_at f A))
        (omega (arith, leb→le (ticks_in B run) (ticks_in A run) o, leb→le (ticks_in B (run ++ (f ∷ []))) (ticks_in A (run ++ (f ∷ []))) h, ticks_in-snoc A run f, ticks_in-snoc B run f));
    suffices = λ run f q m o h. le→leb (ticks_in B (run ++ (f ∷ []))) (ticks_in A (run ++ (f ∷ [])))
        (omega (arith, leb→le (ticks_in B run) (ticks_in A run) o, leb→le (bit (ticks_at f B)) (ticks_in A run - ticks_in B run + bit (ticks_at f A)) h, ticks_in-snoc A run f, ticks_in-snoc B run f));
  };
}

strictly-law : (A B : ℕ) → Law (Strictly A B)
strictly-law A B = record {
  leads = record {
    at-start = tt;
    none = refl;
    stays = λ run f h. le→leb (ticks_in B (run ++ (f ∷ []))) (ticks_in A (run ++ (f ∷ [])))
        (omega (arith, leb→le (ticks_in B (run ++ (f ∷ []))) (ticks_in A run) h, ticks_in-snoc A run f));
    after = lead_after-law A B;
    grows = λ f n held h. lead-grows (ticks_at f A) (ticks_at f B) n held h;
  };
  stops = no_stop (Strictly A B) (λ run k. refl);
  owes = no-owed (Strictly A B) refl (λ most f. refl);
  counts = no-count (Strictly A B) (λ f. refl);
  judged = record {
    asks = λ run f o h. le→leb (bit (ticks_at f B)) (ticks_in A run - ticks_in B run)
        (omega (arith, leb→le (ticks_in B run) (ticks_in A run) o, leb→le (ticks_in B (run ++ (f ∷ []))) (ticks_in A run) h, ticks_in-snoc B run f));
    suffices = λ run f q m o h. le→leb (ticks_in B (run ++ (f ∷ []))) (ticks_in A run)
        (omega (arith, leb→le (ticks_in B run) (ticks_in A run) o, leb→le (bit (ticks_at f B)) (ticks_in A run - ticks_in B run) h, ticks_in-snoc B run f));
  };
}

-- ---- kills: the stopped clock

kills-law : (A B : ℕ) → Law (Kills A B)
unfolding clocks_of
kills-law A B = record {
  leads = no_lead (Kills A B) (λ run. refl) (λ run. refl) (λ f n. refl);
  stops = record {
    after = λ run f k. rw (any_append ticked run (f ∷ [])) (and-or_distrib_left (eqb B k) (any ticked run) (any ticked (f ∷ [])));
    below = λ run c k w t.
        subst (λ (j : ℕ). j < c) (eqb→eq B k (and_l (eqb B k) (any ticked run) t)) (ltb→lt B c (and_l (ltb B c) true (and_r (ltb A c) (ltb B c && true) w)));
    quiet = λ run f k h t u. T_not (ticks_at f B && any ticked (run ++ (f ∷ []))) h
        (and_i (ticks_at f B) (any ticked (run ++ (f ∷ []))) (subst (λ (j : ℕ). T (ticks_at f j)) (sym (eqb→eq B k (and_l (eqb B k) (any ticked run) t))) u)
        (subst T (sym (any_snoc ticked run f)) (or_l (any ticked run) (ticked f) (and_r (eqb B k) (any ticked run) t))));
  };
  owes = no-owed (Kills A B) refl (λ most f. refl);
  counts = no-count (Kills A B) (λ f. refl);
  judged = record {
    asks = λ run f o h. not_T (ticks_at f B && ticked f)
        (λ t. T_not (ticks_at f B && any ticked (run ++ (f ∷ []))) h
        (and_i (ticks_at f B) (any ticked (run ++ (f ∷ []))) (and_l (ticks_at f B) (ticked f) t)
        (subst T (sym (any_snoc ticked run f)) (or_r (any ticked run) (ticked f) (and_r (ticks_at f B) (ticked f) t)))));
    suffices = λ run f q m o h. not_T (ticks_at f B && any ticked (run ++ (f ∷ [])))
        (λ t. let b = and_l (ticks_at f B) (any ticked (run ++ (f ∷ []))) t in
        or-e (any ticked run) (ticked f) (subst T (any_snoc ticked run f) (and_r (ticks_at f B) (any ticked (run ++ (f ∷ []))) t))
        (λ u. q B (and_i (eqb B B) (any ticked run) (eqb_refl B) u) b)
        (λ u. T_not (ticks_at f B && ticked f) h (and_i (ticks_at f B) (ticked f) b u)));
  };
}
  where
    ticked : Filled → Bool
    ticked g = ticks_at g A

-- ---- counted: each tick of A begins a countdown

counted-law : (A B D n : ℕ) → Law (Counted A B D n)
unfolding clocks_of
counted-law A B D n = record {
  leads = no_lead (Counted A B D n) (λ run. refl) (λ run. refl) (λ f k. refl);
  stops = no_stop (Counted A B D n) (λ run k. refl);
  owes = no-owed (Counted A B D n) refl (λ most f. refl);
  counts = record {
    none-missed = λ run f h. subst T (counted-asks A B D n run f) h;
    begun-limits = λ c f w v.
        let u = and_r (ltb A c) (ltb B c && (ltb D c && true)) w in
        begun c (ticks_at f A) (ltb 0 n) (ltb→lt 0 n) v.3 (and_i (ltb D c) (ltb B c) (and_l (ltb D c) true (and_r (ltb B c) (ltb D c && true) u)) (and_l (ltb B c) (ltb D c && true) u));
  };
  judged = record {
    asks = λ run f o h. tt;
    suffices = λ run f q m o h. subst T (sym (counted-asks A B D n run f)) m;
  };
}
  where
    wanting : ℕ → Countdown
    wanting k = record { clock = D; on = B; wanted = k }

    begun : (c : ℕ) (a b : Bool) → (T b → 0 < n) → n < 256 → T (ltb D c && ltb B c) → T (all (countdown_ok c) (left_by [] (cond a (wanting n ∷ []) [])))
    begun c true b l h w = by-test (ltb 0 n) (ltb→lt 0 n)
      where
        by-test : (x : Bool) → (T x → 0 < n) → T (all (countdown_ok c) (cond x (wanting (n - 0) ∷ []) [] ++ []))
        by-test true p = and_i (countdown_ok c (wanting (n - 0))) true
            (and_i (ltb D c && ltb B c) (leb least_wanted (n - 0) && leb (n - 0) most_wanted) w
            (and_i (leb least_wanted (n - 0)) (leb (n - 0) most_wanted) (let q = p tt in le→leb least_wanted (n - 0) (omega arith)) (le→leb (n - 0) most_wanted (omega arith)))) tt
        by-test false p = tt
    begun c false b l h w = tt

-- ---- every line
pub law : (l : Line) → Law l
law (Sporadic A B t) = sporadic-law A B t
law (Relation A B p q) = relation-law A B p q
law (Implies A B) = implies-law A B
law (Excludes A B) = excludes-law A B
law (Delayed A B D d) = delayed-law A B D d
law (Weakly A B) = weakly-law A B
law (Strictly A B) = strictly-law A B
law (Kills A B) = kills-law A B
law (Counted A B D n) = counted-law A B D n
