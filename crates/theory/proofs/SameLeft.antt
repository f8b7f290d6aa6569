-- Two fitting filled runs leave the same, in document 01's words, exactly when the executable test says so of their remainders: set by set, line by line, clock by clock.
-- For leads this needs that in a fitting run no precedes line has B ahead of A. Assumes nothing.
use mathlib.Core.Bool.{Bool, false}
use mathlib.Core.List.{List, [], ◌∷◌, map, Memᴰ}
use mathlib.Core.Logic.Iff
use mathlib.Core.Logic.{◌↔◌, inl, inr}
use mathlib.Core.Path.{◌≡◌, refl, sym, ap, ◌∙◌, subst}
use Prim.Native.Nat.{ℕ, zero, suc, ◌+◌, ◌-◌, ◌≤◌, ◌<◌}
use native.Mathlib.Nat.{le_refl}
use native.Mathlib.Omega.{arith}
use lib.Dec.{T, eqb, eqb→eq, eqb_refl}
use lib.ListN.{length, get_or}
use lib.Seq.{take-length}
use Rattle.records.specs.declared.line.Line.{Line}
use Rattle.records.specs.declared.line.Line.TheVariants.{Sporadic, Relation, Implies, Excludes, Delayed, Weakly, Strictly, Kills, Counted}
use Rattle.records.specs.Sheet.{SheetValue}
use Rattle.tesl.specs.Lists.{any, table}
use Rattle.tesl.specs.Run.{Filled, ticks_at}
use Rattle.tesl.specs.Fits.{ticks_in, most_tag, Obligation, unmet, Countdown, run_countdowns, fits}
use Rattle.tesl.specs.Remainder.{lead_of, stops, remainder, same_obligation, same_countdown, same_remainder}
use Rattle.tesl.specs.Formula.{instant, ticks_below, no_instant, Holds, EachHolds}
use Rattle.theory.specs.Sets.{SameSet}
use Rattle.theory.specs.Unmet.{Unmet, Counting, Precedes, Lead, Stopped}
use Rattle.theory.specs.Said.{SameLeft}
use Rattle.tesl.proofs.Tests.{and_l, and_r, and_i, T→≡, ≡→T}
use Rattle.tesl.proofs.FormulaLists.{any-find, any-has}
use Rattle.tesl.proofs.FormulaOwed.{ticks-below}
use Rattle.tesl.proofs.FormulaParts.{Part, EachPart, fits-by-line}
use Rattle.tesl.proofs.FormulaLines.{weakly-law, strictly-law}
use Rattle.theory.proofs.Lists.{bool-ext, member-any, any-member, table_at, table-ext}
use Rattle.theory.proofs.Respect.{Equality, owed-equality, count-equality, alike, same_of}
use Rattle.theory.proofs.Unmet.{unmet-listed, countdowns-listed}

-- the test of what two filled runs leave
abbrev pub same_left : SheetValue → List Filled → List Filled → Bool
same_left s f g = same_remainder (remainder s f) (remainder s g)

-- ---- precedence: B is never ahead of A, so that the subtraction of a remainder's leads cuts nothing

-- K's ticks in a run
all-ticks : (run : List Filled) (K n : ℕ) → length run ≡ n → ticks_in K run ≡ ticks_below run K n
all-ticks run K n e = ap (ticks_in K) (sym (take-length run)) ∙ ticks-below run K (length run) (le_refl (length run)) ∙ ap (ticks_below run K) e

weakly-ordered : (run : List Filled) (A B n : ℕ) → length run ≡ n → Holds (Weakly A B) run → ticks_in B run ≤ ticks_in A run
weakly-ordered run A B zero e h = omega (arith, all-ticks run A zero e, all-ticks run B zero e)
weakly-ordered run A B (suc n) e h = omega (arith, all-ticks run A (suc n) e, all-ticks run B (suc n) e, h n (omega arith))

strictly-weakly : (run : List Filled) (A B : ℕ) → Holds (Strictly A B) run → Holds (Weakly A B) run
strictly-weakly run A B h n b = omega (arith, h n b)

-- no precedes line of ls has B ahead of A
abbrev pub NeverAhead : List Line → List Filled → Type 0
NeverAhead ls run = (A B : ℕ) → Precedes ls A B → ticks_in B run ≤ ticks_in A run

by_lines : (ls : List Line) (run : List Filled) → ((A B : ℕ) → Memᴰ (Weakly A B) ls → Holds (Weakly A B) run) → ((A B : ℕ) → Memᴰ (Strictly A B) ls → Holds (Strictly A B) run) → NeverAhead ls run
by_lines ls run h k A B (inl m) = weakly-ordered run A B (length run) refl (h A B m)
by_lines ls run h k A B (inr m) = weakly-ordered run A B (length run) refl (strictly-weakly run A B (k A B m))

pub holds-ordered : (ls : List Line) (run : List Filled) → EachHolds ls run → NeverAhead ls run
holds-ordered ls run h = by_lines ls run (λ A B m. of-line ls h m) (λ A B m. of-line ls h m)
  where
    of-line : {l : Line} (ls : List Line) → EachHolds ls run → Memᴰ l ls → Holds l run
    of-line {l} [] h x = elim x [ ]
    of-line {l} (k ∷ ls) h (Memᴰ.head e) = subst (λ (l : Line). Holds l run) (sym e) h.0
    of-line {l} (k ∷ ls) h (Memᴰ.tail m) = of-line {l = l} ls h.1 m

pub never-ahead : (s : SheetValue) (run : List Filled) → T (fits s run) → NeverAhead s.lines run
never-ahead s run t = by_lines s.lines run (λ A B m. (weakly-law most_tag run A B).0 (of-line s.lines parts m)) (λ A B m. (strictly-law most_tag run A B).0 (of-line s.lines parts m))
  where
    parts : EachPart most_tag s.lines run
    parts = ((fits-by-line s run).0 t).1

    of-line : {l : Line} (ls : List Line) → EachPart most_tag ls run → Memᴰ l ls → Part most_tag l run
    of-line {l} [] h x = elim x [ ]
    of-line {l} (k ∷ ls) h (Memᴰ.head e) = subst (λ (l : Line). Part most_tag l run) (sym e) h.0
    of-line {l} (k ∷ ls) h (Memᴰ.tail m) = of-line {l = l} ls h.1 m

-- ---- obligations and countdowns: where the same are equal, the same set has the same members

module _ {A : Type 0} {same : A → A → Bool} (E : Equality same) where
  in-set : (x : A) (xs : List A) → T (any (same x) xs) ↔ Memᴰ x xs
  in-set x xs = (
    λ t. let m = any-member (same x) xs t in subst (λ (y : A). Memᴰ y xs) (sym (E.equal x m.0 m.2)) m.1,
    λ m. member-any (same x) m (E.own x),
  )

  -- of two lists of what P and Q tell
  same-members : {P Q : A → Type 0} (xs ys : List A) → ((x : A) → Memᴰ x xs ↔ P x) → ((x : A) → Memᴰ x ys ↔ Q x) → SameSet same xs ys ↔ ((x : A) → P x ↔ Q x)
  same-members {P} {Q} xs ys p q = (
    λ e x. (λ h. (has-q x).0 (subst T (e x) ((has_p x).1 h)), λ h. (has_p x).0 (subst T (sym (e x)) ((has-q x).1 h))),
    λ h x. bool-ext (any (same x) xs) (any (same x) ys) (λ t. (has-q x).1 ((h x).0 ((has_p x).0 t))) (λ t. (has_p x).1 ((h x).1 ((has-q x).0 t))),
  )
    where
      has_p : (x : A) → T (any (same x) xs) ↔ P x
      has_p x = Iff.trans (in-set x xs) (p x)

      has-q : (x : A) → T (any (same x) ys) ↔ Q x
      has-q x = Iff.trans (in-set x ys) (q x)

-- ---- leads

-- a difference, by what added to b gives a
same-minus : (a b c d : ℕ) → ((n : ℕ) → (a ≡ b + n) ↔ (c ≡ d + n)) → a - b ≡ c - d
same-minus a b c d h = by_size (a - b) (c - d) refl refl
  where
    by_size : (m n : ℕ) → a - b ≡ m → c - d ≡ n → m ≡ n
    by_size zero zero p q = refl
    by_size (suc m) n p q = let e = (h (suc m)).0 (omega (arith, p)) in omega (arith, e, q)
    by_size zero (suc n) p q = let e = (h (suc n)).1 (omega (arith, q)) in omega (arith, e, p)

module _ {A B : Type 0} (h k : A → B) where
  map_same : (xs : List A) → ((x : A) → Memᴰ x xs → h x ≡ k x) → map h xs ≡ map k xs
  map_same [] e = refl
  map_same (x ∷ xs) e = λ i. e x (Memᴰ.head refl) i ∷ map_same xs (λ y m. e y (Memᴰ.tail m)) i

  map_at : {x : A} (xs : List A) → map h xs ≡ map k xs → Memᴰ x xs → h x ≡ k x
  map_at [] e x = elim x [ ]
  map_at (y ∷ xs) e (Memᴰ.head q) = cc
  map_at (y ∷ xs) e (Memᴰ.tail m) = map_at xs (cc) m

module _ (ls : List Line) (f g : List Filled) where
  abbrev SameLeads : Type 0
  SameLeads = (A B n : ℕ) → Lead ls f A B n ↔ Lead ls g A B n

  -- as often as `ticks_in` counts, in either run
  by_count : (A B n : ℕ) (run : List Filled) → (ticks_in A run ≡ ticks_in B run + n) ↔ (ticks_below run A (length run) ≡ ticks_below run B (length run) + n)
  by_count A B n run =
      let a = all-ticks run A (length run) refl in
      let b = all-ticks run B (length run) refl in
      (λ e. omega (arith, a, b), λ e. omega (arith, a, b))

  minus-at : SameLeads → (A B : ℕ) → Precedes ls A B → ticks_in A f - ticks_in B f ≡ ticks_in A g - ticks_in B g
  minus-at h A B p = same-minus (ticks_in A f) (ticks_in B f) (ticks_in A g) (ticks_in B g)
      (λ n. (
        λ e. (by_count A B n g).1 ((h A B n).0 (record { line = p; ticks = (by_count A B n f).0 e })).ticks,
        λ e. (by_count A B n f).1 ((h A B n).1 (record { line = p; ticks = (by_count A B n g).0 e })).ticks,
      ))

  lead-at : SameLeads → (l : Line) → Memᴰ l ls → lead_of f l ≡ lead_of g l
  lead-at h (Weakly A B) m = minus-at h A B (inl m)
  lead-at h (Strictly A B) m = minus-at h A B (inr m)
  lead-at h (Sporadic A B t) m = refl
  lead-at h (Relation A B p q) m = refl
  lead-at h (Implies A B) m = refl
  lead-at h (Excludes A B) m = refl
  lead-at h (Delayed A B D d) m = refl
  lead-at h (Kills A B) m = refl
  lead-at h (Counted A B D n) m = refl

  leads-tested : SameLeads → map (lead_of f) ls ≡ map (lead_of g) ls
  leads-tested h = map_same (lead_of f) (lead_of g) ls (lead-at h)

  minus-of : map (lead_of f) ls ≡ map (lead_of g) ls → (A B : ℕ) → Precedes ls A B → ticks_in A f - ticks_in B f ≡ ticks_in A g - ticks_in B g
  minus-of e A B (inl m) = map_at (lead_of f) (lead_of g) ls e m
  minus-of e A B (inr m) = map_at (lead_of f) (lead_of g) ls e m

  leads-said : NeverAhead ls f → NeverAhead ls g → map (lead_of f) ls ≡ map (lead_of g) ls → SameLeads
  leads-said u v e A B n = (
    λ h. let d = minus-of e A B h.line in record { line = h.line; ticks = (by_count A B n g).0 (omega (arith, d, u A B h.line, v A B h.line, (by_count A B n f).1 h.ticks)) },
    λ h. let d = minus-of e A B h.line in record { line = h.line; ticks = (by_count A B n f).0 (omega (arith, d, u A B h.line, v A B h.line, (by_count A B n g).1 h.ticks)) },
  )

-- ---- stopped clocks

-- a line that has stopped clock k
stopping : (run : List Filled) (k : ℕ) (l : Line) → T (stops run k l) → (A : ℕ) × (l ≡ Kills A k) × T (any (λ (g : Filled). ticks_at g A) run)
stopping run k (Kills A B) t =
    let a = any (λ (g : Filled). ticks_at g A) run in
    (A, ap (Kills A) (eqb→eq B k (and_l (eqb B k) a t)), and_r (eqb B k) a t)
stopping run k (Sporadic A B t) h = absurd h
stopping run k (Relation A B p q) h = absurd h
stopping run k (Implies A B) h = absurd h
stopping run k (Excludes A B) h = absurd h
stopping run k (Delayed A B D d) h = absurd h
stopping run k (Weakly A B) h = absurd h
stopping run k (Strictly A B) h = absurd h
stopping run k (Counted A B D n) h = absurd h

stopped-exactly : (ls : List Line) (run : List Filled) (k : ℕ) → T (any (stops run k) ls) ↔ Stopped ls run k
stopped-exactly ls run k = (
  λ t.
      let m = any-member (stops run k) ls t in
      let w = stopping run k m.0 m.2 in
      let i = any-find (λ (g : Filled). ticks_at g w.0) run no_instant w.2 in
      (w.0, subst (λ (l : Line). Memᴰ l ls) w.1 m.1, i.0, i.1, T→≡ (ticks_at (instant run i.0) w.0) i.2),
  λ h. member-any (stops run k) h.1
      (and_i (eqb k k) (any (λ (g : Filled). ticks_at g h.0) run) (eqb_refl k) (any-has (λ (g : Filled). ticks_at g h.0) run no_instant h.2 h.3 (≡→T h.4))),
)

module _ (s : SheetValue) (f g : List Filled) where
  abbrev SameStopped : Type 0
  SameStopped = (k : ℕ) → k < s.clocks → Stopped s.lines f k ↔ Stopped s.lines g k

  abbrev stopped_by : List Filled → ℕ → Bool
  stopped_by run k = any (stops run k) s.lines

  stopped-tested : SameStopped → table s.clocks (stopped_by f) ≡ table s.clocks (stopped_by g)
  stopped-tested h = table-ext s.clocks (stopped_by f) (stopped_by g) (λ k b. bool-ext (stopped_by f k) (stopped_by g k)
      (λ t. (stopped-exactly s.lines g k).1 ((h k b).0 ((stopped-exactly s.lines f k).0 t)))
      (λ t. (stopped-exactly s.lines f k).1 ((h k b).1 ((stopped-exactly s.lines g k).0 t))))

  stopped-said : table s.clocks (stopped_by f) ≡ table s.clocks (stopped_by g) → SameStopped
  stopped-said e k b =
      let at : stopped_by f k ≡ stopped_by g k = sym (table_at s.clocks (stopped_by f) k false b) ∙ ap (λ (l : List Bool). get_or l k false) e ∙ table_at s.clocks (stopped_by g) k false b in (
        λ h. (stopped-exactly s.lines g k).0 (subst T at ((stopped-exactly s.lines f k).1 h)),
        λ h. (stopped-exactly s.lines f k).0 (subst T (sym at) ((stopped-exactly s.lines g k).1 h)),
      )

  -- ---- what is left

  same-unmet : SameSet same_obligation (unmet most_tag s.lines f) (unmet most_tag s.lines g) ↔ ((o : Obligation) → Unmet most_tag s.lines f o ↔ Unmet most_tag s.lines g o)
  same-unmet = same-members owed-equality (unmet most_tag s.lines f) (unmet most_tag s.lines g) (unmet-listed most_tag s.lines f) (unmet-listed most_tag s.lines g)

  same-counting : SameSet same_countdown (run_countdowns s.lines f) (run_countdowns s.lines g) ↔ ((c : Countdown) → Counting s.lines f c ↔ Counting s.lines g c)
  same-counting = same-members count-equality (run_countdowns s.lines f) (run_countdowns s.lines g) (countdowns-listed s.lines f) (countdowns-listed s.lines g)

  -- what leaves the same passes the test, whether it fits or not
  pub left-tested : SameLeft s f g → T (same_left s f g)
  unfolding remainder
  left-tested h = same_of (remainder s f) (remainder s g) (record {
    leads = leads-tested s.lines f g h.leads;
    stopped = stopped-tested h.stopped;
    owed = same-unmet.1 h.unmet;
    countdowns = same-counting.1 h.counting;
  })

  pub same_left-law : NeverAhead s.lines f → NeverAhead s.lines g → T (same_left s f g) ↔ SameLeft s f g
  unfolding remainder
  same_left-law u v = (
    λ t. let a = alike (remainder s f) (remainder s g) t in record {
      unmet = same-unmet.0 a.owed;
      counting = same-counting.0 a.countdowns;
      leads = leads-said s.lines f g u v a.leads;
      stopped = stopped-said a.stopped;
    },
    left-tested,
  )
