-- One law for each kind of line: its part of `fits` is TESL's formula for it. Assumes nothing.
use mathlib.Core.Bool.{Bool, true, false, not, cond, ◌&&◌, ◌||◌}
use mathlib.Core.List.{List, [], ◌∷◌, ◌++◌}
use mathlib.Core.Logic.{◌↔◌, ◌⊎◌, inl, inr}
use mathlib.Core.Path.{◌≡◌, refl, sym, ap, ◌∙◌, subst}
use Prim.Native.Nat.{ℕ, zero, suc, ◌+◌, ◌≤◌, ◌<◌}
use native.Mathlib.Nat.{le_of_lt, le_of_suc-le-suc, not-suc-le-zero}
use native.Mathlib.Omega.{arith}
use lib.Dec.{T, T_not, not_T, eqb, leb→le, le→leb, eqb→eq, eqb_refl}
use lib.IntN.{ℤ, pos, ◌+ℤ◌, ◌*ℤ◌}
use lib.Signed.{le_z}
use lib.ListN.{length, get_or, take, drop}
use lib.Seq.{take-suc, length-take-le, get_or-take}
use Rattle.records.specs.declared.line.Line.{Line}
use Rattle.records.specs.declared.line.Line.TheVariants.{Sporadic, Relation, Implies, Excludes, Delayed, Weakly, Strictly, Kills, Counted}
use Rattle.tesl.specs.Lists.{any}
use Rattle.tesl.specs.Run.{Filled, ticks_at}
use Rattle.tesl.specs.Fits.{last_tags, ticks_in, nth_tick, counted_at, Obligation}
use Rattle.tesl.specs.Formula.{instant, Ticking, tag, ticks_below, LastTagAtMost, Holds, WithinScale, no_instant}
use Rattle.tesl.proofs.Tests.{and_l, and_r, and_i, or-e, T→≡, ≡→T}
use Rattle.tesl.proofs.FormulaLists.{any-find, any-has}
use Rattle.tesl.proofs.FormulaParts.{paid, Part}
use Rattle.tesl.proofs.FormulaOwed.{eq_z→eq, eq→eq_z, exceeds, ticks-below, ticks-with, ticks-between, MetFrom, paid-one}

module _ (most : ℤ) (run : List Filled) (A B : ℕ) where
  -- K's ticks up to and with instant n
  abbrev upto : ℕ → ℕ → ℕ
  upto n K = ticks_in K (take n run ++ (instant run n ∷ []))

  sporadic-law : (t : ℤ) → Part most (Sporadic A B t) run ↔ Holds (Sporadic A B t) run
  sporadic-law t =
      let o : Obligation = record { clock = A; due = t; on = B } in
      (λ p. there ((paid-one 0 run o).0 p.from_start), λ h. record { from_start = (paid-one 0 run o).1 (back h); at_each = λ n b. tt; begun-there = λ n b. tt })
    where
      there : (MetFrom 0 run (record { clock = A; due = t; on = B }) ⊎ LastTagAtMost run B t) → Holds (Sporadic A B t) run
      there (inl w) = inl (w.0, w.2, w.3, w.4)
      there (inr h) = inr h

      back : Holds (Sporadic A B t) run → MetFrom 0 run (record { clock = A; due = t; on = B }) ⊎ LastTagAtMost run B t
      back (inl w) = inl (w.0, omega arith, w.1, w.2, w.3)
      back (inr h) = inr h

  relation-law : (p q : ℤ) → Part most (Relation A B p q) run ↔ Holds (Relation A B p q) run
  relation-law p q = (
    λ x n b. eq_z→eq (tag run A n) (p *ℤ tag run B n +ℤ q) (x.at_each n b),
    λ h. record { from_start = tt; at_each = λ n b. eq→eq_z (h n b); begun-there = λ n b. tt },
  )

  implies-law : Part most (Implies A B) run ↔ Holds (Implies A B) run
  implies-law = (
    λ x n b. there (ticks_at (instant run n) A) (ticks_at (instant run n) B) (x.at_each n b),
    λ h. record { from_start = tt; at_each = λ n b. back (ticks_at (instant run n) A) (ticks_at (instant run n) B) (h n b); begun-there = λ n b. tt },
  )
    where
      there : (a c : Bool) → T (not a || c) → a ≡ true → c ≡ true
      there a c t e = or-e (not a) c t (λ u. absurd (T_not a u (≡→T e))) (T→≡ c)

      back : (a c : Bool) → (a ≡ true → c ≡ true) → T (not a || c)
      back true c h = ≡→T (h refl)
      back false c h = tt

  excludes-law : Part most (Excludes A B) run ↔ Holds (Excludes A B) run
  excludes-law = (
    λ x n b d e. T_not (ticks_at (instant run n) A && ticks_at (instant run n) B) (x.at_each n b) (and_i (ticks_at (instant run n) A) (ticks_at (instant run n) B) (≡→T d) (≡→T e)),
    λ h. record {
      from_start = tt;
      at_each = λ n b. let f = ticks_at (instant run n) in
          not_T (f A && f B) (λ t. h n b (T→≡ (f A) (and_l (f A) (f B) t)) (T→≡ (f B) (and_r (f A) (f B) t)));
      begun-there = λ n b. tt;
    },
  )

  -- where the due exceeds the end of the scale, no tag passes it
  delayed-law : WithinScale most run → (D d : ℕ) → Part most (Delayed A B D d) run ↔ Holds (Delayed A B D d) run
  delayed-law within D d = (
    λ x n b. there n (ticks_at (instant run n) A) (le_z (due n) most) (λ t. t) (x.begun-there n b),
    λ h. record {
      from_start = tt;
      at_each = λ n b. tt;
      begun-there = λ n b. back n (ticks_at (instant run n) A) (le_z (due n) most) (h n b);
    },
  )
    where
      due : ℕ → ℤ
      due n = tag run B n +ℤ pos d

      begun : ℕ → Obligation
      begun n = record { clock = D; due = tag run B n +ℤ pos d; on = B }

      -- what is asked of the one that a tick begins, or not, with its due on the scale, or not
      asked : ℕ → Bool → Bool → Type 0
      asked n ticks on-scale = T (paid (last_tags run) (drop (suc n) run) (cond (ticks && on-scale) (begun n ∷ []) []))

      there : (n : ℕ) (ticks on-scale : Bool) → (T (le_z (due n) most) → T on-scale) → asked n ticks on-scale → ticks ≡ true → MetFrom (suc n) run (begun n) ⊎ LastTagAtMost run B (due n)
      there n true true s x e = (paid-one (suc n) run (begun n)).0 x
      there n true false s x e = inr (λ m k. exceeds (tag run B m) (due n) (within B m) s)
      there n false on-scale s x e = absurd (≡→T e)

      back : (n : ℕ) (ticks on-scale : Bool) → (ticks ≡ true → MetFrom (suc n) run (begun n) ⊎ LastTagAtMost run B (due n)) → asked n ticks on-scale
      back n true true h = (paid-one (suc n) run (begun n)).1 (h refl)
      back n true false h = tt
      back n false on-scale h = tt

  pub weakly-law : Part most (Weakly A B) run ↔ Holds (Weakly A B) run
  weakly-law = (
    λ x n b. omega (arith, leb→le (upto n B) (upto n A) (x.at_each n b), ticks-with run A n b, ticks-with run B n b),
    λ h. record {
      from_start = tt;
      at_each = λ n b. le→leb (upto n B) (upto n A) (omega (arith, h n b, ticks-with run A n b, ticks-with run B n b));
      begun-there = λ n b. tt;
    },
  )

  pub strictly-law : Part most (Strictly A B) run ↔ Holds (Strictly A B) run
  strictly-law = (
    λ x n b. omega (arith, leb→le (upto n B) (ticks_in A (take n run)) (x.at_each n b), ticks-below run A n (le_of_lt b), ticks-with run B n b),
    λ h. record {
      from_start = tt;
      at_each = λ n b. le→leb (upto n B) (ticks_in A (take n run)) (omega (arith, h n b, ticks-below run A n (le_of_lt b), ticks-with run B n b));
      begun-there = λ n b. tt;
    },
  )

  kills-law : Part most (Kills A B) run ↔ Holds (Kills A B) run
  kills-law = (
    λ x n m l b d e. T_not (ticks_at (instant run m) B && killed m) (x.at_each m b)
        (and_i (ticks_at (instant run m) B) (killed m) (≡→T e) (kill n m l b d)),
    λ h. record {
      from_start = tt;
      at_each = λ m b. not_T (ticks_at (instant run m) B && killed m)
          (λ t. let w = killer m b (and_r (ticks_at (instant run m) B) (killed m) t) in
          h w.0 m w.1 b w.2 (T→≡ (ticks_at (instant run m) B) (and_l (ticks_at (instant run m) B) (killed m) t)));
      begun-there = λ n b. tt;
    },
  )
    where
      killed : ℕ → Bool
      killed m = any (λ (g : Filled). ticks_at g A) (take m run ++ (instant run m ∷ []))

      kill : (n m : ℕ) → n ≤ m → m < length run → Ticking run A n → T (killed m)
      kill n m l b d = rw (← take-suc run m no_instant b)
          (any-has (λ (g : Filled). ticks_at g A) (take (suc m) run) no_instant n (omega (arith, length-take-le (suc m) run b))
          (rw (get_or-take (suc m) run n no_instant (omega arith)) (≡→T d)))

      killer : (m : ℕ) → m < length run → T (killed m) → (n : ℕ) × (n ≤ m) × Ticking run A n
      killer m b t =
          let w = any-find (λ (g : Filled). ticks_at g A) (take (suc m) run) no_instant (rw (take-suc run m no_instant b) t) in
          let l : w.0 < suc m = omega (arith, w.1, length-take-le (suc m) run b) in
          (w.0, omega arith, ap (λ (g : Filled). ticks_at g A) (sym (get_or-take (suc m) run w.0 no_instant l)) ∙ T→≡ (ticks_at (get_or (take (suc m) run) w.0 no_instant) A) w.2)

-- ---- counted: at each instant of each tick of A before it

counted-each : (A B D n : ℕ) (before : List Filled) (f : Filled) → T (counted_at A B D n before f)
    ↔ ((i : ℕ) → i < length before → ticks_at (get_or before i no_instant) A ≡ true → T (nth_tick B n (drop (suc i) before) f) → T (ticks_at f D))
counted-each A B D n [] f = (λ t i h. absurd (not-suc-le-zero h), λ h. tt)
counted-each A B D n (g ∷ between) f =
    let r = counted-each A B D n between f in (
      λ t. elim [
        | zero ↦ λ h e u. asked (ticks_at g A) here (ticks_at f D) (and_l first rest t) e u
        | suc i ↦ λ h e u. r.0 (and_r first rest t) i (le_of_suc-le-suc h) e u
      ],
      λ h. and_i first rest (given (ticks_at g A) here (ticks_at f D) (h 0 (omega arith))) (r.1 (λ i b. h (suc i) (omega arith))),
    )
  where
    here : Bool
    here = nth_tick B n between f

    first : Bool
    first = not (ticks_at g A && here) || ticks_at f D

    rest : Bool
    rest = counted_at A B D n between f

    asked : (a c d : Bool) → T (not (a && c) || d) → a ≡ true → T c → T d
    asked a c d t e u = or-e (not (a && c)) d t (λ v. absurd (T_not (a && c) v (and_i a c (≡→T e) u))) (λ v. v)

    given : (a c d : Bool) → (a ≡ true → T c → T d) → T (not (a && c) || d)
    given true true d h = h refl tt
    given true false d h = tt
    given false c d h = tt

counted-law : (most : ℤ) (A B D n : ℕ) (run : List Filled) → Part most (Counted A B D n) run ↔ Holds (Counted A B D n) run
counted-law most A B D n run = (there, λ h. record { from_start = tt; at_each = back h; begun-there = λ j b. tt })
  where
    -- B's ticks after i, up to and with j
    since : ℕ → ℕ → ℕ
    since i j = ticks_in B (drop (suc i) (take j run) ++ (instant run j ∷ []))

    there : Part most (Counted A B D n) run → Holds (Counted A B D n) run
    there x i j l b a t q =
        T→≡ (ticks_at (instant run j) D) ((counted-each A B D n (take j run) (instant run j)).0 (x.at_each j b) i
        (omega (arith, length-take-le j run (le_of_lt b)))
        (ap (λ (g : Filled). ticks_at g A) (get_or-take j run i no_instant l) ∙ a)
        (and_i (ticks_at (instant run j) B) (eqb (since i j) n) (≡→T t)
        (subst (λ (m : ℕ). T (eqb (since i j) m)) (let e = ticks-between run B i j l b in let k : since i j ≡ n = omega arith in k) (eqb_refl (since i j)))))

    back : Holds (Counted A B D n) run → (j : ℕ) → j < length run → T (counted_at A B D n (take j run) (instant run j))
    back h j b = (counted-each A B D n (take j run) (instant run j)).1 (λ i k a t.
        let l : i < j = omega (arith, length-take-le j run (le_of_lt b)) in
        let m : since i j ≡ n = eqb→eq (since i j) n (and_r (ticks_at (instant run j) B) (eqb (since i j) n) t) in
        ≡→T (h i j l b (sym (ap (λ (g : Filled). ticks_at g A) (get_or-take j run i no_instant l)) ∙ a)
        (T→≡ (ticks_at (instant run j) B) (and_l (ticks_at (instant run j) B) (eqb (since i j) n) t))
        (ticks-between run B i j l b ∙ ap (λ (c : ℕ). ticks_below run B (suc i) + c) m)))

-- each is the formula, where no tag exceeds the end of the scale
pub line-law : (most : ℤ) (l : Line) (run : List Filled) → WithinScale most run → Part most l run ↔ Holds l run
line-law most (Sporadic A B t) run w = sporadic-law most run A B t
line-law most (Relation A B p q) run w = relation-law most run A B p q
line-law most (Implies A B) run w = implies-law most run A B
line-law most (Excludes A B) run w = excludes-law most run A B
line-law most (Delayed A B D d) run w = delayed-law most run A B w D d
line-law most (Weakly A B) run w = weakly-law most run A B
line-law most (Strictly A B) run w = strictly-law most run A B
line-law most (Kills A B) run w = kills-law most run A B
line-law most (Counted A B D n) run w = counted-law most A B D n run
