-- What `fits` asks, line by line and instant by instant: a run fits exactly when at each instant no tag falls, and each line has its part. Assumes nothing.
use mathlib.Core.Bool.{Bool, true, ◌&&◌, ◌||◌}
use mathlib.Core.List.{List, [], ◌∷◌, ◌++◌}
use mathlib.Core.Logic.{◌↔◌}
use mathlib.Core.Option.{Option, none, some}
use mathlib.Core.Path.{◌≡◌, refl, sym, ap, ◌∙◌, subst}
use Prim.Native.Nat.{ℕ, zero, suc, ◌<◌}
use native.Mathlib.Nat.{le_of_suc-le-suc, not-suc-le-zero}
use native.Mathlib.Omega.{arith}
use lib.Dec.{T}
use lib.IntN.{ℤ}
use lib.Signed.{le_z}
use lib.ListN.{length, take, drop}
use Rattle.records.specs.declared.line.Line.{Line}
use Rattle.records.specs.Sheet.{SheetValue}
use Rattle.tesl.specs.Lists.{all, any, flat_map, always}
use Rattle.tesl.specs.Run.{Filled, tag_in}
use Rattle.tesl.specs.Fits.{last_tags, none_falls, holds_at, fits_at, most_tag, Obligation, meets, owed_at_start, owed_from, unmet_by, unmet_later, unmet, not_late, fits}
use Rattle.tesl.specs.Formula.{instant, no_instant}
use Rattle.tesl.proofs.Tests.{and_l, and_r, and_i}
use Rattle.tesl.proofs.FormulaLists.{always-each, always-of, all_append, all_true, all_filter}

-- the due is at or above the last on-tag (with no instant it is)
abbrev pub on_time : Option (List ℤ) → Obligation → Bool
on_time none o = true
on_time (some now) o = le_z (tag_in now o.on) o.due

-- each obligation is met in the run or on time
abbrev pub paid : Option (List ℤ) → List Filled → List Obligation → Bool
paid last run os = all (λ (o : Obligation). any (λ (f : Filled). meets f o) run || on_time last o) os

-- what `fits` asks for one line: of its obligation from the start, at each instant, and of the obligation begun there
pub record Part (most : ℤ) (l : Line) (run : List Filled) : Type 0 where
  pub from_start : T (paid (last_tags run) run (owed_at_start l))
  pub at_each : (n : ℕ) → n < length run → T (holds_at l (take n run) (instant run n))
  pub begun-there : (n : ℕ) → n < length run → T (paid (last_tags run) (drop (suc n) run) (owed_from most (instant run n) l))

abbrev pub EachPart : ℤ → List Line → List Filled → Type 0
EachPart most [] run = Unit {0}
EachPart most (l ∷ ls) run = Part most l run × EachPart most ls run

-- at each instant no tag is below the one before
abbrev pub NoneFallsAt : ℕ → List Filled → Type 0
NoneFallsAt C run = (n : ℕ) → n < length run → T (none_falls C (last_tags (take n run)) (instant run n).tags)

-- ---- obligations

late-each : (last : Option (List ℤ)) (os : List Obligation) → not_late last os ≡ all (on_time last) os
late-each none os = sym (all_true os)
late-each (some now) os = refl

paid-unmet : (last : Option (List ℤ)) (run : List Filled) (os : List Obligation) → all (on_time last) (unmet_by run os) ≡ paid last run os
paid-unmet last run os = all_filter (on_time last) (λ (o : Obligation). any (λ (f : Filled). meets f o) run) os

module _ (last : Option (List ℤ)) (most : ℤ) (ls : List Line) where
  abbrev later : List Filled → Bool
  later run = all (on_time last) (unmet_later most ls run)

  later-cons : (f : Filled) (run : List Filled) → later (f ∷ run) ≡ (paid last run (flat_map (owed_from most f) ls) && later run)
  later-cons f run = all_append (on_time last) (unmet_by run (flat_map (owed_from most f) ls)) (unmet_later most ls run)
      ∙ ap (λ (b : Bool). b && later run) (paid-unmet last run (flat_map (owed_from most f) ls))

  later-each : (run : List Filled) → T (later run) → (n : ℕ) → n < length run → T (paid last (drop (suc n) run) (flat_map (owed_from most (instant run n)) ls))
  later-each [] t n h = absurd (not-suc-le-zero h)
  later-each (f ∷ run) t zero h = and_l (paid last run (flat_map (owed_from most f) ls)) (later run) (subst T (later-cons f run) t)
  later-each (f ∷ run) t (suc n) h =
      later-each run (and_r (paid last run (flat_map (owed_from most f) ls)) (later run) (subst T (later-cons f run) t)) n (le_of_suc-le-suc h)

  later_of : (run : List Filled) → ((n : ℕ) → n < length run → T (paid last (drop (suc n) run) (flat_map (owed_from most (instant run n)) ls))) → T (later run)
  later_of [] h = tt
  later_of (f ∷ run) h = subst T (sym (later-cons f run))
      (and_i (paid last run (flat_map (owed_from most f) ls)) (later run) (h 0 (omega arith)) (later_of run (λ n b. h (suc n) (omega arith))))

-- ---- all lines together

record Parts (most : ℤ) (ls : List Line) (run : List Filled) : Type 0 where
  pub from_start : T (paid (last_tags run) run (flat_map owed_at_start ls))
  pub at_each : (n : ℕ) → n < length run → T (all (λ (l : Line). holds_at l (take n run) (instant run n)) ls)
  pub begun-there : (n : ℕ) → n < length run → T (paid (last_tags run) (drop (suc n) run) (flat_map (owed_from most (instant run n)) ls))

unmet-paid : (most : ℤ) (ls : List Line) (run : List Filled)
    → not_late (last_tags run) (unmet most ls run) ≡ (paid (last_tags run) run (flat_map owed_at_start ls) && later (last_tags run) most ls run)
unmet-paid most ls run =
    late-each (last_tags run) (unmet most ls run)
    ∙ all_append (on_time (last_tags run)) (unmet_by run (flat_map owed_at_start ls)) (unmet_later most ls run)
    ∙ ap (λ (b : Bool). b && later (last_tags run) most ls run) (paid-unmet (last_tags run) run (flat_map owed_at_start ls))

fits-parts : (s : SheetValue) (run : List Filled) → T (fits s run) ↔ (NoneFallsAt s.clocks run × Parts most_tag s.lines run)
unfolding fits
fits-parts s run = (there, back)
  where
    start : Bool
    start = paid (last_tags run) run (flat_map owed_at_start s.lines)

    rest : Bool
    rest = later (last_tags run) most_tag s.lines run

    steady : ℕ → Bool
    steady n = none_falls s.clocks (last_tags (take n run)) (instant run n).tags

    lines : ℕ → Bool
    lines n = all (λ (l : Line). holds_at l (take n run) (instant run n)) s.lines

    there : T (fits s run) → NoneFallsAt s.clocks run × Parts most_tag s.lines run
    there t =
        let a = always-each (fits_at s) [] run no_instant (and_l (always (fits_at s) [] run) (not_late (last_tags run) (unmet most_tag s.lines run)) t) in
        let b = subst T (unmet-paid most_tag s.lines run) (and_r (always (fits_at s) [] run) (not_late (last_tags run) (unmet most_tag s.lines run)) t) in (
          λ n h. and_l (steady n) (lines n) (a n h),
          record {
            from_start = and_l start rest b;
            at_each = λ n h. and_r (steady n) (lines n) (a n h);
            begun-there = later-each (last_tags run) most_tag s.lines run (and_r start rest b);
          },
        )

    back : NoneFallsAt s.clocks run × Parts most_tag s.lines run → T (fits s run)
    back p = and_i (always (fits_at s) [] run) (not_late (last_tags run) (unmet most_tag s.lines run))
        (always-of (fits_at s) [] run no_instant (λ n h. and_i (steady n) (lines n) (p.0 n h) (p.1.at_each n h)))
        (subst T (sym (unmet-paid most_tag s.lines run)) (and_i start rest p.1.from_start (later_of (last_tags run) most_tag s.lines run p.1.begun-there)))

-- ---- line by line

paid-append : (last : Option (List ℤ)) (run : List Filled) (xs ys : List Obligation) → T (paid last run (xs ++ ys)) ↔ (T (paid last run xs) × T (paid last run ys))
paid-append last run xs ys =
    let e = all_append (λ (o : Obligation). any (λ (f : Filled). meets f o) run || on_time last o) xs ys in (
      λ t. let u = subst T e t in (and_l (paid last run xs) (paid last run ys) u, and_r (paid last run xs) (paid last run ys) u),
      λ p. subst T (sym e) (and_i (paid last run xs) (paid last run ys) p.0 p.1),
    )

parts-cons : (most : ℤ) (l : Line) (ls : List Line) (run : List Filled) → Parts most (l ∷ ls) run ↔ (Part most l run × Parts most ls run)
parts-cons most l ls run = (
  λ p. (
    record {
      from_start = (start.0 p.from_start).0;
      at_each = λ n h. and_l (holds n l) (all (holds n) ls) (p.at_each n h);
      begun-there = λ n h. ((begun n).0 (p.begun-there n h)).0;
    },
    record {
      from_start = (start.0 p.from_start).1;
      at_each = λ n h. and_r (holds n l) (all (holds n) ls) (p.at_each n h);
      begun-there = λ n h. ((begun n).0 (p.begun-there n h)).1;
    },
  ),
  λ q. record {
    from_start = start.1 (q.0.from_start, q.1.from_start);
    at_each = λ n h. and_i (holds n l) (all (holds n) ls) (q.0.at_each n h) (q.1.at_each n h);
    begun-there = λ n h. (begun n).1 (q.0.begun-there n h, q.1.begun-there n h);
  },
)
  where
    holds : ℕ → Line → Bool
    holds n m = holds_at m (take n run) (instant run n)

    start : T (paid (last_tags run) run (owed_at_start l ++ flat_map owed_at_start ls)) ↔ (T (paid (last_tags run) run (owed_at_start l)) × T (paid (last_tags run) run (flat_map owed_at_start ls)))
    start = paid-append (last_tags run) run (owed_at_start l) (flat_map owed_at_start ls)

    begun : (n : ℕ) → T (paid (last_tags run) (drop (suc n) run) (owed_from most (instant run n) l ++ flat_map (owed_from most (instant run n)) ls))
        ↔ (T (paid (last_tags run) (drop (suc n) run) (owed_from most (instant run n) l)) × T (paid (last_tags run) (drop (suc n) run) (flat_map (owed_from most (instant run n)) ls)))
    begun n = paid-append (last_tags run) (drop (suc n) run) (owed_from most (instant run n) l) (flat_map (owed_from most (instant run n)) ls)

parts-each : (most : ℤ) (ls : List Line) (run : List Filled) → Parts most ls run ↔ EachPart most ls run
parts-each most [] run = (λ p. tt, λ u. record { from_start = tt; at_each = λ n h. tt; begun-there = λ n h. tt })
parts-each most (l ∷ ls) run =
    (λ p. let q = (parts-cons most l ls run).0 p in (q.0, (parts-each most ls run).0 q.1), λ q. (parts-cons most l ls run).1 (q.0, (parts-each most ls run).1 q.1))

pub fits-by-line : (s : SheetValue) (run : List Filled) → T (fits s run) ↔ (NoneFallsAt s.clocks run × EachPart most_tag s.lines run)
fits-by-line s run = (
  λ t. let p = (fits-parts s run).0 t in (p.0, (parts-each most_tag s.lines run).0 p.1),
  λ q. (fits-parts s run).1 (q.0, (parts-each most_tag s.lines run).1 q.1),
)
