-- The three questions together are what theory asks of a line, and what a line makes of what is carried is theory's. Assumes nothing.
use mathlib.Core.Bool.{Bool, true, false, cond, ◌&&◌, ◌||◌, and-true, and-false, or-true, or-false}
use mathlib.Core.List.{List, [], ◌∷◌}
use mathlib.Core.Path.{◌≡◌, refl, sym, ap, ◌∙◌}
use Prim.Native.Nat.{ℕ, ◌<◌}
use lib.Dec.{eqb}
use lib.IntN.{ℤ}
use lib.ListN.{length, get_or, set}
use lib.Seq.{get_or-set_same, get_or-set_other}
use borrow.Author.Tests.{eqb-true, eqb-false}
use Rattle.records.specs.declared.line.Line.{Line}
use Rattle.records.specs.declared.line.Line.TheVariants.{Sporadic, Relation, Implies, Excludes, Delayed, Weakly, Strictly, Kills, Counted}
use Rattle.tesl.specs.Lists.{all}
use Rattle.tesl.specs.Remainder.{stops}
use Rattle.theory.specs.Step.{line_ok, lines_ok, next_lead}
use Rattle.work.specs.View.{filled_of}
use Rattle.work.specs.Questions.{tick_in, tags_hold, ticks_hold, carried_holds, lead_after, stopped_after}

module _ (ticks : List Bool) (tags : List ℤ) where
  pub line_ok-law : (l : Line) (lead : ℕ) → line_ok (filled_of ticks tags) l lead ≡ (tags_hold tags l && (ticks_hold ticks l && carried_holds ticks l lead))
  line_ok-law (Relation A B p q) lead = sym (and-true _)
  line_ok-law (Implies A B) lead = sym (and-true _)
  line_ok-law (Excludes A B) lead = sym (and-true _)
  line_ok-law (Kills A B) lead = sym (and-true _)
  line_ok-law (Weakly A B) lead = refl
  line_ok-law (Strictly A B) lead = refl
  line_ok-law (Sporadic A B t) lead = refl
  line_ok-law (Delayed A B D d) lead = refl
  line_ok-law (Counted A B D n) lead = refl

-- a test of a list's head and of its rest, in three parts
regroup : (a b c x y z : Bool) → ((a && (b && c)) && (x && (y && z))) ≡ ((a && x) && ((b && y) && (c && z)))
regroup false b c x y z = refl
regroup true false c false y z = refl
regroup true false c true y z = refl
regroup true true false false y z = refl
regroup true true false true false z = refl
regroup true true false true true z = refl
regroup true true true x y z = refl

module _ (ticks : List Bool) (tags : List ℤ) where
  one_more : (l : Line) (n : ℕ) (x y z : Bool) {t : Bool} → t ≡ (x && (y && z)) → (line_ok (filled_of ticks tags) l n && t) ≡ ((tags_hold tags l && x) && ((ticks_hold ticks l && y) && (carried_holds ticks l n && z)))
  one_more l n x y z e = rw (line_ok-law ticks tags l n, e) (regroup (tags_hold tags l) (ticks_hold ticks l) (carried_holds ticks l n) x y z)

  pub lines_ok-law : (ls : List Line) (leads : List ℕ) → lines_ok (line_ok (filled_of ticks tags)) ls leads ≡ (all (tags_hold tags) ls && (all (ticks_hold ticks) ls && lines_ok (carried_holds ticks) ls leads))
  lines_ok-law [] leads = refl
  lines_ok-law (l ∷ ls) [] = one_more l 0 (all (tags_hold tags) ls) (all (ticks_hold ticks) ls) (lines_ok (carried_holds ticks) ls []) (lines_ok-law ls [])
  lines_ok-law (l ∷ ls) (n ∷ leads) = one_more l n (all (tags_hold tags) ls) (all (ticks_hold ticks) ls) (lines_ok (carried_holds ticks) ls leads) (lines_ok-law ls leads)

pub lead_after-law : (ticks : List Bool) (tags : List ℤ) (l : Line) (lead : ℕ) → next_lead (filled_of ticks tags) l lead ≡ lead_after ticks l lead
lead_after-law ticks tags l lead = refl

-- ---- clock k is stopped after the instant: before it, or by the line at it

set_at : (stopped : List Bool) (B k : ℕ) (t : Bool) → k < length stopped → eqb B k ≡ t → get_or (set stopped B true) k false ≡ (get_or stopped k false || t)
set_at stopped B k true h e = rw (eqb-true B k e, get_or-set_same stopped k true false h) (sym (or-true (get_or stopped k false)))
set_at stopped B k false h e = get_or-set_other stopped B k true false (λ q. eqb-false B k e (sym q)) ∙ sym (or-false (get_or stopped k false))

killed : (stopped : List Bool) (B k : ℕ) (a : Bool) → k < length stopped → get_or (cond a (set stopped B true) stopped) k false ≡ (get_or stopped k false || (eqb B k && (a || false)))
killed stopped B k true h = set_at stopped B k (eqb B k) h refl ∙ ap (λ (t : Bool). get_or stopped k false || t) (sym (and-true _))
killed stopped B k false h = sym (ap (λ (t : Bool). get_or stopped k false || t) (and-false (eqb B k)) ∙ or-false _)

pub stopped-after : (ticks : List Bool) (tags : List ℤ) (l : Line) (stopped : List Bool) (k : ℕ) → k < length stopped → get_or (stopped_after ticks l stopped) k false ≡ (get_or stopped k false || stops (filled_of ticks tags ∷ []) k l)
stopped-after ticks tags (Kills A B) stopped k h = killed stopped B k (tick_in ticks A) h
stopped-after ticks tags (Sporadic A B t) stopped k h = sym (or-false _)
stopped-after ticks tags (Relation A B p q) stopped k h = sym (or-false _)
stopped-after ticks tags (Implies A B) stopped k h = sym (or-false _)
stopped-after ticks tags (Excludes A B) stopped k h = sym (or-false _)
stopped-after ticks tags (Delayed A B D d) stopped k h = sym (or-false _)
stopped-after ticks tags (Counted A B D n) stopped k h = sym (or-false _)
stopped-after ticks tags (Weakly A B) stopped k h = sym (or-false _)
stopped-after ticks tags (Strictly A B) stopped k h = sym (or-false _)
