-- Where a rule whose clocks are below k forbids the ticks, the rules allow no filling of the clocks from k on. Assumes nothing.
use mathlib.Core.Bool.{Bool, true, false, ◌&&◌, ◌||◌, and-false, false≢true}
use mathlib.Core.List.{List, [], ◌∷◌}
use mathlib.Core.Path.{◌≡◌, refl, sym, ◌∙◌}
use Prim.Native.Nat.{ℕ, ◌+◌, ◌<◌, ◌≤◌}
use native.Mathlib.Omega.{arith}
use lib.Dec.{ltb}
use lib.ListN.{set}
use lib.Seq.{get_or-set_other}
use borrow.Author.Tests.{ltb-true, not-true}
use Rattle.records.specs.declared.instant.Tick.{Tick}
use Rattle.records.specs.declared.instant.Tick.TheVariants.{Idle, Ticks, Unseen}
use Rattle.records.specs.declared.line.Line.{Line}
use Rattle.records.specs.declared.line.Line.TheVariants.{Sporadic, Relation, Implies, Excludes, Delayed, Weakly, Strictly, Kills, Counted}
use Rattle.records.proofs.Lists.{both}
use Rattle.tesl.specs.Lists.{any, filter}
use Rattle.theory.proofs.Lists.{filter-append}
use Rattle.work.specs.Questions.{tick_in, ticks_hold}
use Rattle.work.specs.Rules.{allowed, forbids}
use Rattle.work.specs.Fillings.{fillings_from}

module _ (k : ℕ) (ticks : List Bool) where
  -- the same ticks of the clocks below k
  abbrev Agree : List Bool → Type 0
  Agree more = (a : ℕ) → a < k → tick_in more a ≡ tick_in ticks a

  agree-set : (more : List Bool) (i : ℕ) → k ≤ i → Agree more → Agree (set more i true)
  agree-set more i h g a l = get_or-set_other more i a true false (λ e. omega arith) ∙ g a l

  module _ (more : List Bool) (g : Agree more) where
    -- a rule asks only of its two clocks
    both-same : (A B : ℕ) → (ltb A k && ltb B k) ≡ true → (tick_in more A ≡ tick_in ticks A) × (tick_in more B ≡ tick_in ticks B)
    both-same A B h = let b = both (ltb A k) h in (g A (ltb-true _ _ b.0), g B (ltb-true _ _ b.1))

    forbidden-same : (l : Line) → forbids k ticks l ≡ true → ticks_hold more l ≡ false
    forbidden-same (Implies A B) h =
        let s = both (ltb A k && ltb B k) h in
        let b = both-same A B s.0 in
        rw (b.0, b.1) (not-true (ticks_hold ticks (Implies A B)) s.1)
    forbidden-same (Excludes A B) h =
        let s = both (ltb A k && ltb B k) h in
        let b = both-same A B s.0 in
        rw (b.0, b.1) (not-true (ticks_hold ticks (Excludes A B)) s.1)
    forbidden-same (Kills A B) h =
        let s = both (ltb A k && ltb B k) h in
        let b = both-same A B s.0 in
        rw (b.0, b.1) (not-true (ticks_hold ticks (Kills A B)) s.1)
    forbidden-same (Sporadic A B t) h = absurd (false≢true h)
    forbidden-same (Relation A B p q) h = absurd (false≢true h)
    forbidden-same (Delayed A B D d) h = absurd (false≢true h)
    forbidden-same (Counted A B D n) h = absurd (false≢true h)
    forbidden-same (Weakly A B) h = absurd (false≢true h)
    forbidden-same (Strictly A B) h = absurd (false≢true h)

    allows-none : (ls : List Line) → any (forbids k ticks) ls ≡ true → allowed ls more ≡ false
    allows-none [] h = absurd (false≢true h)
    allows-none (l ∷ ls) h = by_first (forbids k ticks l) refl (allows-none ls) h
      where
        by_first : (b : Bool) → forbids k ticks l ≡ b → (any (forbids k ticks) ls ≡ true → allowed ls more ≡ false) → (b || any (forbids k ticks) ls) ≡ true → (ticks_hold more l && allowed ls more) ≡ false
        by_first true e ih h = rw (forbidden-same l e)
        by_first false e ih h = rw (ih h) (and-false (ticks_hold more l))

  module _ (ls : List Line) (h : any (forbids k ticks) ls ≡ true) where
    none_left : (left : List Tick) (i : ℕ) → k ≤ i → (more : List Bool) → Agree more → filter (allowed ls) (fillings_from i left more) ≡ []
    none_left [] i l more g = rw (allows-none more g ls h)
    none_left (Idle ∷ left) i l more g = none_left left (i + 1) (omega arith) more g
    none_left (Ticks ∷ left) i l more g = none_left left (i + 1) (omega arith) (set more i true) (agree-set more i l g)
    none_left (Unseen ∷ left) i l more g =
        let idle = none_left left (i + 1) (omega arith) more g in
        let tick = none_left left (i + 1) (omega arith) (set more i true) (agree-set more i l g) in
        filter-append (allowed ls) (fillings_from (i + 1) left more) (fillings_from (i + 1) left (set more i true)) ∙ rw (idle, tick)

  pub forbidden-none : (ls : List Line) {forbidden : Bool} → forbidden ≡ any (forbids k ticks) ls → forbidden ≡ true → (left : List Tick) → filter (allowed ls) (fillings_from k left ticks) ≡ []
  forbidden-none ls e h left = none_left ls (sym e ∙ h) left k (omega arith) ticks (λ a l. refl)
