-- What all lines make of what is carried is theory's. Assumes nothing.
use mathlib.Core.Bool.{Bool, true, false, cond, ◌||◌, or-false}
use mathlib.Core.List.{List, [], ◌∷◌}
use mathlib.Core.Path.{◌≡◌, refl, sym, ◌∙◌}
use Prim.Native.Nat.{ℕ, ◌<◌}
use lib.IntN.{ℤ}
use lib.ListN.{length, get_or, set, length-set}
use Rattle.records.specs.declared.line.Line.{Line}
use Rattle.records.specs.declared.line.Line.TheVariants.{Sporadic, Relation, Implies, Excludes, Delayed, Weakly, Strictly, Kills, Counted}
use Rattle.tesl.specs.Lists.{any}
use Rattle.tesl.specs.Remainder.{stops}
use Rattle.theory.specs.Step.{next_lead, next_leads}
use Rattle.work.specs.View.{filled_of}
use Rattle.work.specs.Questions.{tick_in, lead_after, stopped_after}
use Rattle.work.specs.Lines.{all_stopped}
use Rattle.work.proofs.Questions.{lead_after-law, stopped-after}

pub leads-after : (ticks : List Bool) (tags : List ℤ) (ls : List Line) (leads : List ℕ) → next_leads (next_lead (filled_of ticks tags)) ls leads ≡ next_leads (lead_after ticks) ls leads
leads-after ticks tags [] leads = refl
leads-after ticks tags (l ∷ ls) [] = rw (lead_after-law ticks tags l 0, leads-after ticks tags ls [])
leads-after ticks tags (l ∷ ls) (n ∷ leads) = rw (lead_after-law ticks tags l n, leads-after ticks tags ls leads)

-- the stopped clocks stay as many
as_many : (ticks : List Bool) (l : Line) (stopped : List Bool) → length (stopped_after ticks l stopped) ≡ length stopped
as_many ticks (Kills A B) stopped = by-test (tick_in ticks A)
  where
    by-test : (t : Bool) → length (cond t (set stopped B true) stopped) ≡ length stopped
    by-test true = length-set stopped B true
    by-test false = refl
as_many ticks (Sporadic A B t) stopped = refl
as_many ticks (Relation A B p q) stopped = refl
as_many ticks (Implies A B) stopped = refl
as_many ticks (Excludes A B) stopped = refl
as_many ticks (Delayed A B D d) stopped = refl
as_many ticks (Counted A B D n) stopped = refl
as_many ticks (Weakly A B) stopped = refl
as_many ticks (Strictly A B) stopped = refl

pub all-as-many : (ticks : List Bool) (ls : List Line) (stopped : List Bool) → length (all_stopped ticks ls stopped) ≡ length stopped
all-as-many ticks [] stopped = refl
all-as-many ticks (l ∷ ls) stopped = all-as-many ticks ls (stopped_after ticks l stopped) ∙ as_many ticks l stopped

or_assoc : (a b c : Bool) → ((a || b) || c) ≡ (a || (b || c))
or_assoc true b c = refl
or_assoc false b c = refl

-- clock k is stopped after the instant: before it, or by a line at it
pub all-stopped : (ticks : List Bool) (tags : List ℤ) (ls : List Line) (stopped : List Bool) (k : ℕ) → k < length stopped → get_or (all_stopped ticks ls stopped) k false ≡ (get_or stopped k false || any (stops (filled_of ticks tags ∷ []) k) ls)
all-stopped ticks tags [] stopped k h = sym (or-false _)
all-stopped ticks tags (l ∷ ls) stopped k h =
    all-stopped ticks tags ls (stopped_after ticks l stopped) k (rw (as_many ticks l stopped) h)
    ∙ rw (stopped-after ticks tags l stopped k h)
    (or_assoc (get_or stopped k false) (stops (filled_of ticks tags ∷ []) k l) (any (stops (filled_of ticks tags ∷ []) k) ls))
