-- What a filling makes of the leads and stopped clocks, by what depends on it alone, is what the lines ask and make of them. Assumes nothing.
use mathlib.Core.Bool.{Bool, true, false, cond, ◌&&◌, ◌||◌, true≢false, or-true, or-false}
use mathlib.Core.List.{List, [], ◌∷◌}
use mathlib.Core.Path.{◌≡◌, refl, sym, ap, ap₂, ◌∙◌}
use Prim.Native.Nat.{ℕ, zero, suc, ◌+◌, ◌-◌, ◌<◌, ◌≤◌}
use native.Mathlib.Nat.{add-zero}
use native.Mathlib.Omega.{arith}
use lib.Dec.{T, leb, ltb, leb-zero, ltb→lt}
use lib.ListN.{length, get_or, take, set, replicate, length-replicate, get_or-eq_default}
use borrow.Author.Tests.{le-leb, le-ltb, ltb-true}
use Rattle.records.specs.declared.line.Line.{Line}
use Rattle.records.specs.declared.line.Line.TheVariants.{Sporadic, Relation, Implies, Excludes, Delayed, Weakly, Strictly, Kills, Counted}
use Rattle.records.specs.Line.{blank_line}
use Rattle.records.specs.Sheet.{SheetValue}
use Rattle.records.proofs.Lists.{both}
use Rattle.tesl.specs.Lists.{all, filter, below, table}
use Rattle.tesl.specs.Remainder.{Remainder}
use Rattle.tesl.proofs.Tests.{and_l, and_r}
use Rattle.theory.specs.Step.{bit, states_ok, next_states, lines_ok, next_leads}
use Rattle.theory.proofs.Lists.{table-ext}
use Rattle.work.specs.View.{in_use, used_part}
use Rattle.work.specs.Questions.{tick_in, carried_holds, lead_after, stopped_after}
use Rattle.work.specs.Lines.{all_stopped, small_leads}
use Rattle.work.specs.Parts.{is_rule, is_precedes, Leading}
use Rattle.work.specs.Carried.{either, need_of, gain_of, loss_of}
use Rattle.work.proofs.Below.{below-front, below-either}
use Rattle.work.proofs.Lines.{all-as-many}

-- ---- places

-- each line and its state
module _ {X : Type 0} (default : X) where
  ok-places : (ok : Line → X → Bool) (ls : List Line) (states : List X)
      → states_ok default ok ls states ≡ below (length ls) (λ k. ok (get_or ls k blank_line) (get_or states k default))
  ok-places ok [] states = refl
  ok-places ok (l ∷ ls) [] =
      ap (λ (b : Bool). ok l default && b) (ok-places ok ls []) ∙ sym (below-front (λ k. ok (get_or (l ∷ ls) k blank_line) (get_or [] k default)) (length ls))
  ok-places ok (l ∷ ls) (x ∷ states) =
      ap (λ (b : Bool). ok l x && b) (ok-places ok ls states) ∙ sym (below-front (λ k. ok (get_or (l ∷ ls) k blank_line) (get_or (x ∷ states) k default)) (length ls))

  pub next-places : (after : Line → X → X) (ls : List Line) (states : List X)
      → next_states default after ls states ≡ table (length ls) (λ k. after (get_or ls k blank_line) (get_or states k default))
  next-places after [] states = refl
  next-places after (l ∷ ls) [] = ap (λ (xs : List X). after l default ∷ xs) (next-places after ls [])
  next-places after (l ∷ ls) (x ∷ states) = ap (λ (xs : List X). after l x ∷ xs) (next-places after ls states)

  next-next : (f g : Line → X → X) (ls : List Line) (states : List X)
      → next_states default g ls (next_states default f ls states) ≡ next_states default (λ l x. g l (f l x)) ls states
  next-next f g [] states = refl
  next-next f g (l ∷ ls) [] = ap (λ (xs : List X). g l (f l default) ∷ xs) (next-next f g ls [])
  next-next f g (l ∷ ls) (x ∷ states) = ap (λ (xs : List X). g l (f l x) ∷ xs) (next-next f g ls states)

-- ---- clocks in two lists

either-set : (xs ys : List Bool) (k : ℕ) → length xs ≤ length ys → either xs (set ys k true) ≡ set (either xs ys) k true
either-set [] ys k h = refl
either-set (x ∷ xs) [] k h = absurd (omega arith)
either-set (x ∷ xs) (y ∷ ys) zero h = ap (λ (b : Bool). b ∷ either xs ys) (or-true x)
either-set (x ∷ xs) (y ∷ ys) (suc k) h = ap (λ (bs : List Bool). (x || y) ∷ bs) (either-set xs ys k (omega arith))

either-none : (xs : List Bool) (n : ℕ) → either xs (replicate n false) ≡ xs
either-none [] n = refl
either-none (x ∷ xs) zero = refl
either-none (x ∷ xs) (suc n) = ap₂ (λ (b : Bool) (bs : List Bool). b ∷ bs) (or-false x) (either-none xs n)

-- ---- what a line asks

-- the tick of B by what A's tick leaves of it
weakly : (a b : Bool) (lead : ℕ) → leb (bit b) (lead + bit a) ≡ leb (bit b - bit a) lead
weakly true true lead = le-leb 1 (lead + 1) (omega arith) ∙ sym (leb-zero lead)
weakly true false lead = leb-zero (lead + 1) ∙ sym (leb-zero lead)
weakly false true lead = rw add-zero
weakly false false lead = rw add-zero

-- the lead is at least what the line needs
abbrev asks : List Bool → Line → ℕ → Bool
asks ticks l lead = leb (need_of ticks l) lead

line-holds : (ticks : List Bool) (l : Line) (lead : ℕ) → carried_holds ticks l (in_use l lead) ≡ asks ticks l lead
line-holds ticks (Weakly A B) lead = weakly (tick_in ticks A) (tick_in ticks B) lead
line-holds ticks (Strictly A B) lead = refl
line-holds ticks (Sporadic A B t) lead = sym (leb-zero lead)
line-holds ticks (Relation A B p q) lead = sym (leb-zero lead)
line-holds ticks (Implies A B) lead = sym (leb-zero lead)
line-holds ticks (Excludes A B) lead = sym (leb-zero lead)
line-holds ticks (Delayed A B D d) lead = sym (leb-zero lead)
line-holds ticks (Counted A B D n) lead = sym (leb-zero lead)
line-holds ticks (Kills A B) lead = sym (leb-zero lead)

lines-hold : (ticks : List Bool) (ls : List Line) (leads : List ℕ) → lines_ok (carried_holds ticks) ls (next_leads in_use ls leads) ≡ lines_ok (asks ticks) ls leads
lines-hold ticks [] leads = refl
lines-hold ticks (l ∷ ls) [] = ap₂ ◌&&◌ (line-holds ticks l 0) (lines-hold ticks ls [])
lines-hold ticks (l ∷ ls) (n ∷ leads) = ap₂ ◌&&◌ (line-holds ticks l n) (lines-hold ticks ls leads)

-- ---- what a line makes of the stopped clocks

module _ (ticks : List Bool) where
  -- a line that is no rule stops no clock
  rule-stops : (l : Line) (rules : List Line) (stopped : List Bool) → all_stopped ticks (cond (is_rule l) (l ∷ rules) rules) stopped ≡ all_stopped ticks rules (stopped_after ticks l stopped)
  rule-stops (Sporadic A B t) rules stopped = refl
  rule-stops (Relation A B p q) rules stopped = refl
  rule-stops (Implies A B) rules stopped = refl
  rule-stops (Excludes A B) rules stopped = refl
  rule-stops (Delayed A B D d) rules stopped = refl
  rule-stops (Counted A B D n) rules stopped = refl
  rule-stops (Weakly A B) rules stopped = refl
  rule-stops (Strictly A B) rules stopped = refl
  rule-stops (Kills A B) rules stopped = refl

  stops-either : (l : Line) (xs ys : List Bool) → length xs ≤ length ys → either xs (stopped_after ticks l ys) ≡ stopped_after ticks l (either xs ys)
  stops-either (Kills A B) xs ys h = by-test (tick_in ticks A)
    where
      by-test : (t : Bool) → either xs (cond t (set ys B true) ys) ≡ cond t (set (either xs ys) B true) (either xs ys)
      by-test true = either-set xs ys B h
      by-test false = refl
  stops-either (Sporadic A B t) xs ys h = refl
  stops-either (Relation A B p q) xs ys h = refl
  stops-either (Implies A B) xs ys h = refl
  stops-either (Excludes A B) xs ys h = refl
  stops-either (Delayed A B D d) xs ys h = refl
  stops-either (Counted A B D n) xs ys h = refl
  stops-either (Weakly A B) xs ys h = refl
  stops-either (Strictly A B) xs ys h = refl

  all-stop-either : (ls : List Line) (xs ys : List Bool) → length xs ≤ length ys → either xs (all_stopped ticks (filter is_rule ls) ys) ≡ all_stopped ticks ls (either xs ys)
  all-stop-either [] xs ys h = refl
  all-stop-either (l ∷ ls) xs ys h =
      ap (either xs) (rule-stops l (filter is_rule ls) ys)
      ∙ all-stop-either ls xs (stopped_after ticks l ys) (omega (arith, all-as-many ticks (l ∷ []) ys))
      ∙ ap (all_stopped ticks ls) (stops-either l xs ys h)

-- ---- the sheet's clocks that are stopped after an instant

take-set : (c : ℕ) (xs : List Bool) (i : ℕ) (x : Bool) → take c (set xs i x) ≡ set (take c xs) i x
take-set zero xs i x = refl
take-set (suc c) [] i x = refl
take-set (suc c) (y ∷ xs) zero x = refl
take-set (suc c) (y ∷ xs) (suc i) x = ap (λ (zs : List Bool). y ∷ zs) (take-set c xs i x)

take-stopped : (c : ℕ) (ticks : List Bool) (l : Line) (stopped : List Bool) → take c (stopped_after ticks l stopped) ≡ stopped_after ticks l (take c stopped)
take-stopped c ticks (Kills A B) stopped = by-test (tick_in ticks A)
  where
    by-test : (t : Bool) → take c (cond t (set stopped B true) stopped) ≡ cond t (set (take c stopped) B true) (take c stopped)
    by-test true = take-set c stopped B true
    by-test false = refl
take-stopped c ticks (Sporadic A B t) stopped = refl
take-stopped c ticks (Relation A B p q) stopped = refl
take-stopped c ticks (Implies A B) stopped = refl
take-stopped c ticks (Excludes A B) stopped = refl
take-stopped c ticks (Delayed A B D d) stopped = refl
take-stopped c ticks (Counted A B D n) stopped = refl
take-stopped c ticks (Weakly A B) stopped = refl
take-stopped c ticks (Strictly A B) stopped = refl

take-all-stopped : (c : ℕ) (ticks : List Bool) (ls : List Line) (stopped : List Bool) → take c (all_stopped ticks ls stopped) ≡ all_stopped ticks ls (take c stopped)
take-all-stopped c ticks [] stopped = refl
take-all-stopped c ticks (l ∷ ls) stopped = take-all-stopped c ticks ls (stopped_after ticks l stopped) ∙ ap (all_stopped ticks ls) (take-stopped c ticks l stopped)

-- ---- what a line makes of its lead

module _ (ticks : List Bool) where
  -- a line that doesn't precede needs no lead
  no-need : (l : Line) → is_precedes l ≡ false → need_of ticks l ≡ 0
  no-need (Weakly A B) e = absurd (true≢false e)
  no-need (Strictly A B) e = absurd (true≢false e)
  no-need (Sporadic A B t) e = refl
  no-need (Relation A B p q) e = refl
  no-need (Implies A B) e = refl
  no-need (Excludes A B) e = refl
  no-need (Delayed A B D d) e = refl
  no-need (Counted A B D n) e = refl
  no-need (Kills A B) e = refl

  lead-moves : (l : Line) (old new : ℕ) → (is_precedes l ≡ true → new ≡ old + gain_of ticks l - loss_of ticks l) → in_use l new ≡ lead_after ticks l (in_use l old)
  lead-moves (Weakly A B) old new h = h refl
  lead-moves (Strictly A B) old new h = h refl
  lead-moves (Sporadic A B t) old new h = refl
  lead-moves (Relation A B p q) old new h = refl
  lead-moves (Implies A B) old new h = refl
  lead-moves (Excludes A B) old new h = refl
  lead-moves (Delayed A B D d) old new h = refl
  lead-moves (Counted A B D n) old new h = refl
  lead-moves (Kills A B) old new h = refl

-- a precedes line's lead is in use
in_use-law : (l : Line) (n : ℕ) → is_precedes l ≡ true → in_use l n ≡ n
in_use-law (Weakly A B) n e = refl
in_use-law (Strictly A B) n e = refl
in_use-law (Sporadic A B t) n e = absurd (true≢false (sym e))
in_use-law (Relation A B p q) n e = absurd (true≢false (sym e))
in_use-law (Implies A B) n e = absurd (true≢false (sym e))
in_use-law (Excludes A B) n e = absurd (true≢false (sym e))
in_use-law (Delayed A B D d) n e = absurd (true≢false (sym e))
in_use-law (Counted A B D k) n e = absurd (true≢false (sym e))
in_use-law (Kills A B) n e = absurd (true≢false (sym e))

pub used-by : (l : Line) (n : ℕ) → in_use l n ≡ cond (is_precedes l) n 0
used-by (Weakly A B) n = refl
used-by (Strictly A B) n = refl
used-by (Sporadic A B t) n = refl
used-by (Relation A B p q) n = refl
used-by (Implies A B) n = refl
used-by (Excludes A B) n = refl
used-by (Delayed A B D d) n = refl
used-by (Counted A B D k) n = refl
used-by (Kills A B) n = refl

abbrev small : ℕ → Bool
small n = ltb n 65535

used-small : (ls : List Line) (leads : List ℕ) → T (all small (next_leads in_use ls leads)) → (k : ℕ) → in_use (get_or ls k blank_line) (get_or leads k 0) < 65535
used-small [] leads t k = omega arith
used-small (l ∷ ls) [] t zero = ltb→lt (in_use l 0) 65535 (and_l (small (in_use l 0)) _ t)
used-small (l ∷ ls) [] t (suc k) = used-small ls [] (and_r (small (in_use l 0)) _ t) k
used-small (l ∷ ls) (n ∷ leads) t zero = ltb→lt (in_use l n) 65535 (and_l (small (in_use l n)) _ t)
used-small (l ∷ ls) (n ∷ leads) t (suc k) = used-small ls leads (and_r (small (in_use l n)) _ t) k

-- ---- a sheet's lines and a row's leads and stopped clocks

-- line k of a sheet, and whether a row has the lead that it needs
abbrev pub sheet_line : SheetValue → ℕ → Line
sheet_line v k = get_or v.lines k blank_line

abbrev needed : SheetValue → List Bool → List ℕ → ℕ → Bool
needed v ticks leads k = asks ticks (sheet_line v k) (get_or leads k 0)

module _ (v : SheetValue) (ticks : List Bool) where
  -- the stopped clocks of a row and those that the rules stop are those after the instant
  pub carried-stopped : (stopped : List Bool) → length stopped ≡ 8
      → take v.clocks (either stopped (all_stopped ticks (filter is_rule v.lines) (replicate 8 false))) ≡ all_stopped ticks v.lines (take v.clocks stopped)
  carried-stopped stopped e =
      ap (take v.clocks) (all-stop-either ticks v.lines stopped (replicate 8 false) (omega (arith, length-replicate 8 false)) ∙ ap (all_stopped ticks v.lines) (either-none stopped 8))
      ∙ take-all-stopped v.clocks ticks v.lines stopped

  -- a lead in use is small
  pub small-lead : (raw : Remainder) → T (small_leads (used_part v raw)) → (k : ℕ) → is_precedes (sheet_line v k) ≡ true → get_or raw.leads k 0 < 65536
  small-lead raw t k e = let h = in_use-law (sheet_line v k) (get_or raw.leads k 0) e in omega (arith, h, used-small v.lines raw.leads t k)

  module _ (leaders : ℕ) (precede : List Bool) (leading : Leading v leaders precede) (leads : List ℕ) where
    -- the lines hold if each lead is at least what its line needs
    pub carried-holds : lines_ok (carried_holds ticks) v.lines (next_leads in_use v.lines leads) ≡ below leaders (λ k. leb (need_of ticks (sheet_line v k)) (get_or leads k 0))
    carried-holds =
        lines-hold ticks v.lines leads
        ∙ ok-places 0 (asks ticks) v.lines leads
        ∙ below-either (needed v ticks leads) (length v.lines) leaders past-lines past-leaders
      where
        past-lines : (k : ℕ) → length v.lines ≤ k → needed v ticks leads k ≡ true
        past-lines k h = rw (get_or-eq_default v.lines blank_line {n = k} h) (leb-zero (get_or leads k 0))

        past-leaders : (k : ℕ) → leaders ≤ k → needed v ticks leads k ≡ true
        past-leaders k h = rw (no-need ticks (sheet_line v k) (leading.1 k ∙ rw (le-ltb k leaders h))) (leb-zero (get_or leads k 0))

    -- leads with their gains and without their losses are those after the instant
    pub carried-leads : (r : List ℕ)
        → ((k : ℕ) → k < leaders → is_precedes (sheet_line v k) ≡ true → get_or r k 0 ≡ get_or leads k 0 + gain_of ticks (sheet_line v k) - loss_of ticks (sheet_line v k))
        → next_leads in_use v.lines r ≡ next_leads (lead_after ticks) v.lines (next_leads in_use v.lines leads)
    carried-leads r h =
        next-places 0 in_use v.lines r
        ∙ table-ext (length v.lines) (λ k. in_use (sheet_line v k) (get_or r k 0)) (λ k. lead_after ticks (sheet_line v k) (in_use (sheet_line v k) (get_or leads k 0)))
        (λ k b. lead-moves ticks (sheet_line v k) (get_or leads k 0) (get_or r k 0) (λ e. h k (ltb-true k leaders (both (ltb k leaders) (sym (leading.1 k) ∙ e)).0) e))
        ∙ sym (next-next 0 in_use (lead_after ticks) v.lines leads ∙ next-places 0 (λ l n. lead_after ticks l (in_use l n)) v.lines leads)
