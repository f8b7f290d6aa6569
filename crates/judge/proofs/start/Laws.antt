-- The remainder of no instant in a row that was blank: no line leads, no clock is stopped, and it owes what was added. Assumes nothing.
use mathlib.Core.Bool.{Bool, true, false, and-false}
use mathlib.Core.List.{List, [], ◌∷◌, map}
use mathlib.Core.Option.{some}
use mathlib.Core.Path.{◌≡◌, refl, sym, ap, ◌∙◌}
use Prim.Native.Nat.{ℕ, zero, suc, ◌+◌, ◌*◌, ◌≤◌, ◌<◌}
use native.Mathlib.Omega.{arith}
use lib.Dec.{eqb}
use lib.ListN.{take, replicate, length-replicate}
use Rattle.records.specs.declared.line.Line.{Line}
use Rattle.records.specs.declared.line.Line.TheVariants.{Sporadic, Relation, Implies, Excludes, Delayed, Weakly, Strictly, Kills, Counted}
use Rattle.records.specs.Lists.{listed_from}
use Rattle.records.specs.Sheet.{SheetValue}
use Rattle.tesl.specs.Lists.{any, flat_map, table}
use Rattle.tesl.specs.Fits.{Obligation, owed_at_start}
use Rattle.tesl.specs.Remainder.{lead_of, stops, remainder}
use Rattle.theory.specs.Step.{next_leads}
use Rattle.theory.proofs.Lists.{table-ext}
use Rattle.work.specs.View.{in_use, used_part}
use Rattle.work.specs.Owed.{owing, added_all}
use Rattle.remainders.specs.Word.{flag_of}
use Rattle.remainders.specs.Rows.{parts, part_words, leads_part, stopped_part, head_rows, row_count, row_owed, row_countdowns, row_lead, row_leads, row_stop, row_stopped, row_of, provided, Row}
use Rattle.judge.specs.Start.{BlankRow, StartedRow, BegunRows}
use Rattle.remainders.proofs.rows.Placing.{blank-at, listed-is}
use Rattle.step.proofs.advance.Row.{same-remainder}

-- ---- nothing leads and nothing is stopped

no_lead : (l : Line) → in_use l 0 ≡ lead_of [] l
no_lead (Weakly A B) = refl
no_lead (Strictly A B) = refl
no_lead (Sporadic A B t) = refl
no_lead (Relation A B p q) = refl
no_lead (Implies A B) = refl
no_lead (Excludes A B) = refl
no_lead (Delayed A B D d) = refl
no_lead (Kills A B) = refl
no_lead (Counted A B D n) = refl

no-leads : (ls : List Line) (n : ℕ) → next_leads in_use ls (replicate n 0) ≡ map (lead_of []) ls
no-leads [] n = refl
no-leads (l ∷ ls) zero = rw (no_lead l, no-leads ls zero)
no-leads (l ∷ ls) (suc n) = rw (no_lead l, no-leads ls n)

no_stop : (k : ℕ) (l : Line) → stops [] k l ≡ false
no_stop k (Kills A B) = and-false (eqb B k)
no_stop k (Counted A B D n) = refl
no_stop k (Sporadic A B t) = refl
no_stop k (Relation A B p q) = refl
no_stop k (Implies A B) = refl
no_stop k (Excludes A B) = refl
no_stop k (Delayed A B D d) = refl
no_stop k (Weakly A B) = refl
no_stop k (Strictly A B) = refl

no-stops : (k : ℕ) (ls : List Line) → any (stops [] k) ls ≡ false
no-stops k [] = refl
no-stops k (l ∷ ls) = rw (no_stop k l, no-stops k ls)

take-false : (c n : ℕ) → c ≤ n → take c (replicate n false) ≡ table c (λ k. false)
take-false zero n h = refl
take-false (suc c) zero h = absurd (omega arith)
take-false (suc c) (suc n) h = ap (λ (bs : List Bool). false ∷ bs) (take-false c n (omega arith))

none-stopped : (v : SheetValue) → v.clocks ≤ 8 → take v.clocks (replicate 8 false) ≡ table v.clocks (λ k. any (stops [] k) v.lines)
none-stopped v h = take-false v.clocks 8 h ∙ sym (table-ext v.clocks (λ k. any (stops [] k) v.lines) (λ k. false) (λ k l. no-stops k v.lines))

-- ---- a row that was blank

-- what there is, if it is
provided-some : {A : Type 0} (r : Bool) {x y : A} → provided r x ≡ some y → x ≡ y
provided-some true e = cc
provided-some false e = let z : ◌≡◌ {A = ℕ} 0 1 = cc in absurd (omega arith)

module _ {a : List ℕ} (z : BlankRow a head_rows) where
  blank-count : (part : ℕ) → part < parts → row_count a head_rows part ≡ 0
  blank-count part h = z.blank (part_words * part) (omega arith)

  pub blank-row : Row a head_rows 0
  blank-row = record { size = z.size; row = omega arith; few = omega (arith, blank-count 0 (omega arith)) }

  blank-owes : row_owed a head_rows ≡ []
  unfolding listed_from
  blank-owes = rw (blank-count 0 (omega arith))

  module _ (v : SheetValue) {r : Bool} {b : List ℕ} (w : StartedRow head_rows (flat_map owed_at_start v.lines) r a b) where
    leads : row_leads b head_rows ≡ replicate 16 0
    leads = listed-is 0 (row_lead b head_rows) 16 (replicate 16 0) (length-replicate {A = ℕ} 16 0)
        (λ k h. w.stays.same head_rows (leads_part + k) (omega arith) (λ e x y. omega arith) ∙ z.blank (leads_part + k) (omega arith) ∙ sym (blank-at {A = ℕ} 0 16 k))

    stopped : row_stopped b head_rows ≡ replicate 8 false
    stopped = listed-is false (row_stop b head_rows) 8 (replicate 8 false) (length-replicate 8 false)
        (λ k h. ap flag_of (w.stays.same head_rows (stopped_part + k) (omega arith) (λ e x y. omega arith) ∙ z.blank (stopped_part + k) (omega arith)) ∙ sym (blank-at false 8 k))

    -- no countdown is begun
    count-stays : row_count b head_rows 1 ≡ 0
    count-stays = w.stays.same head_rows part_words (omega arith) (λ e x y. omega arith) ∙ blank-count 1 (omega arith)

    no-countdown : row_countdowns b head_rows ≡ []
    unfolding listed_from
    no-countdown = rw count-stays

    first : v.clocks ≤ 8 → (os : List Obligation) → added_all (flat_map owed_at_start v.lines) [] ≡ some os → used_part v (row_of b head_rows) ≡ owing (record { owed = os; countdowns = [] }) (remainder v [])
    unfolding remainder
    first h os e =
        same-remainder (provided-some r (w.owed ∙ ap (added_all (flat_map owed_at_start v.lines)) blank-owes ∙ e))
        no-countdown
        (ap (next_leads in_use v.lines) leads ∙ no-leads v.lines 16)
        (ap (take v.clocks) stopped ∙ none-stopped v h)

    by_part : (part : ℕ) → part ≤ 1 → row_count b head_rows part ≤ 8
    by_part zero h = w.few
    by_part (suc zero) h = omega (arith, count-stays)
    by_part (suc (suc part)) h = absurd (omega arith)

    pub begun-rows : BegunRows v a b
    unfolding listed_from
    begun-rows = record {
      stays = w.stays;
      small = (omega arith, λ k h part l. let e : k ≡ 0 = omega arith in rw e (by_part part (omega arith)));
      first = λ h os e. ap (λ x. x ∷ []) (first h os e);
    }
