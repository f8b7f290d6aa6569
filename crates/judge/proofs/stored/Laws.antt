-- A remainder stored and read back part by part: what it owes, its leads, its stopped clocks. Assumes nothing.
use mathlib.Core.Bool.{Bool, true, false, cond, ◌&&◌}
use mathlib.Core.List.{List, [], map}
use mathlib.Core.Path.{◌≡◌, refl, sym, ap, ◌∙◌}
use Prim.Native.Nat.{ℕ, zero, suc, ◌<◌, ◌≤◌}
use native.Mathlib.Omega.{arith}
use lib.Dec.{T, leb, ltb, leb→le, le→leb}
use lib.ListN.{length, get_or, take}
use lib.Seq.{ext_get_or, get_or-take, length-take-le}
use borrow.Author.Tests.{ltb-true, ltb-false}
use Rattle.tesl.proofs.Tests.{and_l, and_r, and_i}
use Rattle.records.specs.Lists.{listed}
use Rattle.records.specs.Sheet.{SheetValue}
use Rattle.records.proofs.Lists.{both, length-listed}
use Rattle.theory.specs.Step.{next_leads}
use Rattle.theory.proofs.Lists.{table-ext}
use Rattle.work.specs.View.{in_use, used_part}
use Rattle.work.specs.Lines.{small_leads}
use Rattle.work.specs.Parts.{is_precedes}
use Rattle.work.proofs.Listing.{listed_at, listed_same}
use Rattle.work.proofs.Carried.{sheet_line, next-places, used-by, small-lead}
use Rattle.lines.specs.declared.plan.Plan.{Plan}
use Rattle.remainders.specs.declared.remainder.Remainder as arrays
use Rattle.remainders.specs.View.{obligation_of, countdown_of, owed_of, countdowns_of, view_of, few_owed}
use Rattle.remainders.specs.Unused.{NothingUnused}
use Rattle.lines.specs.Plan.{Planned}
use Rattle.remainders.specs.Rows.{leads_part, parts_end, word, row_count, row_obligation, row_owed, row_countdowns, FewInRow, row_lead, row_leads, row_stop, row_stopped, row_of, ObligationsAt}
use Rattle.judge.specs.Stored.{PutObligations, PutLeads, PutStopped, PutRemainder, LeadsAt, StoppedAt, RemainderAt}
use Rattle.remainders.proofs.rows.Laws.{stays_wide, stays_on, set_words-law, few_words}
use Rattle.step.proofs.advance.Row.{same-remainder}
use Rattle.step.proofs.advance.Built.{other-count, other-set}

-- ---- stored

pub few-owed : (r : arrays.Remainder) → T (few_owed r) → r.owed ≤ 8
few-owed r t = leb→le r.owed 8 (and_l (leb r.owed 8) (leb r.counting 8) t)

pub few-counting : (r : arrays.Remainder) → T (few_owed r) → r.counting ≤ 8
few-counting r t = leb→le r.counting 8 (and_r (leb r.owed 8) (leb r.counting 8) t)

module _ {i : ℕ} (r : arrays.Remainder) (few : T (few_owed r)) {a b c d e : List ℕ} (owed : PutObligations i 0 r.owed (take r.owed r.obligations) a b)
    (counting : PutObligations i 1 r.counting (take r.counting r.countdowns) b c) (led : PutLeads i r.leads c d) (stopped : PutStopped i r.stopped d e) where
  same : (p : ℕ) → p < leads_part → word e i p ≡ word c i p
  same p h = stopped.stays.same i p (omega arith) (λ e x y. omega arith) ∙ led.stays.same i p (omega arith) (λ e x y. omega arith)

  -- the obligations stay where the countdowns are stored
  count_kept : row_count c i 0 ≡ r.owed
  count_kept = other-count 1 counting.stays (omega arith) 0 (omega arith) (λ e. omega arith) ∙ owed.count

  few-stored : FewInRow c i
  few-stored zero h = rw count_kept (few-owed r few)
  few-stored (suc zero) h = rw counting.count (few-counting r few)
  few-stored (suc (suc part)) h = absurd (omega arith)

  few-there : FewInRow e i
  few-there = few_words c e i same few-stored

  owed-there : row_owed e i ≡ owed_of r
  owed-there = ap (map obligation_of) (set_words-law c e i same 0 (omega arith) (few-stored 0 (omega arith)) ∙ other-set 1 counting.stays (omega arith) 0 (omega arith) (λ e. omega arith) (rw owed.count (few-owed r few)) ∙ owed.set)

  countdowns-there : row_countdowns e i ≡ countdowns_of r
  countdowns-there = ap (map countdown_of) (set_words-law c e i same 1 (omega arith) (few-stored 1 (omega arith)) ∙ counting.set)

  leads-there : row_leads e i ≡ r.leads
  leads-there = listed_same 16 (λ k l. stopped.stays.same i _ (omega arith) (λ e x y. omega arith)) ∙ led.leads

  pub remainder-put : PutRemainder i r a e
  remainder-put =
      record {
        stays = stays_on (stays_wide owed.stays 0 parts_end (omega arith) (omega arith)) (stays_on (stays_wide counting.stays 0 parts_end (omega arith) (omega arith)) (stays_on (stays_wide led.stays 0 parts_end (omega arith) (omega arith)) (stays_wide stopped.stays 0 parts_end (omega arith) (omega arith))));
        few = few-there;
        row = same-remainder owed-there countdowns-there leads-there stopped.stopped;
      }

-- ---- read back

-- the first n of two arrays
pub take_same : {A : Type 0} (d : A) (n : ℕ) (xs ys : List A) → n ≤ length xs → n ≤ length ys → ((k : ℕ) → k < n → get_or xs k d ≡ get_or ys k d) → take n xs ≡ take n ys
take_same d n xs ys h l p =
    let m = length-take-le n xs h in
    ext_get_or d (take n xs) (take n ys) (m ∙ sym (length-take-le n ys l))
    (λ k b. let c : k < n = omega (arith, m) in get_or-take n xs k d c ∙ p k c ∙ sym (get_or-take n ys k d c))

few-read : (rows : List ℕ) (i : ℕ) → FewInRow rows i → (r : arrays.Remainder) → r.owed ≡ row_count rows i 0 → r.counting ≡ row_count rows i 1 → T (few_owed r)
few-read rows i few r e f =
    and_i (leb r.owed 8) (leb r.counting 8) (le→leb r.owed 8 (omega (arith, few 0 (omega arith)))) (le→leb r.counting 8 (omega (arith, few 1 (omega arith))))

module _ {p : Plan} {i : ℕ} (r : arrays.Remainder) {rows : List ℕ} (few : FewInRow rows i) (count : r.owed ≡ row_count rows i 0) (owed : ObligationsAt i 0 r.owed r.obligations rows)
    (number : r.counting ≡ row_count rows i 1) (counting : ObligationsAt i 1 r.counting r.countdowns rows) (led : LeadsAt p.leaders p.precede i r.leads rows) (stopped : StoppedAt p.clocks i r.stopped rows) where
  -- of a sheet that the plan is of
  module _ {v : SheetValue} {lines : List ℕ} (planned : Planned v p lines) where
    abbrev precedes : ℕ → Bool
    precedes k = is_precedes (sheet_line v k)

    in-leaders : (k : ℕ) → precedes k ≡ true → (k < p.leaders) × (get_or p.precede k false ≡ true)
    in-leaders k e = let b = both (ltb k p.leaders) (sym (planned.leading.1 k) ∙ e) in (ltb-true k p.leaders b.0, b.1)

    no_lead : (k : ℕ) → precedes k ≡ false → get_or r.leads k 0 ≡ 0
    no_lead k e = by-test (ltb k p.leaders) refl (sym (planned.leading.1 k) ∙ e)
      where
        by-test : (b : Bool) → ltb k p.leaders ≡ b → (b && get_or p.precede k false) ≡ false → get_or r.leads k 0 ≡ 0
        by-test true t f = led.first k (ltb-true k p.leaders t) ∙ rw f
        by-test false t f = led.rest k (ltb-false k p.leaders t)

    unused-lead : (k : ℕ) → get_or r.leads k 0 ≡ in_use (sheet_line v k) (get_or r.leads k 0)
    unused-lead k = by-test (precedes k) refl ∙ sym (used-by (sheet_line v k) (get_or r.leads k 0))
      where
        by-test : (b : Bool) → precedes k ≡ b → get_or r.leads k 0 ≡ cond b (get_or r.leads k 0) 0
        by-test true e = refl
        by-test false e = no_lead k e

    pub nothing-unused : NothingUnused v r
    nothing-unused = record { obligations = owed.rest; countdowns = counting.rest; leads = unused-lead; stopped = λ k h. stopped.rest k (omega (arith, planned.as_many)) }

    module _ (small : T (small_leads (used_part v (row_of rows i)))) where
      lead-same : (k : ℕ) → in_use (sheet_line v k) (get_or r.leads k 0) ≡ in_use (sheet_line v k) (get_or (row_leads rows i) k 0)
      lead-same k = used-by (sheet_line v k) (get_or r.leads k 0) ∙ by-test (precedes k) refl ∙ sym (used-by (sheet_line v k) (get_or (row_leads rows i) k 0))
        where
          by-test : (b : Bool) → precedes k ≡ b → cond b (get_or r.leads k 0) 0 ≡ cond b (get_or (row_leads rows i) k 0) 0
          by-test true e =
              let b = in-leaders k e in
              let at = listed_at (row_lead rows i) 0 16 k (omega (arith, planned.leading.0)) in
              led.first k b.0 ∙ rw b.1 (omega (arith, at, small-lead v [] (row_of rows i) small k e))
          by-test false e = refl

      leads-read : next_leads in_use v.lines r.leads ≡ next_leads in_use v.lines (row_leads rows i)
      leads-read =
          next-places 0 in_use v.lines r.leads ∙ table-ext (length v.lines) _ _ (λ k b. lead-same k) ∙ sym (next-places 0 in_use v.lines (row_leads rows i))

      stopped-read : take v.clocks r.stopped ≡ take v.clocks (row_stopped rows i)
      stopped-read =
          let c = planned.as_many in
          let f = planned.few-clocks in
          let l = length-listed (row_stop rows i) 8 in
          take_same false v.clocks r.stopped (row_stopped rows i) (omega (arith, stopped.size)) (omega arith)
          (λ k h. stopped.first k (omega arith) ∙ sym (listed_at (row_stop rows i) false 8 k (omega arith)))

      pub read_view : view_of v r ≡ used_part v (row_of rows i)
      read_view = same-remainder
          (ap (map obligation_of) (owed.first ∙ ap (listed (row_obligation rows i 0)) count))
          (ap (map countdown_of) (counting.first ∙ ap (listed (row_obligation rows i 1)) number))
          leads-read stopped-read

  pub remainder-read : RemainderAt p i r rows
  remainder-read = record { few = few-read rows i few r count number; view = λ v lines planned. read_view planned; unused = λ v lines planned. nothing-unused planned }
