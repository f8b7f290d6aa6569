-- Whether a row is within its limits: its obligations, and the leads that precedes lines have, are within theirs. Assumes nothing.
use Rattle.std.specs.Prelude.{None, Option, Some}
use mathlib.Core.Bool.{Bool, true, false, cond, not, ◌&&◌, ◌||◌}
use mathlib.Core.List.{List}
use mathlib.Core.Path.{◌≡◌, refl, sym, ap, ap₂, ◌∙◌}
use Prim.Native.Nat.{ℕ, zero, suc, ◌+◌, ◌<◌, ◌≤◌}
use native.Mathlib.Omega.{arith}
use lib.Dec.{leb}
use lib.ListN.{length, get_or, take, get_or-eq_default}
use lib.Seq.{take_all}
use borrow.Author.Tests.{le-leb, lt-leb, le-ltb, lt-ltb}
use Rattle.records.specs.Lists.{listed}
use Rattle.records.specs.Line.{blank_line}
use Rattle.records.specs.Sheet.{SheetValue}
use Rattle.records.proofs.Lists.{length-listed}
use Rattle.tesl.specs.Lists.{all, below, table}
use Rattle.theory.specs.Step.{next_leads}
use Rattle.theory.specs.Limits.{least_wanted, most_wanted}
use Rattle.work.specs.View.{in_use}
use Rattle.work.proofs.Below.{below-ext, below-front, below-either}
use Rattle.work.proofs.Listing.{listed_at, all_listed}
use Rattle.work.proofs.Carried.{sheet_line, next-places, used-by}
use Rattle.lines.specs.declared.plan.Plan.{Plan}
use Rattle.judge.specs.Limits.{stored_within, least_due, most_due, set_within, remainder_within, held_within}
use Rattle.lines.specs.Plan.{Planned}
use Rattle.remainders.specs.Rows.{row_count, row_obligation, row_set, row_lead, row_leads}
use Rattle.judge.specs.Progress.{row_remainder}
use Rattle.lent.specs.RowsLimits.{place_fits, lead_fits, RowWithin, EachRowWithin, RowsWithin}
use Rattle.judge.proofs.limits.Laws.{by-sets}

all-table : {A : Type 0} (p : A → Bool) (n : ℕ) (f : ℕ → A) → all p (table n f) ≡ below n (λ k. p (f k))
all-table p zero f = refl
all-table p (suc n) f = ap (λ (b : Bool). p (f 0) && b) (all-table p n (λ k. f (suc k))) ∙ sym (below-front (λ k. p (f k)) n)

module _ {p : Plan} (m : ℕ) (rows : List ℕ) (i : ℕ) where
  module _ (v : SheetValue) (lines : List ℕ) (planned : Planned v p lines) where
    -- line k's lead, of any row
    abbrev lead : ℕ → Bool
    lead k = leb (in_use (sheet_line v k) (get_or (row_leads rows i) k 0)) m

    by_flag : (k : ℕ) → k < p.leaders → lead k ≡ lead_fits p.precede m rows i k
    by_flag k h =
        ap (λ (n : ℕ). leb n m) (used-by (sheet_line v k) (get_or (row_leads rows i) k 0))
        ∙ ap₂ (λ (b : Bool) (n : ℕ). leb (cond b n 0) m) (planned.leading.1 k ∙ ap (λ (b : Bool). b && get_or p.precede k false) (lt-ltb k p.leaders h)) (listed_at (row_lead rows i) 0 16 k (omega (arith, planned.leading.0)))
        ∙ by-test (get_or p.precede k false)
      where
        by-test : (b : Bool) → leb (cond b (row_lead rows i k) 0) m ≡ (not b || leb (row_lead rows i k) m)
        by-test true = refl
        by-test false = le-leb 0 m (omega arith)

    past-lines : (k : ℕ) → length v.lines ≤ k → lead k ≡ true
    past-lines k h = rw (get_or-eq_default v.lines blank_line {n = k} h) (le-leb 0 m (omega arith))

    past-leaders : (k : ℕ) → p.leaders ≤ k → lead k ≡ true
    past-leaders k h =
        ap (λ (n : ℕ). leb n m) (used-by (sheet_line v k) (get_or (row_leads rows i) k 0) ∙ ap (λ (b : Bool). cond b (get_or (row_leads rows i) k 0) 0) (planned.leading.1 k ∙ ap (λ (b : Bool). b && get_or p.precede k false) (le-ltb k p.leaders h)))
        ∙ le-leb 0 m (omega arith)

    leads-fit : all (λ (n : ℕ). leb n m) (next_leads in_use v.lines (row_leads rows i)) ≡ below p.leaders (lead_fits p.precede m rows i)
    leads-fit =
        ap (all (λ (n : ℕ). leb n m)) (next-places 0 in_use v.lines (row_leads rows i))
        ∙ all-table (λ (n : ℕ). leb n m) (length v.lines) (λ k. in_use (sheet_line v k) (get_or (row_leads rows i) k 0))
        ∙ below-either lead (length v.lines) p.leaders past-lines past-leaders
        ∙ below-ext p.leaders lead (lead_fits p.precede m rows i) by_flag

    -- the row by its sets and its leads
    whole_set : (part : ℕ) → take (row_count rows i part) (row_set rows i part) ≡ row_set rows i part
    whole_set part = take_all (row_count rows i part) (row_set rows i part) (omega (arith, length-listed (row_obligation rows i part) (row_count rows i part)))

    fits : remainder_within v m (row_remainder rows i)
        ≡ (set_within p.clocks least_due most_due (row_count rows i 0) (row_set rows i 0)
        && (set_within p.clocks least_wanted most_wanted (row_count rows i 1) (row_set rows i 1) && below p.leaders (lead_fits p.precede m rows i)))
    fits =
        by-sets p.clocks v (sym planned.as_many) m (row_remainder rows i)
        ∙ λ k. set_within p.clocks least_due most_due (row_count rows i 0) (whole_set 0 k) && (set_within p.clocks least_wanted most_wanted (row_count rows i 1) (whole_set 1 k) && leads-fit k)

  module _ {b : Bool} (owed : b ≡ set_within p.clocks least_due most_due (row_count rows i 0) (row_set rows i 0)) where
    pub row-owed : b ≡ false → RowWithin p m rows i false
    row-owed e v lines planned = sym (fits v lines planned ∙ rw (sym owed, e))

    module _ (e : b ≡ true) {d : Bool} (counted : d ≡ set_within p.clocks least_wanted most_wanted (row_count rows i 1) (row_set rows i 1)) where
      pub row-counted : d ≡ false → RowWithin p m rows i false
      row-counted f v lines planned = sym (fits v lines planned ∙ rw (sym owed, e, sym counted, f))

      pub row-leads : {r : Bool} → d ≡ true → r ≡ below p.leaders (lead_fits p.precede m rows i) → RowWithin p m rows i r
      row-leads f g v lines planned = g ∙ sym (fits v lines planned ∙ rw (sym owed, e, sym counted, f))

-- ---- a set of a row
module _ (c least most : ℕ) (rows : List ℕ) (i part : ℕ) where
  -- more than eight are not read
  pub set-many : 8 < row_count rows i part → false ≡ set_within c least most (row_count rows i part) (row_set rows i part)
  unfolding set_within
  set-many h = sym (rw (lt-leb (row_count rows i part) 8 h))

  pub set-few : {b : Bool} → row_count rows i part ≤ 8 → b ≡ below (row_count rows i part) (place_fits c least most rows i part) → b ≡ set_within c least most (row_count rows i part) (row_set rows i part)
  unfolding set_within
  set-few h e = e ∙ sym (all_listed (row_obligation rows i part) (stored_within c least most) (row_count rows i part)) ∙ sym (rw (le-leb (row_count rows i part) 8 h))

-- ---- those held
module _ {p : Plan} (m : ℕ) (rows : List ℕ) (from : ℕ) where
  pub held_none : {c : Option ℕ} → c ≡ None → RowsWithin p m rows from c true
  unfolding held_within
  held_none e v lines planned = rw e

  pub held-many : {c : Option ℕ} {n : ℕ} → c ≡ Some n → 32 < n → RowsWithin p m rows from c false
  unfolding held_within
  held-many {n = n} e h v lines planned = rw (e, lt-leb n 32 h)

  pub held-live : {c : Option ℕ} {n : ℕ} {b : Bool} → c ≡ Some n → n ≤ 32 → EachRowWithin p m rows from n b → RowsWithin p m rows from c b
  unfolding held_within
  held-live {n = n} e h f v lines planned =
      rw (e, le-leb n 32 h)
      (f v lines planned
      ∙ sym (ap (all (remainder_within v m)) (take_all n (listed (λ k. row_remainder rows (from + k)) n) (omega (arith, length-listed (λ k. row_remainder rows (from + k)) n)))
      ∙ all_listed (λ k. row_remainder rows (from + k)) (remainder_within v m) n))
