-- The limits of a monitor, in turn: its sheet's own, the instants, those held. Assumes nothing.
use mathlib.Core.Bool.{Bool, true, false}
use mathlib.Core.Path.{◌≡◌, refl, sym, ap, ◌∙◌}
use Prim.Native.Nat.{ℕ, ◌≤◌, ◌<◌}
use native.Mathlib.Omega.{arith}
use lib.Dec.{leb, not_T, leb→le, le→leb}
use lib.ListN.{length}
use borrow.Author.Tests.{ltb-false}
use Rattle.std.specs.Prelude.{Result, Ok, Err}
use Rattle.records.specs.declared.refusal.Refusal.{Refusal}
use Rattle.records.specs.declared.order.Order.TheVariants.{Any}
use Rattle.records.specs.Outcome.{Outcome, taken, refused, outcome_of, decide}
use Rattle.records.specs.Sheet.{SheetValue, line_at, sheet_value, sheet_value_checks}
use Rattle.records.specs.Inner.{answered, Checked}
use Rattle.records.proofs.Lists.{refused-taken, taken-passed, length-listed}
use Rattle.tesl.proofs.Tests.{T→≡}
use Rattle.theory.proofs.Lists.{F→≡}
use Rattle.judge.specs.declared.monitor.Monitor.{Monitor}
use Rattle.judge.specs.Limits.{is_taken, sheet_within, held_within, monitor_within, Limited}

-- ---- the sheet

done-taken : {A : Type 0} (o : Outcome A) → answered o ≡ taken tt → is_taken o ≡ true
done-taken (taken v) e = refl
done-taken (refused n) e = refused-taken e

refused-not : {A : Type 0} (o : Outcome A) {n : ℕ} → answered o ≡ refused n → is_taken o ≡ false
refused-not (taken v) e = refused-taken (sym e)
refused-not (refused n) e = refl

few : (v : SheetValue) (o : Outcome SheetValue) → decide (sheet_value_checks Any v) v ≡ o → is_taken o ≡ true → length v.lines ≤ 16
few v (taken w) e t = ltb-false 16 (length v.lines) (taken-passed (sheet_value_checks Any v) e).0.1.0
few v (refused n) e t = let z : ◌≡◌ {A = ℕ} 0 1 = cc in absurd (omega arith)

module _ (m : Monitor) (a : Result (Unit {0}) Refusal) (h : Checked Any m.sheet a) where
  pub sheet-kept : a ≡ Ok tt → sheet_within (sheet_value m.sheet) ≡ true
  unfolding sheet_within
  sheet-kept e = done-taken (decide (sheet_value_checks Any (sheet_value m.sheet)) (sheet_value m.sheet)) (sym h.answer ∙ ap outcome_of e)

  pub few-lines : a ≡ Ok tt → m.sheet.count ≤ 16
  few-lines e =
      let v = sheet_value m.sheet in
      let k = few v (decide (sheet_value_checks Any v) v) refl (done-taken (decide (sheet_value_checks Any v) v) (sym h.answer ∙ ap outcome_of e)) in
      omega (arith, length-listed (line_at m.sheet) m.sheet.count)

  -- ---- in turn

  pub within-not : {why : Refusal} → a ≡ Err why → Limited m false
  unfolding monitor_within sheet_within
  within-not e =
      let v = sheet_value m.sheet in
      record {
        answer = sym (rw (refused-not (decide (sheet_value_checks Any v) v) (sym h.answer ∙ ap outcome_of e)));
        value = λ z. let y : ◌≡◌ {A = ℕ} 0 1 = cc in absurd (omega arith);
      }

  pub within-many : a ≡ Ok tt → 4000 < m.instants → Limited m false
  unfolding monitor_within
  within-many e k = record {
    answer = sym (rw (sheet-kept e, F→≡ (leb m.instants 4000) (not_T (leb m.instants 4000) (λ t. let l = leb→le m.instants 4000 t in omega arith))));
    value = λ z. h.value e;
  }

  pub within_held : {b : Bool} → a ≡ Ok tt → m.instants ≤ 4000 → b ≡ held_within (sheet_value m.sheet) m.instants m.held.count m.held.remainders → Limited m b
  unfolding monitor_within
  within_held e k q = record {
    answer = q ∙ sym (rw (sheet-kept e, T→≡ (leb m.instants 4000) (le→leb m.instants 4000 k)));
    value = λ z. h.value e;
  }
