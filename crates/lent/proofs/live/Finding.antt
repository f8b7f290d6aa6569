-- A monitor found in words: each test that fails leaves none within its limits; where all hold, its sheet is prepared and it is ready. Assumes nothing.
use Rattle.std.specs.Prelude.{None, Option, Some, Result, Ok, Err}
use Rattle.std.specs.Result.{result_ok}
use mathlib.Core.Bool.{Bool, true, false, ◌&&◌, and-false}
use mathlib.Core.List.{List}
use mathlib.Core.Path.{◌≡◌, refl, sym, ap, ap₂, ◌∙◌, subst}
use Prim.Native.Nat.{ℕ, ◌≤◌, ◌<◌}
use native.Mathlib.Omega.{arith}
use lib.Dec.{T}
use lib.ListN.{length}
use Rattle.records.specs.declared.refusal.Refusal.{Refusal}
use Rattle.records.specs.declared.sheet.Sheet.{Sheet}
use Rattle.records.specs.Sheet.{sheet_value}
use Rattle.records.specs.declared.order.Order.TheVariants.{Any}
use Rattle.records.specs.Inner.{Checked}
use Rattle.records.proofs.Lists.{both}
use Rattle.tesl.proofs.Tests.{≡→T}
use Rattle.judge.specs.declared.progress.Progress.{Progress}
use Rattle.lines.specs.declared.plan.Plan.{Plan}
use Rattle.judge.specs.Limits.{monitor_within, Limited}
use Rattle.lines.specs.Plan.{numbers, Preparing, PlanOf, Planned}
use Rattle.remainders.specs.Rows.{all_words, word}
use Rattle.lent.specs.RowsLimits.{RowsWithin}
use Rattle.lent.specs.State.{has_format, has_kinds, is_side, is_state, state_sheet, state_progress, state_monitor}
use Rattle.lent.specs.Live.{state_within}
use Rattle.lent.specs.Found.{FoundOne}
use Rattle.judge.proofs.monitor.Limits.{sheet-limits}
use Rattle.judge.proofs.limits.Within.{sheet-kept, few-lines, within-not, within-many, within_held}
use Rattle.lent.proofs.state.Laws.{side-small}

-- a state has its rows on one of the sides
pub state-side : (w : List ℕ) → is_state w ≡ true → T (is_side (word w 0 4))
unfolding is_state
state-side w e = ≡→T (both (is_side (word w 0 4)) (both (has_format w && has_kinds w) e).1).0

-- what a `?` on the check's `ok()` tells of it
pub was-refused : {A E : Type 0} (r : Result A E) → ◌≡◌ {A = Option A} None (result_ok r) → (why : E) × (r ≡ Err why)
was-refused (Ok x) e = grind arith
was-refused (Err why) e = (why, refl)

pub was-ok : {A E : Type 0} (r : Result A E) {x : A} → Some x ≡ result_ok r → r ≡ Ok x
was-ok (Ok x) e = grind arith
was-ok (Err why) e = grind arith

module _ (w : List ℕ) where
  pub found-none : {b : Bool} → b ≡ is_state w → b ≡ false → state_within w ≡ false
  unfolding state_within
  found-none e t = ap (λ (x : Bool). x && monitor_within (state_monitor w)) (sym e ∙ t)

  outside : Limited (state_monitor w) false → state_within w ≡ false
  unfolding state_within
  outside l = ap (λ (x : Bool). is_state w && x) (sym l.answer) ∙ and-false (is_state w)

  module _ {s : Sheet} (sheet : s ≡ state_sheet w) {a : Result (Unit {0}) Refusal} (checked : Checked Any s a) where
    here : Checked Any (state_sheet w) a
    here = subst (λ (x : Sheet). Checked Any x a) sheet checked

    pub found-refused : {why : Refusal} → a ≡ Err why → state_within w ≡ false
    found-refused e = outside (within-not (state_monitor w) a here e)

    module _ (done : a ≡ Ok tt) where
      pub found-prepares : {lines : List ℕ} → length lines ≡ numbers → Preparing s lines
      found-prepares {lines} long =
          let l = sheet-limits (sheet_value (state_sheet w)) (here.value done) (≡→T (sheet-kept (state_monitor w) a here done)) in
          subst (λ (x : Sheet). Preparing x lines) (sym sheet) (record { few-lines = few-lines (state_monitor w) a here done; few-clocks = l.clocks-most; size = long })

      module _ {k : Progress} (kept : k ≡ state_progress w) where
        pub found-many : 4000 < k.instants → state_within w ≡ false
        found-many h = outside (within-many (state_monitor w) a here done (rw kept at h))

        pub found-side : {b : Bool} → b ≡ is_state w → b ≡ true → k.from ≤ 39
        found-side state is = subst (λ (x : Progress). x.from ≤ 39) (sym kept) (side-small (word w 0 4) (state-side w (sym state ∙ is)))

        module _ {b : Bool} (state : b ≡ is_state w) (is : b ≡ true) {p : Plan} {lines : List ℕ} (plan : PlanOf s p lines) where
          planned : Planned (sheet_value (state_sheet w)) p lines
          planned = subst (λ (x : Sheet). Planned (sheet_value x) p lines) sheet plan.planned

          module _ {ok : Bool} (few : k.instants ≤ 4000) (rows : RowsWithin p k.instants w k.from k.count ok) where
            limited : Limited (state_monitor w) ok
            limited = within_held (state_monitor w) a here {b = ok} done (subst (λ (x : Progress). x.instants ≤ 4000) kept few) (subst (λ (x : Progress). RowsWithin p x.instants w x.from x.count ok) kept rows (sheet_value (state_sheet w)) lines planned)

            pub found-not : ok ≡ false → state_within w ≡ false
            found-not e = outside (subst (Limited (state_monitor w)) e limited)

            pub found-one : length w ≡ all_words → ok ≡ true → FoundOne w (record { progress = k; plan = p }) lines
            unfolding state_within
            found-one size e = record {
              size = size;
              within = ap₂ ◌&&◌ (sym state ∙ is) (sym limited.answer ∙ e);
              progress = kept;
              ready = record { value = limited.value e; planned = planned; limits = sym limited.answer ∙ e };
            }
