-- The answers of the functions that sort, in the shapes that their places hold. Assumes nothing.
use mathlib.Core.Path.{◌≡◌, refl, sym, ap, ◌∙◌}
use mathlib.Core.List.{List}
use Prim.Native.Nat.{ℕ}
use Rattle.std.specs.Prelude.{Result, Ok, Err}
use Rattle.records.specs.declared.order.Order.TheVariants.{Any}
use Rattle.records.specs.declared.refusal.Refusal.{Refusal}
use Rattle.records.specs.declared.sheet.Sheet.{Sheet}
use Rattle.records.specs.Outcome.{taken, refused}
use Rattle.records.specs.Refusal.{refusal_number}
use Rattle.records.specs.Sheet.{read_unordered, sheet_value, sheet_of, sheet_read, sheet_value_checks, write_sheet}
use Rattle.records.specs.Sort.{SortsValue, SortsBytes}
use Rattle.records.specs.Store.{wrote, leaves}
use Rattle.records.specs.Types.{IsBytes}
use Rattle.records.specs.Inner.{Checked, Sortable, SortedSheet}
use Rattle.records.proofs.Lists.{Passed, kept-refused, taken-passed, passed-taken, refused-taken, taken-same, refused-same}
use Rattle.records.proofs.sheet.Read.{sheet-done}
use Rattle.records.proofs.sheet.RoundTrip.{Writes, read-writes, sheet_of-value}
use Rattle.records.proofs.sheet.Writing.{answered-refused, checked-passed, passed-few, few-lines}
use Rattle.records.proofs.sort.Forms.{sorted-fitted}

-- ---- `sorted_sheet`
module _ (s : Sheet) where
  pub value-refused : {e : Refusal} → Checked Any s (Err e) → SortsValue s (Err e)
  value-refused c =
      let d = answered-refused (sheet_value_checks Any (sheet_value s)) (sheet_value s) c.answer in
      record { refuses = λ n g. ap refused (refused-same (sym d ∙ g)); sorts = λ v g. refused-taken (sym d ∙ g) }

  module _ (c : Checked Any s (Ok tt)) where
    pub value-sortable : Sortable s
    value-sortable = record { few = few-lines Any s c; values = (c.value refl).1 }

    pub value-sorted : {t : Sheet} → SortedSheet s t → SortsValue s (Ok t)
    value-sorted f =
        let d = passed-taken (sheet_value_checks Any (sheet_value s)) (sheet_value s) (checked-passed Any s c) in
        record {
          refuses = λ n g. refused-taken (sym g ∙ d);
          sorts = λ v g. let q : sheet_value s ≡ v = (taken-passed (sheet_value_checks Any (sheet_value s)) g).1 in (f.value, rw q at f.sorted, ap taken f.same);
        }

-- ---- `sort_sheet`
module _ (b : List ℕ) where
  pub bytes-refused : {e : Refusal} → refused (refusal_number e) ≡ sheet_read (read_unordered b) → (before : List ℕ) → SortsBytes b before (Err e) before
  bytes-refused e before =
      let f = kept-refused sheet_of (read_unordered b) e in
      record { refuses = λ n h. ap (λ (k : ℕ). leaves before (refused k)) (refused-same (sym f ∙ h)); sorts = λ v h. refused-taken (sym f ∙ h) }

  module _ (is : IsBytes b) {s : Sheet} (e : taken s ≡ sheet_read (read_unordered b)) where
    -- what was read, and what it may be written as
    read : read_unordered b ≡ taken (sheet_value s)
    read = sheet-done (read_unordered b) (Ok s) e refl

    was : Writes Any 24 b (sheet_value s)
    was = read-writes Any 24 b is read

    passed : Passed (sheet_value_checks Any (sheet_value s))
    passed = (taken-passed (sheet_value_checks Any (sheet_value s)) was.checks).0

    pub bytes-sortable : Sortable s
    bytes-sortable = record { few = passed-few Any s passed; values = was.value.1 }

    pub bytes-sorted : {t : Sheet} → SortedSheet s t → {before : List ℕ} {r : Result ℕ Refusal} {after : List ℕ} → wrote r after ≡ write_sheet (sheet_value t) before → SortsBytes b before r after
    bytes-sorted {t} f {before} g =
        let q : sheet_value t ≡ f.value = ap sheet_value f.same ∙ sheet_of-value f.value in
        record {
          refuses = λ n h. refused-taken (sym h ∙ read);
          sorts = λ v h. (f.value, rw (taken-same (sym read ∙ h)) at f.sorted, g ∙ rw q (sorted-fitted (sheet_value s) f.value f.sorted passed before));
        }
