-- What *sort* prints: the sorted form has room in the longest sheet's bytes, so nothing but the sheet's own number is refused; one text is printed, since the sorted form is one; and opened it answers as the sheet does. Assumes nothing.
use mathlib.Core.List.{List}
use mathlib.Core.Path.{◌≡◌, refl, sym, ap, subst, ◌∙◌}
use Prim.Native.Nat.{ℕ, ◌≤◌}
use native.Mathlib.Omega.{arith}
use lib.ListN.{length}
use borrow.Author.Tests.{le-ltb}
use Rattle.records.specs.declared.order.Order.TheVariants.{Any}
use Rattle.std.specs.Prelude.{Result, Ok, Err}
use Rattle.records.specs.declared.refusal.Refusal.{Refusal}
use Rattle.records.specs.Outcome.{Outcome, taken, refused, outcome_of}
use Rattle.records.specs.Refusal.{refusal_number}
use Rattle.records.specs.Sheet.{SheetValue, read_sheet, read_unordered, read_base, sheet_value_checks, sheet_bytes}
use Rattle.records.specs.Sort.{Sorted, SortsBytes}
use Rattle.records.specs.Store.{Wrote, wrote, leaves}
use Rattle.records.specs.Types.{IsBytes}
use Rattle.records.proofs.Lists.{taken-passed, refused-taken, taken-same, refused-same}
use Rattle.records.proofs.sheet.Front.{read_number}
use Rattle.records.proofs.sheet.RoundTrip.{read-writes}
use Rattle.records.proofs.sort.Forms.{own-lines, same-form, sorted-size, base-unordered}
use Rattle.judge.specs.Demands.{AnsweredAlike}
use Rattle.judge.proofs.SameAnswers.{sorted-alike}
use Rattle.text.specs.Text.{refusal_line}
use Rattle.text.specs.Output.{printed, printed_as, SortText, SortPrinted, OneSortText, SortTextAnswers}

module _ (sheet : List ℕ) (is : IsBytes sheet) where
  -- the sorted form has room
  fits : (v w : SheetValue) → read_unordered sheet ≡ taken v → Sorted v w → length (sheet_bytes w) ≤ 165
  fits v w e s = sorted-size v w s (taken-passed (sheet_value_checks Any v) (read-writes Any 24 sheet is e).checks).0

  module _ (before : List ℕ) (room : 165 ≤ length before) (r : Result ℕ Refusal) (after : List ℕ) (s : SortsBytes sheet before r after) where
    -- what was taken was written whole
    all-written : (v : SheetValue) (e : read_unordered sheet ≡ taken v) (w : SheetValue) → w ≡ (s.sorts v e).0 → wrote r after ≡ leaves before (taken (sheet_bytes w))
    all-written v e w p =
        let t = s.sorts v e in
        rw p (t.2 ∙ rw (le-ltb (length before) (length (sheet_bytes t.0)) (omega (arith, fits v t.0 e t.1))))

    pub sort-done : {n : ℕ} → r ≡ Ok n → SortPrinted sheet before n after
    sort-done {n} e = by_read (read_unordered sheet) refl
      where
        by_read : (o : Outcome SheetValue) → read_unordered sheet ≡ o → SortPrinted sheet before n after
        by_read (refused k) f = refused-taken (sym (ap (λ (w : Wrote). w.answer) (s.refuses k f)) ∙ ap outcome_of e)
        by_read (taken v) f =
            let w = (s.sorts v f).0 in
            let q = all-written v f w refl in
            let size : n ≡ length (sheet_bytes w) = taken-same (sym (ap outcome_of e) ∙ ap (λ (w : Wrote). w.answer) q) in
            record {
              text = sheet_bytes w;
              sorts = record { refuses = λ k g. refused-taken (sym g ∙ f); sorts = λ u g. (w, subst (λ (x : SheetValue). Sorted x w) (taken-same (sym f ∙ g)) (s.sorts v f).1, refl) };
              is = λ i. printed_as (size i) (ap (λ (w : Wrote). w.buffer) q i);
            }

    -- refused: the buffer as it was, a number of at most two digits, and its line is what is printed
    pub record Refuses (n : ℕ) : Type 0 where
      pub same : after ≡ before
      pub small : n ≤ 18
      pub text : SortText sheet (refusal_line n)

    pub sort-refused : {why : Refusal} → r ≡ Err why → Refuses (refusal_number why)
    sort-refused {why} e = by_read (read_unordered sheet) refl
      where
        by_read : (o : Outcome SheetValue) → read_unordered sheet ≡ o → Refuses (refusal_number why)
        by_read (taken v) f = refused-taken (sym (ap outcome_of e) ∙ ap (λ (w : Wrote). w.answer) (all-written v f (s.sorts v f).0 refl))
        by_read (refused k) f =
            let h = s.refuses k f in
            let q : k ≡ refusal_number why = refused-same (sym (ap (λ (w : Wrote). w.answer) h) ∙ ap outcome_of e) in
            record {
              same = ap (λ (w : Wrote). w.buffer) h;
              small = rw q at (read_number Any 24 sheet f);
              text = record { refuses = λ m g. ap refusal_line (sym q ∙ refused-same (sym f ∙ g)); sorts = λ v g. refused-taken (sym f ∙ g) };
            }

    -- the refusal's line was put
    pub sort-line : {n : ℕ} → Refuses n → {size : ℕ} {last : List ℕ} → printed_as size last ≡ printed (refusal_line n) after → SortPrinted sheet before size last
    sort-line {n} f {size} {last} e = record { text = refusal_line n; sorts = f.text; is = e ∙ ap (printed (refusal_line n)) f.same }

-- one text
pub one-sort-text : OneSortText
one-sort-text sheet t u x y = by_read (read_unordered sheet) refl
  where
    by_read : (o : Outcome SheetValue) → read_unordered sheet ≡ o → t ≡ u
    by_read (refused n) f = x.refuses n f ∙ sym (y.refuses n f)
    by_read (taken v) f =
        let a = x.sorts v f in
        let b = y.sorts v f in
        a.2 ∙ ap sheet_bytes (same-form v v refl (own-lines v.lines) a.0 b.0 a.1 b.1) ∙ sym b.2

-- what is printed of a sheet that document 01's rules take answers as the sheet
pub sort-text-answers : SortTextAnswers
sort-text-answers sheet text v is e t =
    let s = t.sorts v (base-unordered sheet is e) in
    subst (AnsweredAlike read_base sheet read_sheet) (sym s.2) (sorted-alike sheet v s.0 is e s.1)
