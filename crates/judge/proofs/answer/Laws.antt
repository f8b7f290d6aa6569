-- What an answer says of those held: one of them is clear where the code counts no obligation, and as many are live as the code holds. Assumes nothing.
use Rattle.std.specs.Prelude.{Option, Some}
use Rattle.std.specs.List.{list_any, range_with_len}
use Rattle.std.proofs.Common.{add_assoc, add-zero}
use mathlib.Core.Bool.{Bool, true, false, cond, ◌&&◌, ◌||◌}
use mathlib.Core.List.{List, [], ◌∷◌, map}
use mathlib.Core.Path.{◌≡◌, refl, sym, ap, ap₂, ◌∙◌}
use Prim.Native.Nat.{ℕ, zero, suc, ◌+◌}
use native.Mathlib.Omega.{arith}
use lib.Dec.{eqb}
use lib.ListN.{length, length-map}
use borrow.Author.Tests.{ne_eqb}
use Rattle.records.specs.Lists.{listed_from}
use Rattle.records.specs.Sheet.{SheetValue}
use Rattle.records.proofs.Lists.{length-listed}
use Rattle.tesl.specs.Lists.{any, distinct}
use Rattle.tesl.specs.Remainder.{Remainder, same_obligation, same_countdown, distinct_count, owes, counts, is_clear}
use Rattle.tesl.specs.Answer.{broken, holding, clear, owed, standing, judged}
use Rattle.work.specs.View.{used_part}
use Rattle.remainders.specs.declared.obligation.Obligation as code
use Rattle.remainders.specs.View.{obligation_of, countdown_of}
use Rattle.judge.specs.Answer.{said_by}
use Rattle.remainders.specs.Rows.{row_count, row_obligation, row_set, row_of, rows_of}
use Rattle.step.specs.Apply.{found_in}

-- one of each of a list is none only of the empty list
distinct_none : {A : Type 0} (same : A → A → Bool) (xs : List A) → eqb (length (distinct same xs)) 0 ≡ eqb (length xs) 0
distinct_none same [] = refl
distinct_none {A} same (x ∷ xs) = by-rest (distinct same xs) ∙ sym (ne_eqb (length (x ∷ xs)) 0 (λ e. omega arith))
  where
    by-rest : (ys : List A) → eqb (length (cond (any (same x) ys) ys (x ∷ ys))) 0 ≡ false
    by-rest [] = refl
    by-rest (y ∷ ys) = by-test (any (same x) (y ∷ ys))
      where
        by-test : (b : Bool) → eqb (length (cond b (y ∷ ys) (x ∷ (y ∷ ys)))) 0 ≡ false
        by-test true = ne_eqb (length (y ∷ ys)) 0 (λ e. omega arith)
        by-test false = ne_eqb (length (x ∷ (y ∷ ys))) 0 (λ e. omega arith)

-- ---- with one or more held

judged-some : (rs : List Remainder) → (length rs ≡ 0 → ⊥) → judged rs ≡ holding (length rs) (standing rs)
unfolding judged
judged-some [] k = absurd (k refl)
judged-some (r ∷ rs) k = refl

-- ---- in rows

-- a row owes nothing, as the code asks
abbrev pub no_owed : List ℕ → ℕ → Bool
no_owed rows i = eqb (row_count rows i 0) 0 && eqb (row_count rows i 1) 0

module _ (v : SheetValue) (rows : List ℕ) where
  -- a set of the row, read
  read_count : {E : Type 0} (read : code.Obligation → E) (same : E → E → Bool) (i part : ℕ) → eqb (distinct_count same (map read (row_set rows i part))) 0 ≡ eqb (row_count rows i part) 0
  read_count read same i part =
      distinct_none same (map read (row_set rows i part)) ∙ ap (λ k. eqb k 0) (length-map (row_set rows i part) read ∙ length-listed (row_obligation rows i part) (row_count rows i part))

  clear-row : (i : ℕ) → is_clear (used_part v (row_of rows i)) ≡ no_owed rows i
  unfolding owes counts is_clear
  clear-row i = ap₂ ◌&&◌ (read_count obligation_of same_obligation i 0) (read_count countdown_of same_countdown i 1)

  module _ (from : ℕ) where
    -- the rows asked one after the other
    any_from : (i n : ℕ) → list_any (no_owed rows) (range_with_len (from + i) n) ≡ any is_clear (listed_from (λ j. used_part v (row_of rows (from + j))) i n)
    unfolding listed_from
    any_from i zero = refl
    any_from i (suc n) = ap₂ ◌||◌ (sym (clear-row (from + i))) (ap (λ k. list_any (no_owed rows) (range_with_len k n)) (add_assoc from i 1) ∙ any_from (i + 1) n)

    pub any-row : (n : ℕ) → list_any (no_owed rows) (range_with_len from n) ≡ any is_clear (rows_of v rows from n)
    any-row n = ap (λ k. list_any (no_owed rows) (range_with_len k n)) (sym (add-zero from)) ∙ any_from 0 n

    module _ {count : Option ℕ} {n : ℕ} (e : count ≡ Some n) where
      pub rows_none : n ≡ 0 → broken ≡ said_by (found_in v count rows from)
      unfolding judged listed_from
      rows_none z = rw (e, z)

      pub rows-some : (n ≡ 0 → ⊥) → {b : Bool} → b ≡ any is_clear (rows_of v rows from n) → holding n (cond b clear owed) ≡ said_by (found_in v count rows from)
      rows-some k f =
          let m : length (rows_of v rows from n) ≡ n = length-listed (λ j. used_part v (row_of rows (from + j))) n in
          rw (f, e) (sym (judged-some (rows_of v rows from n) (λ z. k (sym m ∙ z)) ∙ rw m))
