-- What is read of a head whose words stay: the sheet, the monitor beside it, and whether it is a state. Assumes nothing.
use mathlib.Core.Bool.{true, cond, ◌&&◌}
use mathlib.Core.List.{List}
use mathlib.Core.Path.{◌≡◌, ap, ap₂, ◌∙◌}
use Prim.Native.Nat.{ℕ, ◌<◌}
use native.Mathlib.Omega.{arith}
use lib.Dec.{eqb, ltb}
use Rattle.records.specs.declared.line.Line.{Line}
use Rattle.records.specs.declared.sheet.Sheet.{Sheet}
use Rattle.records.specs.Line.{blank_line}
use Rattle.records.specs.Sheet.{sheet_value}
use Rattle.work.proofs.Listing.{listed_same}
use Rattle.judge.specs.declared.progress.Progress.{Progress}
use Rattle.lines.specs.LineWords.{line_of_words}
use Rattle.remainders.specs.Rows.{word, Stays, HeadStays}
use Rattle.lent.specs.State.{format, clocks_by, state_words, state_sheet, is_side, is_case, is_state, PutFormat, PutProgress, PutSheet}
use Rattle.lent.proofs.state.Laws.{kinds-same}
use Rattle.lent.proofs.state.Words.{words_same}
use Rattle.lent.proofs.state.Sheet.{same-sheet}

module _ (a b : List ℕ) where
  -- the sheet, where rows 1 and 2 and its words in row 0 stay
  pub sheet-same : word b 0 1 ≡ word a 0 1 → word b 0 2 ≡ word a 0 2 → ((k : ℕ) → k < 16 → state_words b k ≡ state_words a k) → state_sheet b ≡ state_sheet a
  sheet-same c n f =
      same-sheet (ap clocks_by c) n
      (listed_same 16 (λ k h. ap₂ (λ (m : ℕ) (l : Line). cond (ltb k m) l blank_line) n (ap line_of_words (f k h))))

  -- the sheet once another monitor is stored beside it
  pub sheet-beside : Stays 0 3 16 a b → state_sheet b ≡ state_sheet a
  sheet-beside s =
      sheet-same (s.same 0 1 (omega arith) (λ e x y. omega arith)) (s.same 0 2 (omega arith) (λ e x y. omega arith))
      (words_same a b (λ h p l q m. s.same h p m (λ e x y. omega arith)))

  -- all of it, where the head stays
  module _ (s : HeadStays a b) where
    pub sheet-stays : state_sheet b ≡ state_sheet a
    sheet-stays =
        sheet-same (s 0 1 (omega arith) (omega arith)) (s 0 2 (omega arith) (omega arith))
        (words_same a b (λ h p l m n. s h p (omega arith) n))

    pub state-stays : is_state b ≡ is_state a
    unfolding is_state
    state-stays =
        ap₂ ◌&&◌
        (ap₂ ◌&&◌ (ap (λ (w : ℕ). eqb w format) (s 0 0 (omega arith) (omega arith))) (kinds-same a b (s 0 2 (omega arith) (omega arith)) (λ k h. s 1 k (omega arith) (omega arith))))
        (ap₂ ◌&&◌ (ap is_side (s 0 4 (omega arith) (omega arith))) (ap is_case (s 0 5 (omega arith) (omega arith))))

-- ---- format, sheet and monitor stored in turn
module _ {s : Sheet} {k : Progress} {b c d : List ℕ} (sheet : PutSheet s b c) (progress : PutProgress k c d) where
  pub state-made : {a : List ℕ} → PutFormat a b → is_state d ≡ true
  state-made f =
      progress.state
      ∙ ap₂ ◌&&◌ (ap (λ (w : ℕ). eqb w format) (sheet.top 0 (omega arith) (λ e. omega arith) (λ e. omega arith)) ∙ f.format) sheet.kinds

  pub value_made : sheet_value (state_sheet d) ≡ sheet_value s
  value_made = ap sheet_value (sheet-beside c d progress.stays) ∙ sheet.value
