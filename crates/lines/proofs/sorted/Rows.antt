-- Lines stored in rows: a line is read in its row, the other rows stay, and a part has one line more. Assumes nothing.
use mathlib.Core.Bool.{true}
use mathlib.Core.List.{List}
use mathlib.Core.Path.{◌≡◌, refl, ap, ◌∙◌}
use Prim.Native.Nat.{ℕ, ◌+◌, ◌*◌, ◌<◌}
use native.Mathlib.Omega.{arith}
use lib.ListN.{get_or}
use Rattle.records.specs.declared.line.Line.{Line}
use Rattle.work.proofs.Listing.{listed_same, listed_next}
use Rattle.lines.specs.declared.line_words.LineWords.{LineWords}
use Rattle.lines.specs.LineWords.{line_of_words}
use Rattle.lines.specs.Plan.{line_width, plan_lines, LineRow, LinesStay, PutPlanLine, PutPart}
use Rattle.lines.proofs.line_words.Stored.{stored, stored-length, stored_other, stored_there}

-- six words stored in row j
module _ {lines : List ℕ} {j : ℕ} (r : LineRow lines j) (w : LineWords) where
  abbrev after : List ℕ
  after = stored lines (line_width * j) w

  -- words 0 to 5 of another row
  other : (h k : ℕ) → k < 6 → (h ≡ j → ⊥) → get_or after (line_width * h + k) 0 ≡ get_or lines (line_width * h + k) 0
  other h k m apart = stored_other lines (line_width * j) w (line_width * h + k) (λ p q. apart (omega arith))

  first : (h : ℕ) → (h ≡ j → ⊥) → get_or after (line_width * h) 0 ≡ get_or lines (line_width * h) 0
  first h apart = stored_other lines (line_width * j) w (line_width * h) (λ p q. apart (omega arith))

  pub put-there : PutPlanLine j (line_of_words w) lines after
  put-there = record {
    stays = record {
      size = stored-length lines (line_width * j) w ∙ r.size;
      same = λ h apart. rw (first h apart, other h 1 (omega arith) apart, other h 2 (omega arith) apart, other h 3 (omega arith) apart, other h 4 (omega arith) apart, other h 5 (omega arith) apart);
    };
    there = ap line_of_words (stored_there lines (line_width * j) w (omega arith));
  }

-- rows that j is not among
pub rows_stay : {j : ℕ} {a b : List ℕ} → LinesStay j a b → (from n : ℕ) → ((k : ℕ) → k < n → from + k ≡ j → ⊥) → plan_lines b from n ≡ plan_lines a from n
rows_stay r from n apart = listed_same n (λ k m. r.same (from + k) (apart k m))

-- ---- a part
pub part-more : {l : Line} {a b : List ℕ} (from count : ℕ) → PutPlanLine (from + count) l a b → PutPart from count true l (count + 1) a b
part-more from count p =
    record { stays = p.stays; few = omega arith; rows = listed_next count (λ k m. p.stays.same (from + k) (λ e. omega arith)) p.there refl }
