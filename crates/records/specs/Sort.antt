-- The one form of a sheet: what sorting it is, not how it is done.
use Rattle.std.specs.Prelude.{ℕ, ◌≡◌, true, ◌⊎◌, List, [], ◌∷◌, length, ltb, Result}
use Rattle.records.specs.declared.line.Line.{Line}
use Rattle.records.specs.declared.order.Order.TheVariants.{Any}
use Rattle.records.specs.declared.refusal.Refusal.{Refusal}
use Rattle.records.specs.declared.sheet.Sheet.{Sheet}
use Rattle.records.specs.Outcome.{taken, refused, outcome_of, ◌⇒◌, decide}
use Rattle.records.specs.Order.{above, key_of}
use Rattle.records.specs.Sheet.{SheetValue, read_sheet, read_unordered, sheet_value, sheet_read, sheet_value_checks, sheet_bytes, write_sheet}
use Rattle.records.specs.Store.{Wrote, wrote, leaves}

-- x is one of the elements
abbrev pub IsIn : {A : Type 0} → A → List A → Type 0
IsIn x [] = ⊥
IsIn x (y ∷ ys) = (x ≡ y) ⊎ IsIn x ys

-- R holds of each element and the next
abbrev pub Chain : {A : Type 0} → (A → A → Type 0) → List A → Type 0
Chain R [] = Unit {0}
Chain R (x ∷ []) = Unit {0}
Chain R (x ∷ y ∷ xs) = R x y × Chain R (y ∷ xs)

-- each line is above the one before it
abbrev pub Rises : List Line → Type 0
Rises ls = Chain (λ l m. above (key_of m) (key_of l) ≡ true) ls

-- each line of one list is a line of the other
pub record SameLines (ls ms : List Line) : Type 0 where
  pub there : (l : Line) → IsIn l ls → IsIn l ms
  pub back : (l : Line) → IsIn l ms → IsIn l ls

-- w is the sorted form of v: its clock count and its lines, each above the one before it
pub record Sorted (v w : SheetValue) : Type 0 where
  pub clocks : w.clocks ≡ v.clocks
  pub rises : Rises w.lines
  pub lines : SameLines v.lines w.lines

-- what sorting a sheet value answers: the number by which it is outside its limits, its lines in any order, or its sorted form
pub record SortsValue (s : Sheet) (r : Result Sheet Refusal) : Type 0 where
  pub refuses : (n : ℕ) → decide (sheet_value_checks Any (sheet_value s)) (sheet_value s) ≡ refused n → outcome_of r ≡ refused n
  pub sorts :
      (v : SheetValue) → decide (sheet_value_checks Any (sheet_value s)) (sheet_value s) ≡ taken v
      → (w : SheetValue) × Sorted v w × (outcome_of r ≡ sheet_read (taken w))

-- bytes written at a buffer's front; 10: it is shorter than they are
abbrev pub fitted : List ℕ → List ℕ → Wrote
fitted buffer bytes = leaves buffer (decide ((ltb (length buffer) (length bytes) ⇒ 10) ∷ []) bytes)

-- what sorting a sheet's bytes answers and leaves for every buffer:
-- the number by which they are refused, the lines in any order, or the bytes of the sorted form
pub record SortsBytes (b before : List ℕ) (r : Result ℕ Refusal) (after : List ℕ) : Type 0 where
  pub refuses : (n : ℕ) → read_unordered b ≡ refused n → wrote r after ≡ leaves before (refused n)
  pub sorts : (v : SheetValue) → read_unordered b ≡ taken v → (w : SheetValue) × Sorted v w × (wrote r after ≡ fitted before (sheet_bytes w))

-- ---- what holds of it

-- two sheets of one clock count and the same lines have one sorted form
abbrev pub OneForm : Type 0
OneForm = (v w : SheetValue) → v.clocks ≡ w.clocks → Rises v.lines → Rises w.lines → SameLines v.lines w.lines → v ≡ w

-- the sorted form of what bytes hold: it is written as it is, or 10; its bytes read as it, by the order's own rule;
-- and of bytes whose lines rise already it is the same bytes
pub record SortedForm (b : List ℕ) (v w : SheetValue) : Type 0 where
  pub written : (buffer : List ℕ) → write_sheet w buffer ≡ fitted buffer (sheet_bytes w)
  pub back : read_sheet (sheet_bytes w) ≡ taken w
  pub kept : read_sheet b ≡ taken v → sheet_bytes w ≡ b

-- two byte strings that hold the same lines, in whatever order and however often, over the same clocks:
-- sorting gives the same answer and leaves the same bytes
abbrev pub OneFile : Type 0
OneFile =
    (b c before : List ℕ) (v w : SheetValue) → read_unordered b ≡ taken v → read_unordered c ≡ taken w → v.clocks ≡ w.clocks → SameLines v.lines w.lines
    → (r q : Result ℕ Refusal) (after left : List ℕ) → SortsBytes b before r after → SortsBytes c before q left → wrote r after ≡ wrote q left
