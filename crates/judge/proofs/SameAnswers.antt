-- The same sheet before and after sorting: each monitor answers what the plain machine answers, and the machine answers alike for two sheets with the same clocks and the same lines. Assumes nothing.
use mathlib.Core.List.{List}
use mathlib.Core.Path.{◌≡◌, sym, ◌∙◌, subst}
use Prim.Native.Nat.{ℕ}
use Rattle.records.specs.Outcome.{taken}
use Rattle.records.specs.Sheet.{SheetValue, read_sheet, read_base, sheet_bytes}
use Rattle.records.specs.Sort.{Sorted}
use Rattle.records.specs.Types.{IsBytes}
use Rattle.records.proofs.sort.Forms.{base-unordered, sorted-written, sorted-form}
use Rattle.tesl.specs.Machine.{Reader}
use Rattle.theory.specs.SameLines.{SameClocksAndLines}
use Rattle.theory.proofs.SameLines.{same-sessions, permuted-lines, dropped-lines}
use Rattle.judge.specs.Demands.{AnsweredAlike, SameAnswers, PermutedAnswers, DroppedAnswers, SortedAnswers}
use Rattle.judge.proofs.Demands.{demand3}

-- however each of the two is read
pub answered-alike : (read again : Reader) (b c : List ℕ) (v w : SheetValue) → read b ≡ taken v → again c ≡ taken w → SameClocksAndLines v w → AnsweredAlike read b again c
answered-alike read again b c v w e f same calls answered told last end ran other =
    (demand3 read b calls answered last ran).same
    ∙ same-sessions read again b c v w e f same calls
    ∙ sym (demand3 again c calls told end other).same

pub same-answers : SameAnswers
same-answers b c v w e f same = answered-alike read_base read_base b c v w e f same

pub permuted-answers : PermutedAnswers
permuted-answers b c v w e f k d = same-answers b c v w e f (record { clocks = k; lines = permuted-lines d })

pub dropped-answers : DroppedAnswers
dropped-answers b c v w front rest l e f k p q m =
    same-answers b c v w e f (record { clocks = k; lines = rw (p, q) (dropped-lines front rest l m) })

-- ---- sorting

-- the bytes of the sorted form
pub sorted-alike : (b : List ℕ) (v w : SheetValue) → IsBytes b → read_base b ≡ taken v → Sorted v w → AnsweredAlike read_base b read_sheet (sheet_bytes w)
sorted-alike b v w is e s =
    answered-alike read_base read_sheet b (sheet_bytes w) v w e (sorted-form b is v w (base-unordered b is e) s).back (record { clocks = sym s.clocks; lines = s.lines })

pub sorted-answers : SortedAnswers
sorted-answers b before after n v is e s =
    let t = sorted-written b before after (base-unordered b is e) s in
    subst (AnsweredAlike read_base b read_sheet) (sym t.2) (sorted-alike b v t.0 is e t.1)
