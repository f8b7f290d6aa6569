-- Stopped clocks' words: each is the one that its flag is stored as, and stays so. Assumes nothing.
use mathlib.Core.Bool.{Bool, true, false}
use mathlib.Core.List.{List}
use mathlib.Core.Path.{◌≡◌, refl, sym, ap, ◌∙◌}
use Prim.Native.Nat.{ℕ, ◌+◌, ◌≤◌, ◌<◌}
use native.Mathlib.Omega.{arith}
use lib.Dec.{eqb}
use borrow.Author.Tests.{eqb-true, eqb-false}
use Rattle.remainders.specs.Word.{flag_of, flag_word}
use Rattle.remainders.specs.Rows.{head_rows, height, stopped_part, word, row_stop, FlagsKept, Stays, StoppedOn}

-- ---- a word
pub flag-back : {w : ℕ} (b : Bool) → w ≡ flag_word b → flag_of w ≡ b
flag-back true e = rw e
flag-back false e = rw e

pub flag-stored : {w : ℕ} (b : Bool) → w ≡ flag_word b → w ≡ flag_word (flag_of w)
flag-stored b e = e ∙ ap flag_word (sym (flag-back b e))

-- ---- those of all rows
flag_same : {v w : ℕ} → w ≡ v → v ≡ flag_word (flag_of v) → w ≡ flag_word (flag_of w)
flag_same e f = e ∙ f ∙ ap (λ (w : ℕ). flag_word (flag_of w)) (sym e)

pub flags-same : {a b : List ℕ} → ((h k : ℕ) → head_rows ≤ h → h < height → k < 8 → word b h (stopped_part + k) ≡ word a h (stopped_part + k)) → FlagsKept a b
flags-same f s = record { flag = λ h k l m j. flag_same (f h k l m j) (s.flag h k l m j) }

-- where other words are stored
pub flags-stay : {i lo hi : ℕ} {a b : List ℕ} → Stays i lo hi a b → hi ≤ stopped_part → FlagsKept a b
flags-stay s l = flags-same (λ h k x y z. s.same h (stopped_part + k) (omega arith) (λ e u v. omega arith))

-- where those of row `to` are stored
pub flags-on : {stops : List Bool} {i to : ℕ} {a b : List ℕ} → StoppedOn stops i to a b → FlagsKept a b
flags-on {to = to} {a} {b} o s = record { flag = λ h k l m j. by-test h k l m j (eqb h to) refl }
  where
    by-test : (h k : ℕ) → head_rows ≤ h → h < height → k < 8 → (t : Bool) → eqb h to ≡ t → word b h (stopped_part + k) ≡ flag_word (row_stop b h k)
    by-test h k l m j true e = rw (eqb-true h to e) (o.flags k j)
    by-test h k l m j false e = flag_same (o.stays.same h (stopped_part + k) (omega arith) (λ x u v. eqb-false h to e x)) (s.flag h k l m j)
