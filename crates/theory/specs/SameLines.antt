-- The same sheet in another order (document 02, Q-4): when two sheets differ in nothing but the order of their lines and how often each stands. Assumes nothing.
use Rattle.std.specs.Prelude.{List, ◌≡◌, ℕ}
use Rattle.records.specs.Outcome.{taken}
use Rattle.records.specs.Sheet.{SheetValue}
use Rattle.records.specs.Sort.{SameLines}
use Rattle.tesl.specs.Machine.{Reader, session}

-- the same clock count, and each line of one is a line of the other
pub record SameClocksAndLines (v w : SheetValue) : Type 0 where
  pub clocks : v.clocks ≡ w.clocks
  pub lines : SameLines v.lines w.lines

-- of the plain machine: opened with the bytes of two such sheets, each read in its own way, and called alike, it answers alike
abbrev pub SameSessions : Reader → Reader → Type 0
SameSessions read again =
    (b c : List ℕ) (v w : SheetValue) → read b ≡ taken v → again c ≡ taken w → SameClocksAndLines v w
    → (calls : List (List ℕ)) → session read b calls ≡ session again c calls
