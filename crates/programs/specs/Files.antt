-- What a program prints for files of which it has read the front.
use Rattle.std.specs.Prelude.{List, ◌≡◌, ℕ, ◌≤◌, length, take}
use Rattle.records.specs.Types.{IsBytes}
use Rattle.text.specs.Output.{printed, printed_as, SortPrinted}

-- `sheet` and `log` were read, at most a and b bytes: whatever files these are the first a and b bytes of, `text` of the whole files is at the buffer's front
pub record FilesPrinted (text : List ℕ → List ℕ → List ℕ) (a b : ℕ) (sheet log before : List ℕ) (size : ℕ) (after : List ℕ) : Type 0 where
  pub whole : (s l : List ℕ) → IsBytes s → IsBytes l → take a s ≡ sheet → take b l ≡ log → printed_as size after ≡ printed (text s l) before
  pub within : size ≤ length after

-- the same of *sort* and its one file: whatever file `sheet` is the first a bytes of, the text of the whole file is at the buffer's front
pub record SortedFilePrinted (a : ℕ) (sheet before : List ℕ) (size : ℕ) (after : List ℕ) : Type 0 where
  pub whole : (s : List ℕ) → IsBytes s → take a s ≡ sheet → SortPrinted s before size after
  pub within : size ≤ length after
