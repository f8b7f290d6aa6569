-- Document 01, 'Programs': all that *watch* and *columns* print for the bytes of a sheet and of a log; and document 02, Q-1: all that *sort* prints for those of a sheet.
use Rattle.std.specs.Prelude.{List, [], ◌∷◌, ◌++◌, ◌≡◌, ℕ, suc, length, take, drop}
use Rattle.records.specs.Outcome.{Outcome, taken, refused}
use Rattle.records.specs.Sheet.{SheetValue, read_sheet, read_unordered, read_base, sheet_bytes}
use Rattle.records.specs.Sort.{Sorted}
use Rattle.records.specs.Types.{IsBytes}
use Rattle.tesl.specs.Lists.{flat_map}
use Rattle.tesl.specs.Run.{Instant, tags_of}
use Rattle.tesl.specs.Answer.{Answer}
use Rattle.tesl.specs.Machine.{accepts_each, session, calls_of}
use Rattle.judge.specs.Demands.{AnsweredAlike}
use Rattle.text.specs.Text.{answer_line, refusal_line, column_line}

-- the lines of what came of each record, numbered from n on, up to the first refusal, whose line ends the text
unfoldable pub lines_from : {A : Type 0} → (ℕ → A → List ℕ) → ℕ → List (Outcome A) → List ℕ
lines_from lines n [] = []
lines_from lines n (taken x ∷ more) = lines n x ++ lines_from lines (suc n) more
lines_from lines n (refused m ∷ more) = refusal_line m

-- ---- *watch*: a line per instant, the machine's replies to the log's records; a refused sheet has one line

abbrev pub watch_of : Outcome Answer → List (Outcome Answer) → List ℕ
watch_of (taken a) replies = lines_from answer_line 1 replies
watch_of (refused n) replies = refusal_line n

unfoldable pub watch_text : List ℕ → List ℕ → List ℕ
watch_text sheet log = let s = session read_sheet sheet (calls_of log) in watch_of s.opening s.replies

-- ---- *columns*: a line per tag, instants in order and clocks from 0; refusals as in *watch*

-- an instant's lines; its number is not printed
abbrev pub tag_lines : ℕ → Instant → List ℕ
tag_lines n i = flat_map column_line (tags_of i)

abbrev pub columns_of : List (List ℕ) → Outcome SheetValue → List ℕ
columns_of calls (taken s) = lines_from tag_lines 1 (accepts_each s [] calls)
columns_of calls (refused n) = refusal_line n

unfoldable pub columns_text : List ℕ → List ℕ → List ℕ
columns_text sheet log = columns_of (calls_of log) (read_sheet sheet)

-- ---- a text put into a lent buffer

-- the length that is told, and the whole buffer afterwards
pub record Printed : Type 0 where
  pub size : ℕ
  pub buffer : List ℕ

abbrev pub printed_as : ℕ → List ℕ → Printed
printed_as size buffer = record { size = size; buffer = buffer }

-- the text's length, and the text at the buffer's front, later bytes staying
abbrev pub printed : List ℕ → List ℕ → Printed
printed text buffer = printed_as (length text) (text ++ drop (length text) buffer)

-- ---- *sort*: the bytes of the sorted sheet, its lines read in any order; refusals as in *watch*

pub record SortText (sheet text : List ℕ) : Type 0 where
  pub refuses : (n : ℕ) → read_unordered sheet ≡ refused n → text ≡ refusal_line n
  pub sorts : (v : SheetValue) → read_unordered sheet ≡ taken v → (w : SheetValue) × Sorted v w × (text ≡ sheet_bytes w)

-- such a text was printed
pub record SortPrinted (sheet before : List ℕ) (size : ℕ) (after : List ℕ) : Type 0 where
  pub text : List ℕ
  pub sorts : SortText sheet text
  pub is : printed_as size after ≡ printed text before

-- there is no other
abbrev pub OneSortText : Type 0
OneSortText = (sheet t u : List ℕ) → SortText sheet t → SortText sheet u → t ≡ u

-- of a sheet that document 01's rules take: what is printed, opened by `open`, answers as the sheet itself, opened by `open_base` (document 02, Q-4)
abbrev pub SortTextAnswers : Type 0
SortTextAnswers = (sheet text : List ℕ) (v : SheetValue) → IsBytes sheet → read_base sheet ≡ taken v → SortText sheet text → AnsweredAlike read_base sheet read_sheet text

-- ---- how much of a file decides: whatever stands behind the first a bytes of a sheet and the first b of a log, the same is printed
pub record FrontDecides (a b : ℕ) : Type 0 where
  pub watch : (sheet log : List ℕ) → IsBytes sheet → IsBytes log → watch_text (take a sheet) (take b log) ≡ watch_text sheet log
  pub columns : (sheet log : List ℕ) → IsBytes sheet → IsBytes log → columns_text (take a sheet) (take b log) ≡ columns_text sheet log

-- the same of *sort* and the first a bytes of its sheet
abbrev pub SortFrontDecides : ℕ → Type 0
SortFrontDecides a = (sheet text : List ℕ) → IsBytes sheet → SortText (take a sheet) text → SortText sheet text
