-- Both programs print along one walk over a log's calls: lines for each instant taken, up to the first refusal. Assumes nothing.
use mathlib.Core.List.{List, [], ◌∷◌, ◌++◌}
use mathlib.Core.Path.{◌≡◌, refl, ap, ◌∙◌}
use Prim.Native.Nat.{ℕ, suc}
use native.Mathlib.Omega.{arith}
use lib.ListN.{length, length-append}
use Rattle.records.specs.Outcome.{Outcome, taken, refused}
use Rattle.records.specs.Sheet.{SheetValue, read_sheet}
use Rattle.tesl.specs.Run.{Instant}
use Rattle.tesl.specs.Answer.{answer}
use Rattle.tesl.specs.Machine.{accepts, list_after, reply, machine, accepts_each, opened_with, session, calls_of}
use Rattle.text.specs.Text.{answer_line, refusal_line}
use Rattle.text.specs.Output.{lines_from, watch_of, watch_text, tag_lines, columns_of, columns_text}

-- ---- the walk; the lines of an instant go by it and the instants before it

-- what is printed for a call, and for those after it
abbrev pub walked_by : (List Instant → Instant → List ℕ) → List Instant → (List Instant → List ℕ) → Outcome Instant → List ℕ
walked_by lines run rest (taken i) = lines run i ++ rest (run ++ (i ∷ []))
walked_by lines run rest (refused n) = refusal_line n

unfoldable pub walked : (List Instant → Instant → List ℕ) → SheetValue → List Instant → List (List ℕ) → List ℕ
walked lines s run [] = []
walked lines s run (bytes ∷ calls) = walked_by lines run (λ run'. walked lines s run' calls) (accepts s run bytes)

-- a refused sheet has one line
abbrev pub walked_all : (SheetValue → List Instant → Instant → List ℕ) → List (List ℕ) → Outcome SheetValue → List ℕ
walked_all lines calls (taken s) = walked (lines s) s [] calls
walked_all lines calls (refused n) = refusal_line n

-- ---- the two programs

abbrev pub watch_lines : SheetValue → List Instant → Instant → List ℕ
watch_lines s run i = answer_line (suc (length run)) (answer s (run ++ (i ∷ [])))

abbrev pub columns_lines : SheetValue → List Instant → Instant → List ℕ
columns_lines s run i = tag_lines (suc (length run)) i

module _ (s : SheetValue) where
  watch-from : (run : List Instant) (calls : List (List ℕ)) → lines_from answer_line (suc (length run)) (machine s run calls) ≡ walked (watch_lines s) s run calls
  unfolding lines_from machine walked
  watch-from run [] = refl
  watch-from run (bytes ∷ calls) = by-outcome (accepts s run bytes) (λ run'. watch-from run' calls)
    where
      by-outcome : (o : Outcome Instant) → ((run' : List Instant) → lines_from answer_line (suc (length run')) (machine s run' calls) ≡ walked (watch_lines s) s run' calls)
          → lines_from answer_line (suc (length run)) (reply s run o ∷ machine s (list_after run o) calls) ≡ walked_by (watch_lines s) run (λ run'. walked (watch_lines s) s run' calls) o
      by-outcome (refused n) ih = refl
      by-outcome (taken i) ih =
          let k : length (run ++ (i ∷ [])) ≡ suc (length run) = length-append run (i ∷ []) ∙ omega arith in
          ap (λ (text : List ℕ). watch_lines s run i ++ text) (rw k at (ih (run ++ (i ∷ []))))

  columns-from : (n : ℕ) (run : List Instant) (calls : List (List ℕ)) → lines_from tag_lines n (accepts_each s run calls) ≡ walked (columns_lines s) s run calls
  unfolding lines_from accepts_each walked
  columns-from n run [] = refl
  columns-from n run (bytes ∷ calls) = by-outcome (accepts s run bytes) (λ run'. columns-from (suc n) run' calls)
    where
      by-outcome : (o : Outcome Instant) → ((run' : List Instant) → lines_from tag_lines (suc n) (accepts_each s run' calls) ≡ walked (columns_lines s) s run' calls)
          → lines_from tag_lines n (o ∷ accepts_each s (list_after run o) calls) ≡ walked_by (columns_lines s) run (λ run'. walked (columns_lines s) s run' calls) o
      by-outcome (refused n) ih = refl
      by-outcome (taken i) ih = ap (λ (text : List ℕ). columns_lines s run i ++ text) (ih (run ++ (i ∷ [])))

pub watch-walk : (sheet log : List ℕ) → watch_text sheet log ≡ walked_all watch_lines (calls_of log) (read_sheet sheet)
unfolding watch_text session
watch-walk sheet log = by-sheet (read_sheet sheet)
  where
    by-sheet : (o : Outcome SheetValue) → watch_of (opened_with (calls_of log) o).opening (opened_with (calls_of log) o).replies ≡ walked_all watch_lines (calls_of log) o
    by-sheet (taken s) = watch-from s [] (calls_of log)
    by-sheet (refused n) = refl

pub columns-walk : (sheet log : List ℕ) → columns_text sheet log ≡ walked_all columns_lines (calls_of log) (read_sheet sheet)
unfolding columns_text
columns-walk sheet log = by-sheet (read_sheet sheet)
  where
    by-sheet : (o : Outcome SheetValue) → columns_of (calls_of log) o ≡ walked_all columns_lines (calls_of log) o
    by-sheet (taken s) = columns-from s 1 [] (calls_of log)
    by-sheet (refused n) = refl
