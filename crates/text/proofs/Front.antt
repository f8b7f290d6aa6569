-- The first 65,704 bytes of a sheet and the first 185,539 of a log decide what is printed: of a log, 30 of each of 4,000 instants, and the longest record. Assumes nothing.
use mathlib.Core.List.{List, [], ◌∷◌, ◌++◌, map, append_assoc}
use mathlib.Core.Path.{◌≡◌, refl, sym, ◌∙◌}
use Prim.Native.Nat.{ℕ, ◌-◌, ◌≤◌}
use native.Mathlib.Omega.{arith}
use lib.ListN.{length, take, length-append}
use Rattle.records.specs.Outcome.{Outcome, taken, refused}
use Rattle.records.specs.Record.{Piece, record_bytes}
use Rattle.records.specs.declared.order.Order.TheVariants.{Rising, Any}
use Rattle.records.specs.Sheet.{SheetValue, read_sheet}
use Rattle.records.specs.Types.{IsBytes}
use Rattle.records.proofs.record.Front.{Turn, ends, goes, pieces-front}
use Rattle.records.proofs.sheet.Front.{read-front}
use Rattle.records.proofs.instant.Front.{taken-short}
use Rattle.tesl.specs.Run.{Instant}
use Rattle.tesl.specs.Machine.{accepts, call_of, calls_of}
use Rattle.theory.proofs.Accepted.{taken_next}
use Rattle.text.specs.Text.{refusal_line}
use Rattle.text.specs.Output.{FrontDecides, SortFrontDecides}
use Rattle.text.proofs.Walk.{walked, walked_all, watch_lines, columns_lines, watch-walk, columns-walk}

-- where the walk stands: what is printed so far, and the instants taken
record Place : Type 0 where
  text : List ℕ
  run : List Instant

module _ (lines : List Instant → Instant → List ℕ) (s : SheetValue) where
  -- all that is printed, from a place on
  abbrev whole-text : Place → List Piece → List ℕ
  whole-text at ps = at.text ++ walked lines s at.run (map call_of ps)

  abbrev left : Place → ℕ
  left at = 4000 - length at.run

  -- an instant that is taken has at most 30 bytes, and 4,000 of them are the most
  log-turn : (at : Place) (kind : ℕ) (body : List ℕ) → Turn whole-text left 30 at kind body
  unfolding walked
  log-turn at kind body = by-outcome (accepts s at.run (record_bytes kind body)) refl
    where
      by-outcome : (o : Outcome Instant) → accepts s at.run (record_bytes kind body) ≡ o → Turn whole-text left 30 at kind body
      by-outcome (refused n) e = ends (at.text ++ refusal_line n) (λ ps. rw e)
      by-outcome (taken i) e =
          let n = (taken_next s at.run (record_bytes kind body) e).next in
          let l = length-append at.run (i ∷ []) in
          let h = n.room in
          goes (record { text = at.text ++ lines at.run i; run = at.run ++ (i ∷ []) }) (omega arith) (taken-short s.clocks kind body n.read).bytes
          (λ ps. rw (e, append_assoc))

  log-front : (n : ℕ) (log : List ℕ) → IsBytes log → 185539 ≤ n → walked lines s [] (calls_of (take n log)) ≡ walked lines s [] (calls_of log)
  log-front n log d l = pieces-front whole-text left 30 log-turn 4000 n (record { text = []; run = [] }) log (omega arith) d (omega arith)

module _ (a b : ℕ) (k : 65704 ≤ a) (l : 185539 ≤ b) where
  text-front : (lines : SheetValue → List Instant → Instant → List ℕ) (sheet log : List ℕ) → IsBytes sheet → IsBytes log
      → walked_all lines (calls_of (take b log)) (read_sheet (take a sheet)) ≡ walked_all lines (calls_of log) (read_sheet sheet)
  text-front lines sheet log d e = rw (read-front Rising 24 a sheet d k) (by-sheet (read_sheet sheet))
    where
      by-sheet : (o : Outcome SheetValue) → walked_all lines (calls_of (take b log)) o ≡ walked_all lines (calls_of log) o
      by-sheet (taken s) = log-front (lines s) s b log e l
      by-sheet (refused n) = refl

  pub front-decides : FrontDecides a b
  front-decides = record {
    watch = λ sheet log d e. watch-walk (take a sheet) (take b log) ∙ text-front watch_lines sheet log d e ∙ sym (watch-walk sheet log);
    columns = λ sheet log d e. columns-walk (take a sheet) (take b log) ∙ text-front columns_lines sheet log d e ∙ sym (columns-walk sheet log);
  }

pub sort-front-decides : (a : ℕ) → 65704 ≤ a → SortFrontDecides a
sort-front-decides a k sheet text d s = let e = read-front Any 24 a sheet d k in record { refuses = λ n f. s.refuses n (e ∙ f); sorts = λ v f. s.sorts v (e ∙ f) }
