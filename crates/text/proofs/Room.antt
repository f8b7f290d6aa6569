-- How long the whole text gets: at most 4,000 instants' lines, each of bounded length, and a refusal's. Assumes nothing.
use mathlib.Core.List.{List, [], ◌∷◌, ◌++◌, map}
use mathlib.Core.Path.{◌≡◌, refl, ap, ◌∙◌, subst}
use Prim.Native.Nat.{ℕ, suc, ◌+◌, ◌-◌, ◌*◌, ◌/◌, ◌≤◌, ◌<◌}
use native.Mathlib.Omega.{arith}
use native.Mathlib.Nat.{suc-mul}
use lib.IntN.{ℤ, pos, negsuc}
use lib.ListN.{length, length-append}
use Rattle.records.specs.Outcome.{Outcome, taken, refused}
use Rattle.records.specs.Word.{unsigned, raw_of}
use Rattle.records.specs.Record.{Piece, whole, torn, pieces, record_bytes}
use Rattle.records.specs.declared.order.Order.TheVariants.{Rising}
use Rattle.records.specs.Sheet.{SheetValue, read_sheet}
use Rattle.records.specs.Instant.{instant_bytes}
use Rattle.records.specs.Types.{All, IsTag, IsBytes, IsInstant}
use Rattle.records.proofs.record.Inverse.{IsBody, pieces-bodies}
use Rattle.records.proofs.sheet.Front.{read_number}
use Rattle.records.proofs.instant.Front.{taken-short}
use Rattle.records.proofs.instant.RoundTrip.{read-writes}
use Rattle.tesl.specs.Lists.{flat_map}
use Rattle.tesl.specs.Run.{Instant, tags_of}
use Rattle.tesl.specs.Answer.{Answer, exhausted, broken, holding, clear, owed, most_live, answer}
use Rattle.tesl.specs.Machine.{accepts, call_of, calls_of}
use Rattle.theory.proofs.Answers.{holding-few}
use Rattle.theory.proofs.Accepted.{taken_next, refused-number}
use Rattle.text.specs.Text.{line, live, answer_line, refusal_line, cents, hundredths, column_line}
use Rattle.text.specs.Output.{watch_text, columns_text}
use Rattle.text.proofs.build.Digits.{length_digits}
use Rattle.text.proofs.Walk.{walked_by, walked, walked_all, watch_lines, columns_lines, watch-walk, columns-walk}

-- ---- lines

-- 'refused', a space, a number of at most 2 digits and the end
pub refusal-short : (n : ℕ) → n ≤ 99 → length (refusal_line n) ≤ 11
unfolding line
refusal-short n h = simp length-append (omega (arith, length_digits 1 n (omega arith)))

-- a number of at most 4 digits, 'holding', a live of at most 2, 'clear', three spaces and the end
answer-short : (m : ℕ) (a : Answer) → m ≤ 4000 → live a ≤ 32 → length (answer_line m a) ≤ 22
unfolding line
answer-short m exhausted h l = simp length-append (omega (arith, length_digits 3 m (omega arith), length_digits 0 0 (omega arith)))
answer-short m broken h l = simp length-append (omega (arith, length_digits 3 m (omega arith), length_digits 0 0 (omega arith)))
answer-short m (holding n clear) h l = simp length-append (omega (arith, length_digits 3 m (omega arith), length_digits 1 n (omega arith)))
answer-short m (holding n owed) h l = simp length-append (omega (arith, length_digits 3 m (omega arith), length_digits 1 n (omega arith)))

live-most : (s : SheetValue) (run : List Instant) → live (answer s run) ≤ 32
live-most s run = by_answer (answer s run) refl
  where
    by_answer : (a : Answer) → answer s run ≡ a → live a ≤ 32
    by_answer exhausted e = omega arith
    by_answer broken e = omega arith
    by_answer (holding n standing) e = holding-few most_live s run e

-- at most 3 digits, the point and 2
cents-short : (n : ℕ) → n ≤ 32768 → length (cents n) ≤ 6
unfolding cents
cents-short n h = simp length-append (omega (arith, length_digits 2 (n / 100) (omega arith)))

hundredths-short : (t : ℤ) → IsTag t → length (hundredths t) ≤ 7
unfolding hundredths
hundredths-short (pos n) h = omega (arith, cents-short n (omega arith))
hundredths-short (negsuc n) h = omega (arith, cents-short (suc n) (omega arith))

raw-small : (t : ℤ) → IsTag t → raw_of t < 65536
unfolding unsigned
raw-small (pos n) h = omega arith
raw-small (negsuc n) h = omega arith

column-short : (t : ℤ) → IsTag t → length (column_line t) ≤ 14
unfolding line
column-short t h = simp length-append (omega (arith, length_digits 4 (raw_of t) (omega (arith, raw-small t h)), hundredths-short t h))

tags-short : (i : Instant) → IsInstant i → length (flat_map column_line (tags_of i)) ≤ 14 * length i
tags-short [] h = omega arith
tags-short (c ∷ i) h = rw length-append (omega (arith, column-short c.tag h.0, tags-short i h.1))

-- ---- the walk

-- the lines of an instant that a call is taken for are at most w bytes
abbrev Narrow : (List Instant → Instant → List ℕ) → ℕ → SheetValue → List ℕ → Type 0
Narrow lines w s bytes = (run : List Instant) (i : Instant) → accepts s run bytes ≡ taken i → length (lines run i) ≤ w

module _ (lines : List Instant → Instant → List ℕ) (w : ℕ) (s : SheetValue) where
  -- j instants may still be taken
  walked-room : (j : ℕ) (run : List Instant) (calls : List (List ℕ)) → length run + j ≡ 4000 → All (Narrow lines w s) calls → length (walked lines s run calls) ≤ j * w + 11
  unfolding walked
  walked-room j run [] h each = omega arith
  walked-room j run (bytes ∷ calls) h each = by-outcome (accepts s run bytes) refl (λ k run' l. walked-room k run' calls l each.1)
    where
      by-outcome : (o : Outcome Instant) → accepts s run bytes ≡ o
          → ((k : ℕ) (run' : List Instant) → length run' + k ≡ 4000 → length (walked lines s run' calls) ≤ k * w + 11)
          → length (walked_by lines run (λ run'. walked lines s run' calls) o) ≤ j * w + 11
      by-outcome (refused n) e later = omega (arith, refusal-short n (omega (arith, refused-number s run bytes e)))
      by-outcome (taken i) e later =
          let r = (taken_next s run bytes e).next.room in
          let m : j ≡ suc (j - 1) = omega arith in
          let more : j * w ≡ (j - 1) * w + w = ap (λ (k : ℕ). k * w) m ∙ suc-mul (j - 1) w in
          rw length-append (omega (arith, each.0 run i e, later (j - 1) (run ++ (i ∷ [])) (omega (arith, length-append run (i ∷ [])))))

all_room : (lines : SheetValue → List Instant → Instant → List ℕ) (w : ℕ) (sheet : List ℕ) (calls : List (List ℕ)) → ((s : SheetValue) → All (Narrow (lines s) w s) calls)
    → length (walked_all lines calls (read_sheet sheet)) ≤ 4000 * w + 11
all_room lines w sheet calls each = by-sheet (read_sheet sheet) refl
  where
    by-sheet : (o : Outcome SheetValue) → read_sheet sheet ≡ o → length (walked_all lines calls o) ≤ 4000 * w + 11
    by-sheet (taken s) e = walked-room (lines s) w s 4000 [] calls refl (each s)
    by-sheet (refused n) e = omega (arith, refusal-short n (omega (arith, read_number Rising 24 sheet e)))

-- ---- *watch*

all-narrow : (s : SheetValue) (calls : List (List ℕ)) → All (Narrow (watch_lines s) 22 s) calls
all-narrow s [] = tt
all-narrow s (bytes ∷ calls) = (λ run i e. answer-short (suc (length run)) (answer s (run ++ (i ∷ []))) (omega (arith, (taken_next s run bytes e).next.room)) (live-most s (run ++ (i ∷ []))), all-narrow s calls)

pub watch-room : (sheet log : List ℕ) → length (watch_text sheet log) ≤ 88011
watch-room sheet log = rw watch-walk (all_room watch_lines 22 sheet (calls_of log) (λ s. all-narrow s (calls_of log)))

-- ---- *columns*

one-narrow : (s : SheetValue) (p : Piece) → IsBody p → Narrow (columns_lines s) 112 s (call_of p)
unfolding instant_bytes
one-narrow s torn d run i e = absurd (omega (arith, ap length (read-writes s.clocks [] tt (taken_next s run [] e).next.read).bytes))
one-narrow s (whole kind body) d run i e =
    let n = taken_next s run (record_bytes kind body) e in
    let t = taken-short s.clocks kind body n.next.read in
    omega (arith, tags-short i (subst IsInstant n.cells (t.value d).1), ap length n.cells, t.few d)

records-narrow : (s : SheetValue) (ps : List Piece) → All IsBody ps → All (Narrow (columns_lines s) 112 s) (map call_of ps)
records-narrow s [] d = tt
records-narrow s (p ∷ ps) d = (one-narrow s p d.0, records-narrow s ps d.1)

pub columns-room : (sheet log : List ℕ) → IsBytes log → length (columns_text sheet log) ≤ 448011
columns-room sheet log d = rw columns-walk (all_room columns_lines 112 sheet (calls_of log) (λ s. records-narrow s (pieces log) (pieces-bodies log d)))
