-- A line's words are read as the line, where its fields are within their types. Assumes nothing.
use mathlib.Core.Path.{◌≡◌, ap, ◌∙◌}
use Prim.Native.Nat.{ℕ, ◌≤◌}
use native.Mathlib.Omega.{arith}
use lib.IntN.{ℤ, pos, negsuc}
use Rattle.records.specs.declared.line.Line.{Line}
use Rattle.records.specs.declared.line.Line.TheVariants.{Sporadic, Relation, Implies, Excludes, Delayed, Weakly, Strictly, Kills, Counted}
use Rattle.records.specs.Types.{IsByte, IsWord, IsTag, IsLineValue}
use Rattle.records.specs.Word.{unsigned, tag_of, raw_of}
use Rattle.records.proofs.word.Inverse.{tag-raw}
use Rattle.remainders.specs.Word.{byte_in, number_in}
use Rattle.lines.specs.declared.line_words.LineWords.{LineWords}
use Rattle.lines.specs.LineWords.{line_by, line_of_words, words_of, WordsOf}

clock-back : {c : ℕ} → IsByte c → byte_in c ≡ c
clock-back h = omega arith

count-back : {n : ℕ} → IsByte n → byte_in (number_in n) ≡ n
count-back h = omega arith

number-back : {n : ℕ} → IsWord n → number_in n ≡ n
number-back h = omega arith

raw-range : (t : ℤ) → IsTag t → IsWord (raw_of t)
unfolding unsigned
raw-range (pos n) h = omega arith
raw-range (negsuc n) h = omega arith

tag_back : (t : ℤ) → IsTag t → tag_of (number_in (raw_of t)) ≡ t
tag_back t h = ap tag_of (number-back (raw-range t h)) ∙ tag-raw h

back : (l : Line) → IsLineValue l → line_of_words (words_of l) ≡ l
unfolding line_by
back (Sporadic a b t) (p, q, h) = rw (clock-back p, clock-back q, tag_back t h)
back (Relation a b t u) (p, q, h, k) = rw (clock-back p, clock-back q, tag_back t h, tag_back u k)
back (Implies a b) (p, q) = rw (clock-back p, clock-back q)
back (Excludes a b) (p, q) = rw (clock-back p, clock-back q)
back (Delayed a b d by) (p, q, r, h) = rw (clock-back p, clock-back q, clock-back r, number-back h)
back (Weakly a b) (p, q) = rw (clock-back p, clock-back q)
back (Strictly a b) (p, q) = rw (clock-back p, clock-back q)
back (Kills a b) (p, q) = rw (clock-back p, clock-back q)
back (Counted a b d n) (p, q, r, h) = rw (clock-back p, clock-back q, clock-back r, count-back h)

kinds : (l : Line) → (16 ≤ (words_of l).kind) × ((words_of l).kind ≤ 24)
kinds (Sporadic a b t) = (omega arith, omega arith)
kinds (Relation a b t u) = (omega arith, omega arith)
kinds (Implies a b) = (omega arith, omega arith)
kinds (Excludes a b) = (omega arith, omega arith)
kinds (Delayed a b d by) = (omega arith, omega arith)
kinds (Weakly a b) = (omega arith, omega arith)
kinds (Strictly a b) = (omega arith, omega arith)
kinds (Kills a b) = (omega arith, omega arith)
kinds (Counted a b d n) = (omega arith, omega arith)

pub words-of : {l : Line} {w : LineWords} → IsLineValue l → w ≡ words_of l → WordsOf l w
words-of {l} h e = record { words = e; line = rw e (back l h); least = rw e (kinds l).0; most = rw e (kinds l).1 }
