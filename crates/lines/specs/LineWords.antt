-- A line in six words: its kind, its clocks A, B and D, and two numbers. Every six words read as a line.
use Rattle.std.specs.Prelude.{cond, List, ◌≡◌, ℕ, ◌+◌, ◌≤◌, eqb, get_or}
use Rattle.records.specs.declared.line.Line.{Line}
use Rattle.records.specs.declared.line.Line.TheVariants.{Sporadic, Relation, Implies, Excludes, Delayed, Weakly, Strictly, Kills, Counted}
use Rattle.records.specs.Word.{tag_of, raw_of}
use Rattle.remainders.specs.Word.{byte_in, number_in}
use Rattle.lines.specs.declared.line_words.LineWords.{LineWords}

-- six words; those from place i on
abbrev pub words_by : ℕ → ℕ → ℕ → ℕ → ℕ → ℕ → LineWords
words_by kind a b d x y = record { kind = kind; a = a; b = b; d = d; x = x; y = y }

abbrev pub words_at : List ℕ → ℕ → LineWords
words_at ws i = words_by (get_or ws i 0) (get_or ws (i + 1) 0) (get_or ws (i + 2) 0) (get_or ws (i + 3) 0) (get_or ws (i + 4) 0) (get_or ws (i + 5) 0)

-- the line of a kind, with its clocks A, B and D and two numbers; tags as raw words; an unknown kind is kills
unfoldable pub line_by : ℕ → ℕ → ℕ → ℕ → ℕ → ℕ → Line
line_by kind a b d x y =
    cond (eqb kind 16) (Sporadic a b (tag_of x))
    (cond (eqb kind 17) (Relation a b (tag_of x) (tag_of y))
    (cond (eqb kind 18) (Implies a b)
    (cond (eqb kind 19) (Excludes a b)
    (cond (eqb kind 20) (Delayed a b d x)
    (cond (eqb kind 21) (Weakly a b)
    (cond (eqb kind 22) (Strictly a b)
    (cond (eqb kind 24) (Counted a b d (byte_in x)) (Kills a b))))))))

-- of a clock and of a count the last byte counts, of a kind and another number the last two
abbrev pub line_of_words : LineWords → Line
line_of_words w = line_by (number_in w.kind) (byte_in w.a) (byte_in w.b) (byte_in w.d) (number_in w.x) (number_in w.y)

-- a line's words; those it does without are 0
abbrev pub words_of : Line → LineWords
words_of (Sporadic a b t) = words_by 16 a b 0 (raw_of t) 0
words_of (Relation a b p q) = words_by 17 a b 0 (raw_of p) (raw_of q)
words_of (Implies a b) = words_by 18 a b 0 0 0
words_of (Excludes a b) = words_by 19 a b 0 0 0
words_of (Delayed a b d by) = words_by 20 a b d by 0
words_of (Weakly a b) = words_by 21 a b 0 0 0
words_of (Strictly a b) = words_by 22 a b 0 0 0
words_of (Kills a b) = words_by 23 a b 0 0 0
words_of (Counted a b d n) = words_by 24 a b d n 0

-- a line's words, and what they are read as
pub record WordsOf (l : Line) (w : LineWords) : Type 0 where
  pub words : w ≡ words_of l
  pub line : line_of_words w ≡ l
  pub least : 16 ≤ w.kind
  pub most : w.kind ≤ 24
