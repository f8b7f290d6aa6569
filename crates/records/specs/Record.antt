-- A record is: length of the body (2 bytes), kind (2 bytes), body.
use Rattle.std.specs.Prelude.{ℕ, zero, suc, ◌+◌, ◌-◌, ◌<◌, ◌≤◌, ◌≡◌, Bool, cond, ◌||◌, ◌⊎◌, List, [], ◌∷◌, ◌++◌, length, take, drop, ltb, Option, Some, None}
use Rattle.records.specs.declared.record.Record.{Record}
use Rattle.records.specs.Word.{at, word_at, word_bytes}

-- a record of a byte string
pub data Piece : Type 0 where
  whole : (kind : ℕ) (body : List ℕ) → Piece
  torn : Piece

-- ---- what the records of a byte string are

-- at place i stands a whole record of a kind, with a body: the body's length in the bytes i and i + 1, the kind in the next two,
-- then the body, byte by byte
pub record Stands (b : List ℕ) (i kind : ℕ) (body : List ℕ) : Type 0 where
  pub body_length : length body ≡ word_at b i
  pub kind_number : kind ≡ word_at b (i + 2)
  pub body_bytes : (j : ℕ) → j < length body → at body j ≡ at b (i + 4 + j)
  pub all_there : i + 4 + length body ≤ length b

-- at place i stands a torn one: bytes remain, but fewer than 4, or fewer than its length after the 4
pub record Breaks (b : List ℕ) (i : ℕ) : Type 0 where
  pub some : i < length b
  pub short : (length b < i + 4) ⊎ (length b < i + 4 + word_at b i)

-- the records of b from place i on are these: none at the end; a whole one, and then those from the place behind it on;
-- or a torn one, and none behind it
abbrev pub Records : List ℕ → ℕ → List Piece → Type 0
Records b i [] = i ≡ length b
Records b i (whole kind body ∷ ps) = Stands b i kind body × Records b (i + 4 + length body) ps
Records b i (torn ∷ ps) = Breaks b i × (ps ≡ [])

-- ---- how they are found

-- the fields of the record at the front of some bytes
abbrev pub length_field : List ℕ → ℕ
length_field b = word_at b 0

abbrev pub kind_field : List ℕ → ℕ
kind_field b = word_at b 2

-- torn: fewer than 4 bytes remain, or fewer than its length after the 4
unfoldable pub is_torn : List ℕ → Bool
is_torn b = ltb (length b) 4 || ltb (length b - 4) (length_field b)

-- the record at the front of some bytes
unfoldable pub front : List ℕ → Piece
front b = cond (is_torn b) torn (whole (kind_field b) (take (length_field b) (drop 4 b)))

-- the records of b, one after the other, up to its end or to a torn one;
-- `cut k b` passes over the first k bytes, which belong to the record before
unfoldable pub cut : ℕ → List ℕ → List Piece
cut k [] = []
cut zero (x ∷ b) = front (x ∷ b) ∷ cond (is_torn (x ∷ b)) [] (cut (3 + length_field (x ∷ b)) b)
cut (suc k) (x ∷ b) = cut k b

abbrev pub pieces : List ℕ → List Piece
pieces b = cut 0 b

-- what is found are the records of b, and no other list is (proved as `pieces_are`)
pub record PiecesAre (b : List ℕ) : Type 0 where
  pub are : Records b 0 (pieces b)
  pub only : (ps : List Piece) → Records b 0 ps → ps ≡ pieces b

-- ---- the record at a place

-- each case of the answer: the kind and the length of the body, or none where it is torn
abbrev pub record_of : Piece → Option Record
record_of (whole kind body) = Some (record { kind = kind; len = length body })
record_of torn = None

-- the record at place i of a longer byte string, for every place
unfoldable pub record_at : List ℕ → ℕ → Option Record
record_at b i = record_of (front (drop i b))

-- the bytes of the record at the front of some bytes: its 4 and its body; of a torn one all that remain
abbrev pub span_of : List ℕ → Option Record → List ℕ
span_of b (Some r) = take (4 + r.len) b
span_of b None = b

-- the bytes of the record at place i, for every place; at the end and past it none remain
unfoldable pub record_span : List ℕ → ℕ → List ℕ
record_span b i = span_of (drop i b) (record_at b i)

-- p is the record at a place of a byte string, whole or torn, and nothing else; the next record begins behind it
-- p is not empty and lies within the byte string, so whoever goes on behind it comes to the end
pub record TheRecord (b : List ℕ) (i : ℕ) (p : List ℕ) : Type 0 where
  pub one : pieces p ≡ front (drop i b) ∷ []
  pub others : pieces (drop i b) ≡ front (drop i b) ∷ pieces (drop (i + length p) b)
  pub some : 0 < length p
  pub within : i + length p ≤ length b

-- a record's bytes
abbrev pub record_bytes : ℕ → List ℕ → List ℕ
record_bytes kind body = word_bytes (length body) ++ word_bytes kind ++ body
