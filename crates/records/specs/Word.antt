-- Fields of two bytes, little-endian, and two's complement.
use Rattle.std.specs.Prelude.{ℕ, suc, ◌+◌, ◌-◌, ◌*◌, ◌/◌, ◌%◌, ◌^◌, cond, List, [], ◌∷◌, get_or, ℤ, pos, negsuc, ◌-ℤ◌, ltb}

-- byte i
abbrev pub at : List ℕ → ℕ → ℕ
at b i = get_or b i 0

-- the unsigned number of two bytes, low byte first; of the bytes i and i + 1; its two bytes
abbrev pub word_of : ℕ → ℕ → ℕ
word_of low high = high * 256 + low

abbrev pub word_at : List ℕ → ℕ → ℕ
word_at b i = word_of (at b i) (at b (i + 1))

abbrev pub word_bytes : ℕ → List ℕ
word_bytes w = w % 256 ∷ w / 256 ∷ []

-- two's complement of k bits: a word below 2 ^ (k - 1) is itself, and any other is less by 2 ^ k (negsuc n is - (n + 1))
unfoldable pub signed : ℕ → ℕ → ℤ
signed k w = cond (ltb w (2 ^ (k - 1))) (pos w) (negsuc (2 ^ k - suc w))

-- document 02's way to the same number, by arithmetic and no test: the word plus 2 ^ (k - 1), the remainder by 2 ^ k,
-- which counts from the least number, minus 2 ^ (k - 1). For a word of k bits it is `signed k` (`signed-by-remainder`)
abbrev pub from_least : ℕ → ℕ → ℕ
from_least k w = (w + 2 ^ (k - 1)) % 2 ^ k

abbrev pub signed_by_remainder : ℕ → ℕ → ℤ
signed_by_remainder k w = pos (from_least k w) -ℤ pos (2 ^ (k - 1))

-- the word of k bits of a signed number
unfoldable pub unsigned : ℕ → ℤ → ℕ
unsigned k (pos n) = n
unsigned k (negsuc n) = 2 ^ k - suc n

-- t, p, q and tags are signed 16-bit
abbrev pub tag_of : ℕ → ℤ
tag_of w = signed 16 w

abbrev pub raw_of : ℤ → ℕ
raw_of t = unsigned 16 t
