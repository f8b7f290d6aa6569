-- Document 01, 'Programs': the bytes of a line of *watch* and of *columns*.
use Rattle.std.specs.Prelude.{ℕ, zero, suc, ◌+◌, ◌/◌, ◌%◌, cond, List, [], ◌∷◌, ◌++◌, ltb, take, ℤ, pos, negsuc}
use Prim.Native.Char.{code}
use Prim.Native.String.{String, [] as empty, ◌∷◌ as ◌then◌}
use Rattle.records.specs.Word.{raw_of}
use Rattle.tesl.specs.Answer.{Answer, exhausted, broken, holding, clear, owed}
use Rattle.text.specs.declared.build.Text.{Text}

-- the bytes of a struct: its first `len`
abbrev pub text_of : Text → List ℕ
text_of t = take t.len t.bytes

-- the ASCII codes of some words, and of a digit
abbrev pub ascii : String → List ℕ
ascii empty = []
ascii (c then s) = code c ∷ ascii s

abbrev pub digit : ℕ → ℕ
digit d = 48 + d

-- the digits of n without a zero in front, at most `most` of them; n + 1 are always enough
unfoldable pub digits : ℕ → ℕ → List ℕ
digits zero n = []
digits (suc most) n = cond (ltb n 10) (digit n ∷ []) (digits most (n / 10) ++ (digit (n % 10) ∷ []))

abbrev pub decimal : ℕ → List ℕ
decimal n = digits (suc n) n

-- a line of words, a space between
unfoldable pub line : List (List ℕ) → List ℕ
line [] = ascii "\n"
line (w ∷ []) = w ++ ascii "\n"
line (w ∷ v ∷ words) = w ++ (ascii " " ++ line (v ∷ words))

-- ---- *watch*

abbrev pub answer_word : Answer → List ℕ
answer_word exhausted = ascii "exhausted"
answer_word broken = ascii "broken"
answer_word (holding n s) = ascii "holding"

-- broken and exhausted have live 0 and '-'
abbrev pub live : Answer → ℕ
live exhausted = 0
live broken = 0
live (holding n s) = n

abbrev pub standing_word : Answer → List ℕ
standing_word exhausted = ascii "-"
standing_word broken = ascii "-"
standing_word (holding n clear) = ascii "clear"
standing_word (holding n owed) = ascii "owed"

-- number, answer, live, clear or owed
abbrev pub answer_line : ℕ → Answer → List ℕ
answer_line number a = line (decimal number ∷ answer_word a ∷ decimal (live a) ∷ standing_word a ∷ [])

-- 'refused' and its number
abbrev pub refusal_line : ℕ → List ℕ
refusal_line n = line (ascii "refused" ∷ decimal n ∷ [])

-- ---- *columns*

-- n hundredths, and a count of them with its sign
unfoldable pub cents : ℕ → List ℕ
cents n = decimal (n / 100) ++ (ascii "." ++ (digit (n / 10 % 10) ∷ digit (n % 10) ∷ []))

unfoldable pub hundredths : ℤ → List ℕ
hundredths (pos n) = cents n
hundredths (negsuc n) = ascii "-" ++ cents (suc n)

-- the raw word as unsigned, the count in hundredths of a degree
abbrev pub column_line : ℤ → List ℕ
column_line tag = line (decimal (raw_of tag) ∷ hundredths tag ∷ [])
