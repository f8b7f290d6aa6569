-- A byte string, byte by byte. Assumes nothing.
use mathlib.Core.Path.{◌≡◌, refl, ◌∙◌}
use mathlib.Core.List.{List, [], ◌∷◌}
use Prim.Native.Nat.{ℕ, zero, suc, ◌≤◌, ◌<◌}
use native.Mathlib.Omega.{arith}
use lib.ListN.{length, get_or, take}
use lib.Seq.{take_all}
use Rattle.records.specs.Lists.{listed}
use Rattle.records.specs.Word.{at}
use Rattle.records.specs.Types.{IsByte, IsBytes}
use Rattle.records.proofs.Lists.{listed-take}

pub byte_at : (b : List ℕ) → IsBytes b → (i : ℕ) → IsByte (at b i)
byte_at [] h i = omega arith
byte_at (x ∷ b) h zero = h.0
byte_at (x ∷ b) h (suc i) = byte_at b h.1 i

pub first-bytes : (b : List ℕ) (n : ℕ) → n ≤ length b → listed (at b) n ≡ take n b
first-bytes b n l = listed-take 0 (at b) n b l (λ i l. refl)

pub all-bytes : (b : List ℕ) (n : ℕ) → length b ≡ n → listed (at b) n ≡ b
all-bytes b n e = first-bytes b n (omega arith) ∙ take_all n b (omega arith)

-- the bytes of a slice are bytes: each fits its type
pub each-byte : (b : List ℕ) → ((i : ℕ) → get_or b i 0 < 256) → IsBytes b
each-byte [] h = tt
each-byte (x ∷ b) h = (h 0, each-byte b (λ i. h (suc i)))
