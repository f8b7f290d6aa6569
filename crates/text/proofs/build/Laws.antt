-- Bytes added to a text, one part after the other. Assumes nothing.
use mathlib.Core.List.{List, [], ◌∷◌, ◌++◌, append-nil, append_assoc}
use mathlib.Core.Path.{◌≡◌, sym, ap, ◌∙◌}
use Prim.Native.Nat.{ℕ, ◌+◌, ◌≤◌, ◌<◌}
use native.Mathlib.Numerals.{add-one}
use native.Mathlib.Omega.{arith}
use lib.ListN.{length, take, set, get_or, length-append}
use lib.Seq.{take-suc, take-suc-set}
use Rattle.text.specs.declared.build.Text.{Text}
use Rattle.text.specs.Text.{text_of}
use Rattle.text.specs.Built.{Adds}

-- no bytes
pub nothing : (t : Text) → t.len ≤ 64 → Adds t [] t
nothing t h = record { len = omega arith; text = sym (append-nil (text_of t)); within = h }

-- some bytes and then others
pub and_then : {t r s : Text} {a b : List ℕ} → Adds t a r → Adds r b s → Adds t (a ++ b) s
and_then {t} {a = a} {b = b} f g =
    record {
      len = omega (arith, f.len, g.len, length-append a b);
      text = g.text ∙ ap (λ (x : List ℕ). x ++ b) f.text ∙ append_assoc (text_of t) a b;
      within = g.within;
    }

-- the same bytes
pub alike : {t r : Text} {a b : List ℕ} → Adds t a r → a ≡ b → Adds t b r
alike f e = rw e at f

-- a byte stored just past the text
pub one_more : (t : Text) (byte : ℕ) → t.len < length t.bytes → text_of (record { len = t.len + 1; bytes = set t.bytes t.len byte }) ≡ text_of t ++ (byte ∷ [])
one_more t byte h = rw (add-one, take-suc-set t.bytes t.len byte h)

-- the first i + 1 bytes of a word
pub next-byte : {t r s : Text} (word : List ℕ) (i : ℕ) → i < length word → Adds t (take i word) r → Adds r (get_or word i 0 ∷ []) s → Adds t (take (i + 1) word) s
next-byte word i h f g = alike (and_then f g) (sym (rw (add-one, take-suc word i 0 h)))

-- a line begun from nothing
pub made : {t r : Text} {a b : List ℕ} → t.len ≡ 0 → Adds t a r → a ≡ b → (r.len ≤ 64) × (text_of r ≡ b)
made e f g = (f.within, f.text ∙ rw (e, g))
