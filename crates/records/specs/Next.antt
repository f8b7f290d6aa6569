-- The next instant of a run: what a record is read as where so many instants are held (document 01, 16; document 02, 19).
use Rattle.std.specs.Prelude.{ℕ, suc, Bool, true, not, List, [], ◌∷◌, leb, eqb}
use Rattle.records.specs.declared.form.Form.{Form}
use Rattle.records.specs.declared.form.Form.TheVariants.{Plain, Numbered}
use Rattle.records.specs.Outcome.{Outcome, taken, refused, Check, ◌⇒◌, decide}
use Rattle.records.specs.Instant.{InstantValue, read_instant}

-- a numbered record is the next if its number is one above the instants held; a plain one always is
abbrev pub is_next : ℕ → Form → Bool
is_next held Plain = true
is_next held (Numbered n) = eqb n (suc held)

-- 16: 4,000 instants held; 19: the number is not one above them
abbrev pub next_checks : ℕ → Form → List Check
next_checks held form = (leb 4000 held ⇒ 16) ∷ (not (is_next held form) ⇒ 19) ∷ []

-- what was read, if it is the next
abbrev pub if_next : ℕ → Outcome InstantValue → Outcome InstantValue
if_next held (refused n) = refused n
if_next held (taken v) = decide (next_checks held v.form) v

-- 4 and 12 to 15 as reading alone gives them, then 16, then 19
unfoldable pub read_next : ℕ → ℕ → List ℕ → Outcome InstantValue
read_next c held bytes = if_next held (read_instant c bytes)
