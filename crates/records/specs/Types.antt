-- What the types of the code give of a value, for theorems over the definitions: a number of antt has no bound of its own.
use Rattle.std.specs.Prelude.{ℕ, ◌<◌, List, [], ◌∷◌, ℤ}
use Rattle.std.specs.Int.Signed.{mag}
use Rattle.records.specs.declared.form.Form.{Form}
use Rattle.records.specs.declared.form.Form.TheVariants.{Plain, Numbered}
use Rattle.records.specs.declared.line.Line.{Line}
use Rattle.records.specs.declared.line.Line.TheVariants.{Sporadic, Relation, Implies, Excludes, Delayed, Weakly, Strictly, Kills, Counted}
use Rattle.records.specs.Sheet.{SheetValue}
use Rattle.records.specs.Instant.{Cell, InstantValue}

-- P of each element
abbrev pub All : {A : Type 0} → (A → Type 0) → List A → Type 0
All P [] = Unit {0}
All P (x ∷ xs) = P x × All P xs

-- a u8, a u16, an i16 (`mag` is n of n and of - (n + 1))
abbrev pub IsByte : ℕ → Type 0
IsByte n = n < 256

abbrev pub IsWord : ℕ → Type 0
IsWord n = n < 65536

abbrev pub IsTag : ℤ → Type 0
IsTag t = mag t < 32768

abbrev pub IsBytes : List ℕ → Type 0
IsBytes b = All IsByte b

abbrev pub IsLineValue : Line → Type 0
IsLineValue (Sporadic a b t) = IsByte a × IsByte b × IsTag t
IsLineValue (Relation a b p q) = IsByte a × IsByte b × IsTag p × IsTag q
IsLineValue (Implies a b) = IsByte a × IsByte b
IsLineValue (Excludes a b) = IsByte a × IsByte b
IsLineValue (Delayed a b d by) = IsByte a × IsByte b × IsByte d × IsWord by
IsLineValue (Weakly a b) = IsByte a × IsByte b
IsLineValue (Strictly a b) = IsByte a × IsByte b
IsLineValue (Kills a b) = IsByte a × IsByte b
IsLineValue (Counted a b d n) = IsByte a × IsByte b × IsByte d × IsByte n

abbrev pub IsSheet : SheetValue → Type 0
IsSheet v = IsByte v.clocks × All IsLineValue v.lines

abbrev pub IsInstant : List Cell → Type 0
IsInstant cells = All (λ (c : Cell). IsTag c.tag) cells

abbrev pub IsForm : Form → Type 0
IsForm Plain = Unit {0}
IsForm (Numbered n) = IsWord n

abbrev pub IsInstantValue : InstantValue → Type 0
IsInstantValue v = IsForm v.form × IsInstant v.cells
