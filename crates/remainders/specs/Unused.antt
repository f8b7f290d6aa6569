-- Unused places hold one fixed blank, so nothing of earlier instants stays in them: beside its remainders a monitor keeps of the instants only their number, the last tags and the last answer.
use Rattle.std.specs.Prelude.{false, List, ◌≡◌, ℕ, ◌≤◌, get_or}
use Rattle.records.specs.Line.{blank_line}
use Rattle.records.specs.Sheet.{SheetValue}
use Rattle.work.specs.View.{in_use}
use Rattle.remainders.specs.declared.remainder.Remainder.{Remainder}
use Rattle.remainders.specs.View.{blank_obligation}

-- from place n on an array holds the blank d
abbrev pub BlankFrom : {A : Type 0} → ℕ → A → List A → Type 0
BlankFrom n d xs = (k : ℕ) → n ≤ k → get_or xs k d ≡ d

-- a remainder of a sheet keeps nothing in unused places
pub record NothingUnused (v : SheetValue) (r : Remainder) : Type 0 where
  -- obligations past its count
  pub obligations : BlankFrom r.owed blank_obligation r.obligations
  -- countdowns past its count
  pub countdowns : BlankFrom r.counting blank_obligation r.countdowns
  -- leads of lines that are no precedes lines
  pub leads : (k : ℕ) → get_or r.leads k 0 ≡ in_use (get_or v.lines k blank_line) (get_or r.leads k 0)
  -- stopped clocks from C on
  pub stopped : BlankFrom v.clocks false r.stopped
