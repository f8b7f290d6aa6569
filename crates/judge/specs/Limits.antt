-- Limits of a monitor (11), in document 01's order.
use Rattle.std.specs.Prelude.{Bool, true, false, ◌&&◌, List, ◌≡◌, ℕ, leb, ltb, take, None, Option, Some}
use Rattle.records.specs.declared.order.Order.TheVariants.{Any}
use Rattle.records.specs.Outcome.{Outcome, taken, refused, decide}
use Rattle.records.specs.Sheet.{SheetValue, sheet_value, sheet_value_checks}
use Rattle.records.specs.Types.{IsSheet}
use Rattle.tesl.specs.Lists.{all}
use Rattle.tesl.specs.Fits.{most_tag}
use Rattle.theory.specs.Limits.{least_tag, within_limits}
use Rattle.remainders.specs.declared.obligation.Obligation as code
use Rattle.remainders.specs.declared.remainder.Remainder as arrays
use Rattle.judge.specs.declared.monitor.Monitor.{Monitor}
use Rattle.remainders.specs.Word.{due_number}
use Rattle.remainders.specs.View.{view_of, few_owed}

abbrev pub is_taken : {A : Type 0} → Outcome A → Bool
is_taken (taken x) = true
is_taken (refused n) = false

-- a sheet value within its own, its lines in any order: 4, 8, 7, 18 and 9 don't apply
unfoldable pub sheet_within : SheetValue → Bool
sheet_within v = is_taken (decide (sheet_value_checks Any v) v)

-- as they are stored: clocks below C, and the number within bounds; those of dues, counted from the least tag, or those of ticks wanted
unfoldable pub stored_within : ℕ → ℕ → ℕ → code.Obligation → Bool
stored_within c least most o = (ltb o.clock c && ltb o.on c) && (leb least o.number && leb o.number most)

unfoldable pub least_due : ℕ
least_due = due_number least_tag

unfoldable pub most_due : ℕ
most_due = due_number most_tag

-- a set of at most eight, each within bounds
unfoldable pub set_within : ℕ → ℕ → ℕ → ℕ → List code.Obligation → Bool
set_within c least most n os = leb n 8 && all (stored_within c least most) os

-- obligations 0 to 8, countdowns 0 to 8; and each of them, and the leads of the precedes lines, as `within_limits` (theory, specs/Limits.antt) has it
unfoldable pub remainder_within : SheetValue → ℕ → arrays.Remainder → Bool
remainder_within v instants r = few_owed r && within_limits most_tag v.clocks instants (view_of v r)

-- live 0 to 32; none is held once exhausted
unfoldable pub held_within : SheetValue → ℕ → Option ℕ → List arrays.Remainder → Bool
held_within v instants None rs = true
held_within v instants (Some n) rs = leb n 32 && all (remainder_within v instants) (take n rs)

-- instants 0 to 4,000
unfoldable pub monitor_within : Monitor → Bool
monitor_within m =
    let v = sheet_value m.sheet in
    sheet_within v && (leb m.instants 4000 && held_within v m.instants m.held.count m.held.remainders)

-- what testing the limits tells: whether they are kept; and where they are, the types of the code bound the sheet's numbers
pub record Limited (m : Monitor) (r : Bool) : Type 0 where
  pub answer : r ≡ monitor_within m
  pub value : r ≡ true → IsSheet (sheet_value m.sheet)
