-- Document 01, 'Remainder', and document 02's countdowns: what of a fitting filled run bears on the instants to come.
use Rattle.std.specs.Prelude.{Bool, false, ◌&&◌, ◌||◌, List, map, ℕ, ◌-◌, ltb, eqb, length}
use Rattle.std.specs.Bool.{beq}
use Rattle.records.specs.declared.line.Line.{Line}
use Rattle.records.specs.Line.{of_precedes, of_kills}
use Rattle.records.specs.Sheet.{SheetValue}
use Rattle.tesl.specs.Lists.{any, distinct, within, same_list, table}
use Rattle.tesl.specs.Run.{Filled, ticks_at}
use Rattle.tesl.specs.Fits.{eq_z, ticks_in, most_tag, Obligation, unmet, Countdown, run_countdowns}

pub record Remainder : Type 0 where
  -- the set of the unmet obligations
  pub owed : List Obligation
  -- the set of the ticks that are owed by count
  pub countdowns : List Countdown
  -- for each precedes line A's ticks minus B's; 0 for any other line
  pub leads : List ℕ
  -- for each clock, whether some kills line has stopped it
  pub stopped : List Bool

-- in a fitting run B is never ahead of A, so that this subtraction cuts nothing: `never-ahead`, theory's proofs/SameLeft.antt
abbrev pub lead_of : List Filled → Line → ℕ
lead_of run l = of_precedes 0 (λ A B. ticks_in A run - ticks_in B run) l

-- the line has stopped clock k: a kills line its B, once its A has ticked
abbrev pub stops : List Filled → ℕ → Line → Bool
stops run k l = of_kills false (λ A B. eqb B k && any (λ (g : Filled). ticks_at g A) run) l

unfoldable pub remainder : SheetValue → List Filled → Remainder
remainder s run = record {
  owed = unmet most_tag s.lines run;
  countdowns = run_countdowns s.lines run;
  leads = map (lead_of run) s.lines;
  stopped = table s.clocks (λ k. any (stops run k) s.lines);
}

-- ---- equality; equal obligations count once, and so do equal countdowns

abbrev pub same_obligation : Obligation → Obligation → Bool
same_obligation a b = eqb a.clock b.clock && eq_z a.due b.due && eqb a.on b.on

abbrev pub same_countdown : Countdown → Countdown → Bool
same_countdown a b = eqb a.clock b.clock && eqb a.wanted b.wanted && eqb a.on b.on

-- each of one set is in the other
abbrev pub same_sets : {A : Type 0} → (A → A → Bool) → List A → List A → Bool
same_sets same xs ys = within same xs ys && within same ys xs

unfoldable pub same_remainder : Remainder → Remainder → Bool
same_remainder a b =
    same_list eqb a.leads b.leads
    && (same_list beq a.stopped b.stopped
    && (same_sets same_obligation a.owed b.owed && same_sets same_countdown a.countdowns b.countdowns))

-- how many a set has
abbrev pub distinct_count : {A : Type 0} → (A → A → Bool) → List A → ℕ
distinct_count same xs = length (distinct same xs)

-- how many obligations a remainder owes, and how many countdowns it has
unfoldable pub owes : Remainder → ℕ
owes r = distinct_count same_obligation r.owed

unfoldable pub counts : Remainder → ℕ
counts r = distinct_count same_countdown r.countdowns

-- it has more than 8 of either
unfoldable pub overfull : Remainder → Bool
overfull r = ltb 8 (owes r) || ltb 8 (counts r)

-- it owes nothing, neither by a due nor by count
unfoldable pub is_clear : Remainder → Bool
is_clear r = eqb (owes r) 0 && eqb (counts r) 0
