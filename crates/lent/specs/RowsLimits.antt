-- The limits of remainders in rows, refusal 11, tested where they stand.
use Rattle.std.specs.Prelude.{Bool, false, not, ◌||◌, List, ◌≡◌, ℕ, ◌+◌, leb, get_or, Option}
use Rattle.records.specs.Sheet.{SheetValue}
use Rattle.tesl.specs.Lists.{below}
use Rattle.lines.specs.declared.plan.Plan.{Plan}
use Rattle.judge.specs.Limits.{stored_within, remainder_within, held_within}
use Rattle.lines.specs.Plan.{Planned}
use Rattle.remainders.specs.Rows.{row_obligation, row_lead}
use Rattle.judge.specs.Progress.{row_remainder, rows_held}

-- place j of a part of row i, and the lead of line k, which only precedes lines have
abbrev pub place_fits : ℕ → ℕ → ℕ → List ℕ → ℕ → ℕ → ℕ → Bool
place_fits clocks least most rows i part j = stored_within clocks least most (row_obligation rows i part j)

abbrev pub lead_fits : List Bool → ℕ → List ℕ → ℕ → ℕ → Bool
lead_fits precede instants rows i k = not (get_or precede k false) || leb (row_lead rows i k) instants

-- whether row i is within its limits, for every sheet that the plan is of
abbrev pub RowWithin : Plan → ℕ → List ℕ → ℕ → Bool → Type 0
RowWithin p instants rows i r = (v : SheetValue) (lines : List ℕ) → Planned v p lines → r ≡ remainder_within v instants (row_remainder rows i)

-- n rows
abbrev pub EachRowWithin : Plan → ℕ → List ℕ → ℕ → ℕ → Bool → Type 0
EachRowWithin p instants rows from n r = (v : SheetValue) (lines : List ℕ) → Planned v p lines → r ≡ below n (λ k. remainder_within v instants (row_remainder rows (from + k)))

-- those held
abbrev pub RowsWithin : Plan → ℕ → List ℕ → ℕ → Option ℕ → Bool → Type 0
RowsWithin p instants rows from count r = (v : SheetValue) (lines : List ℕ) → Planned v p lines → r ≡ held_within v instants count (rows_held count rows from).remainders
