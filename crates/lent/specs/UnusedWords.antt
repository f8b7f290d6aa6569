-- Words that no remainder uses are zero, so nothing of earlier instants stays in them: `NothingBeside`.
use Rattle.std.specs.Prelude.{Bool, false, ◌&&◌, List, ◌≡◌, ℕ, ◌+◌, ◌≤◌, ◌<◌, ltb, get_or, Option}
use Rattle.lines.specs.declared.plan.Plan.{Plan}
use Rattle.remainders.specs.View.{live_count}
use Rattle.remainders.specs.Rows.{stopped_part, width, height, head_rows, word, row_lead, NothingInParts}

-- line k is a precedes line: before `leaders`, where there is a flag
abbrev pub lead_used : ℕ → List Bool → ℕ → Bool
lead_used leaders precede k = ltb k leaders && get_or precede k false

-- the words of row i that its remainder doesn't use are zero
pub record NothingInRow (p : Plan) (rows : List ℕ) (i : ℕ) : Type 0 where
  pub sets : NothingInParts rows i
  -- leads of lines that are no precedes lines
  pub leads : (k : ℕ) → k < 16 → lead_used p.leaders p.precede k ≡ false → row_lead rows i k ≡ 0
  -- stopped clocks from C on, and the words behind them
  pub rest : (q : ℕ) → stopped_part + p.clocks ≤ q → q < width → word rows i q ≡ 0

-- where `count` remainders are held from row `from` on: the rows of the two sides that hold none are zero, all of them once exhausted or broken
abbrev pub NothingElse : Option ℕ → ℕ → List ℕ → Type 0
NothingElse count from rows = (h q : ℕ) → head_rows ≤ h → h < height → q < width → (from ≤ h → h < from + live_count count → ⊥) → word rows h q ≡ 0

-- and every word of a row held that its remainder doesn't use
pub record NothingBeside (p : Plan) (count : Option ℕ) (from : ℕ) (rows : List ℕ) : Type 0 where
  pub others : NothingElse count from rows
  pub each : (k : ℕ) → k < live_count count → NothingInRow p rows (from + k)
