-- What depends on a filling alone, and what a row becomes by it.
use Rattle.std.specs.Prelude.{List, map, Bool, false, ◌≡◌, ℕ, ◌≤◌, ◌<◌, T, ℤ, get_or, replicate, drop, take}
use Rattle.records.specs.Line.{blank_line}
use Rattle.records.specs.Sheet.{SheetValue}
use Rattle.tesl.specs.Lists.{filter}
use Rattle.tesl.specs.Run.{Filled}
use Rattle.tesl.specs.Fits.{most_tag}
use Rattle.work.specs.Advanced.{Advanced, fails, over, onto}
use Rattle.work.specs.View.{filled_of, used_part}
use Rattle.work.specs.Lines.{all_stopped, small_leads}
use Rattle.work.specs.Carried.{need_of, gain_of, loss_of}
use Rattle.work.specs.Owed.{Owings, begun_by, each_once}
use Rattle.work.specs.Parts.{is_rule, Leading}
use Rattle.work.specs.Work.{advanced}
use Rattle.step.specs.declared.advance.Next.{Next}
use Rattle.step.specs.declared.advance.Next.TheVariants.{Fails, Over, Onto}
use Rattle.step.specs.declared.filling.Filling.{Filling}
use Rattle.lines.specs.declared.plan.Plan.{Plan}
use Rattle.remainders.specs.View.{countdown_of, first_of}
use Rattle.lines.specs.Plan.{Planned}
use Rattle.remainders.specs.Rows.{width, row_of, FewInRow, FlagsKept, Between, Stays}

-- the instant, and what its delay lines and its counted lines begin
abbrev pub filled_instant : Filling → Filled
filled_instant f = filled_of f.ticks f.tags

abbrev pub begun_in : Filling → Owings
begun_in f = record { owed = first_of f.owed f.begun; countdowns = map countdown_of (drop f.owed (take f.count f.begun)) }

-- ---- what was gathered of a filling is what the sheet's lines make of it
pub record GatheredFor (v : SheetValue) (p : Plan) (f : Filling) : Type 0 where
  pub as_many : p.clocks ≡ v.clocks
  pub few-clocks : v.clocks ≤ 8
  pub leading : Leading v p.leaders p.precede
  pub begins : begun_in f ≡ each_once (begun_by most_tag v.lines (filled_instant f))
  pub ends : f.stops ≡ all_stopped f.ticks (filter is_rule v.lines) (replicate 8 false)
  pub needed : (k : ℕ) → k < p.leaders → get_or f.needs k 0 ≡ need_of f.ticks (get_or v.lines k blank_line)
  pub gained : (k : ℕ) → k < p.leaders → get_or f.gains k 0 ≡ gain_of f.ticks (get_or v.lines k blank_line)
  pub lost : (k : ℕ) → k < p.leaders → get_or f.losses k 0 ≡ loss_of f.ticks (get_or v.lines k blank_line)

-- what was gathered of a filling, in every sheet that the plan is of
pub record Gathered (lines : List ℕ) (p : Plan) (ticks : List Bool) (tags : List ℤ) (f : Filling) : Type 0 where
  pub ticked : f.ticks ≡ ticks
  pub tagged : f.tags ≡ tags
  pub ordered : f.owed ≤ f.count
  pub few : f.count ≤ 16
  pub asked : (v : SheetValue) → Planned v p lines → GatheredFor v p f

-- ---- a row that goes on, in every sheet that the plan and the filling are of

-- what became of a row, built in row `to`
abbrev pub next_of : SheetValue → Next → List ℕ → ℕ → Advanced
next_of v Fails rows to = fails
next_of v Over rows to = over
next_of v Onto rows to = onto (used_part v (row_of rows to))

-- row i, and another to build in
pub record Advancing (rows : List ℕ) (i to : ℕ) (f : Filling) : Type 0 where
  pub between : Between rows i to
  pub few : FewInRow rows i
  pub ordered : f.owed ≤ f.count
  pub begun : f.count ≤ 16

-- the row that it becomes; the other rows stay
pub record AdvancedRow (p : Plan) (f : Filling) (i to : ℕ) (r : Next) (a b : List ℕ) : Type 0 where
  pub stays : Stays to 0 width a b
  pub few : r ≡ Onto → FewInRow b to
  pub flags : FlagsKept a b
  pub row : (v : SheetValue) → GatheredFor v p f → T (small_leads (used_part v (row_of a i))) → next_of v r b to ≡ advanced v (filled_instant f) (begun_in f) (used_part v (row_of a i))
