-- What the panel shows of a run: for a monitor of demand 3's calls, the number of the run's distinct remainders that owe the clock.
use Rattle.std.specs.Prelude.{List, ◌≢◌, ◌≡◌, ℕ}
use Rattle.records.specs.Outcome.{taken}
use Rattle.records.specs.Sheet.{SheetValue}
use Rattle.tesl.specs.Lists.{count}
use Rattle.tesl.specs.Run.{Instant}
use Rattle.tesl.specs.Answer.{exhausted, remainders, answer}
use Rattle.judge.specs.declared.monitor.Monitor.{Monitor}
use Rattle.judge.specs.Promises.{Follows}
use Rattle.panel.specs.Panel.{owes_clock, panel_count}

pub record ShowsRun (s : SheetValue) (run : List Instant) (m : Monitor) (clock : ℕ) : Type 0 where
  pub distinct : answer s run ≢ exhausted → panel_count clock m ≡ taken (count (owes_clock clock) (remainders s run))
  -- none is held once exhausted
  pub none : answer s run ≡ exhausted → panel_count clock m ≡ taken 0

-- for every sheet, run, monitor that follows them, and clock
abbrev pub PanelOfRun : Type 0
PanelOfRun = (s : SheetValue) (run : List Instant) (m : Monitor) (clock : ℕ) → Follows s run m → ShowsRun s run m clock
