-- `start_row`: what all lines owe is added once what those from j on owe is added to what the row owes. Assumes nothing.
use Rattle.std.proofs.Common.{◌≡◌, ℕ, ◌≤◌, List}
use Rattle.records.specs.declared.sheet.Sheet.{Sheet}
use Rattle.records.specs.Sheet.{line_at, sheet_value}
use Rattle.tesl.specs.Lists.{flat_map}
use Rattle.tesl.specs.Fits.{owed_at_start}
use Rattle.work.specs.Owed.{added_all}
use Rattle.remainders.specs.Rows.{row_count, row_owed, PartStays}
use Rattle.lines.proofs.delays.Laws.{begun_from}
use Rattle.judge.proofs.start.start_row.Given as goal

pub record Starting (s : Sheet) (i : ℕ) (was rows : List ℕ) (j : ℕ) : Type 0 where
  pub few : row_count rows i 0 ≤ 8
  pub added : added_all (flat_map owed_at_start (sheet_value s).lines) (row_owed was i) ≡ added_all (begun_from owed_at_start (line_at s) s.count j) (row_owed rows i)
  pub stays : PartStays i 0 was rows

abbrev pub invariant-loop-j : goal.invariant-loop-j
invariant-loop-j l = Starting l.fn.s l.i l.fn.rows l.rows l.j
