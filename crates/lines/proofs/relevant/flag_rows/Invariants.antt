-- The flags of all rows are what those from k on add.
use Rattle.std.proofs.Common.{◌≡◌, ℕ, ◌+◌}
use Rattle.work.specs.Relevant.{flagged}
use Rattle.remainders.specs.Rows.{row_clocks, rows_clocks}
use Rattle.lines.proofs.relevant.Laws.{named_from}
use Rattle.lines.proofs.relevant.flag_rows.Given as goal

abbrev pub invariant-loop-k : goal.invariant-loop-k
invariant-loop-k l = flagged (rows_clocks l.rows l.from l.n) l.initial.flags ≡ named_from (λ (i : ℕ). row_clocks l.rows (l.from + i)) (λ (i : ℕ). i) l.n l.k l.flags
