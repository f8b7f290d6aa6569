-- The first j places hold the row's first j obligations, the others are blank.
use Rattle.std.proofs.Common.{◌≡◌}
use Rattle.remainders.specs.View.{blank_obligation}
use Rattle.remainders.specs.Rows.{row_obligation, part_number}
use Rattle.remainders.proofs.rows.Placing.{Placing}
use Rattle.remainders.proofs.rows.obligations_at.Given as goal

abbrev pub invariant-loop-j : goal.invariant-loop-j
invariant-loop-j l = Placing (λ k o. o ≡ row_obligation l.rows l.i (part_number l.part) k) blank_obligation 8 l.all l.j
