-- The first k of the stopped clocks are stored.
use Rattle.std.proofs.Common.{◌≡◌, ℕ, List, Bool, false, ◌||◌, get_or}
use Rattle.remainders.specs.Word.{flag_of, flag_word}
use Rattle.remainders.specs.Rows.{stopped_part, parts_end, row_stop}
use Rattle.remainders.proofs.rows.Storing.{Storing}
use Rattle.step.proofs.advance.stopped_on.Given as goal

abbrev pub Either : List ℕ → List Bool → ℕ → ℕ → ℕ → Type 0
Either rows stops i k w = (flag_of w ≡ (row_stop rows i k || get_or stops k false)) × (w ≡ flag_word (flag_of w))

abbrev pub invariant-loop-k : goal.invariant-loop-k
invariant-loop-k l = Storing (Either l.initial.rows l.stops l.i) l.to stopped_part parts_end l.initial.rows l.rows l.k
