-- `put_stopped`: the first k flags are stored. Assumes nothing.
use Rattle.std.proofs.Common.{◌≡◌, ℕ, false, get_or}
use Rattle.remainders.specs.Word.{flag_of}
use Rattle.remainders.specs.Rows.{stopped_part, parts_end}
use Rattle.remainders.proofs.rows.Storing.{Storing}
use Rattle.judge.proofs.stored.put_stopped.Given as goal

abbrev pub invariant-loop-k : goal.invariant-loop-k
invariant-loop-k l = Storing (λ (k w : ℕ). flag_of w ≡ get_or l.fn.stopped k false) l.i stopped_part parts_end l.fn.rows l.rows l.k
