-- `say_rows`: a case of the count each. Assumes nothing.
use Rattle.std.proofs.Common.{arith}
use Rattle.judge.proofs.answer.Laws.{rows_none, rows-some}
use Rattle.judge.proofs.answer.say_rows.Goals as goal

pub returns-in-Some-eq0 : goal.returns-in-Some-eq0
returns-in-Some-eq0 c v = rows_none v c.args.rows.now c.args.from c.in-Some-eq0.is (omega arith)

pub returns-in-Some : goal.returns-in-Some
returns-in-Some c v = rows-some v c.args.rows.now c.args.from c.in-Some.is (rw c.in-Some.is at c.in-Some.n-test).1 (c.is_clear_in.ensures v)
