-- `begin`: the plan of the sheet, the remainder of no instant in rows, and what it says. Assumes nothing.
use Rattle.judge.proofs.start.begin.Goals as goal

pub returns : goal.returns
returns c =
    record {
      plan = c.plan_of-plan.ensures;
      rows = c.begin_rows.ensures;
      progress = c.first_progress-progress.ensures;
      said = rw c.first_progress-progress.ensures at c.say_rows-said.ensures;
    }
