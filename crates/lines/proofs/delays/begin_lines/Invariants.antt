-- What the first j lines begin is there.
use Rattle.remainders.specs.Word.{due_of}
use Rattle.lines.proofs.delays.Adding.{Adding}
use Rattle.lines.proofs.delays.begin_lines.Given as goal

abbrev pub invariant-loop-j : goal.invariant-loop-j
invariant-loop-j l = Adding (due_of l.most) l.ticks l.tags l.lines l.from l.n l.first l.initial.begun l.begun l.count l.j
