-- A line more, and all of them.
use Rattle.std.proofs.Common.{sym, ap, ◌∙◌, arith}
use Rattle.lines.specs.Begun.{new_obligation}
use Rattle.lines.proofs.delays.Adding.{among, adding-none, adding-there, adding-more, adding-all}
use Rattle.lines.proofs.delays.begin_lines.Goals as goal
use Rattle.lines.proofs.delays.begin_lines.Goals.{in-Some+then-not-contains, in-Some+else-not-contains, in_default}

pub loop-j-preserved : goal.loop-j-preserved
loop-j-preserved c =
    let m = c.loop-j in
    let b = c.begins.ensures in
    elim c.match-begins.branch [
      | in-Some+then-not-contains w ↦ rw (w.begun-is, w.count-is)
          (adding-more _ _ _ _ _ _ _ _ m.invariant (omega arith) c.plan_line.ensures b.owed w.in-Some.o (sym (ap new_obligation w.in-Some.is) ∙ b.stored) w.contains.result
          (among w.in-Some.o c.args.first m.count m.begun m.invariant.ordered w.contains.ensures.value)
          (omega (arith, m.invariant.fewer)) w.if-not-contains.true)
      | in-Some+else-not-contains w ↦ rw (w.begun-is, w.count-is)
          (adding-there _ _ _ _ _ _ _ _ m.invariant (omega arith) c.plan_line.ensures b.owed w.in-Some.o (sym (ap new_obligation w.in-Some.is) ∙ b.stored) w.contains.result
          (among w.in-Some.o c.args.first m.count m.begun m.invariant.ordered w.contains.ensures.value)
          w.if-not-contains.false)
      | in_default w ↦ rw (w.begun-is, w.count-is) (adding-none _ _ _ _ _ _ _ _ m.invariant (omega arith) c.plan_line.ensures b.owed (sym (ap new_obligation w.in_default.is) ∙ b.stored))
    ]

pub returns : goal.returns
returns c = adding-all _ _ _ _ _ _ _ _ c.loop-j.invariant (omega arith)
