-- None, one line more, and all of them.
use Rattle.std.proofs.Common.{◌≡◌, ◌+◌, ◌≤◌, cond, arith}
use Rattle.lines.proofs.sorted.Sorted.{sorted_none, sorted_more, sorted-next, sorted_all, both-fit}
use Rattle.lines.proofs.sorted.plan_of.Goals as goal
use Rattle.lines.proofs.sorted.plan_of.Goals.{then-leads, else-leads}

pub loop-i-init : goal.loop-i-init
loop-i-init c = sorted_none c.args.s c.args.lines.now c.requires.size

pub loop-i-preserved : goal.loop-i-preserved
loop-i-preserved c =
    let m = c.loop-i in
    let leaders : c.if-leads.leaders ≡ cond c.precedes-leads.result (m.i + 1) m.leaders = elim c.if-leads.branch [ then-leads w ↦ rw (w.leaders-is, w.if-leads.true) | else-leads w ↦ rw (w.leaders-is, w.if-leads.false) ] in
    sorted-next c.args.s m.i (sorted_more m.invariant (omega (arith, c.requires.few-lines)) c.words_of_line-w.ensures.line
    c.put_words.ensures c.put_part-relations.ensures c.put_part-rules.ensures c.put_part-delays.ensures c.put_part-counted.ensures
    c.is_relation.ensures c.is_rule.ensures c.is_delay.ensures c.is_counted.ensures
    c.precedes-leads.ensures leaders c.flag_line-flags.ensures)

pub returns : goal.returns
returns c =
    let all : c.loop-i.i ≡ c.args.s.count = omega arith in
    sorted_all c.args.s c.requires c.from.ensures (rw all at c.loop-i.invariant)

-- no part of at most sixteen lines has more
pub invariant_of-result : goal.invariant_of-result
invariant_of-result c =
    let w = c.loop-i.invariant in
    let few : c.loop-i.i ≤ 16 = omega (arith, c.requires.few-lines) in
    record { few_clocks = rw c.from.ensures c.requires.few-clocks; few_leaders = omega (arith, w.leaders); few_relations = omega (arith, w.few-relations); few_rules = omega (arith, w.few-rules); few_begin = omega (arith, both-fit w, w.many) }
