-- `count_instants`: the record at each place is read; refused, it ends the log. Assumes nothing.
use Rattle.std.proofs.Common.{sym, ◌∙◌, arith}
use Rattle.records.proofs.record.Span.{the-record}
use Rattle.logs.proofs.count.Laws.{counting_more, counted-end, counted-refused}
use Rattle.logs.proofs.count.count_instants.Goals as goal

pub returns-then-is_err : goal.returns-then-is_err
returns-then-is_err c = counted-refused c.loop-at.invariant (the-record _ _ c.record_bytes-record.ensures c.loop-at-test.true) _ c.read_next.ensures (sym c.is_err.ensures.value ∙ c.if-is_err.true)

pub loop-at-smaller : goal.loop-at-smaller
loop-at-smaller c = omega (arith, (the-record _ _ c.record_bytes-record.ensures c.loop-at-test.true).some)

pub loop-at-preserved : goal.loop-at-preserved
loop-at-preserved c = counting_more c.loop-at.invariant (the-record _ _ c.record_bytes-record.ensures c.loop-at-test.true) _ c.read_next.ensures (sym c.is_err.ensures.value ∙ c.if-is_err.false)

pub returns : goal.returns
returns c = counted-end c.loop-at.invariant c.loop-at-test.false
