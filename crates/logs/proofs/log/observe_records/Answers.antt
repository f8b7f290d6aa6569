-- `observe_records`: the record at each place is observed; refused, it ends the log, and else its answer's bytes are stored. Assumes nothing.
use Rattle.std.proofs.Common.{◌∙◌, sym, subst, arith, pos}
use Rattle.records.proofs.record.Span.{the-record}
use Rattle.remainders.specs.Unused.{BlankFrom}
use Rattle.judge.specs.declared.progress.Progress.{Progress}
use Rattle.logs.proofs.log.Laws.{writing_more, written-end, written-refused}
use Rattle.logs.proofs.log.observe_records.Goals as goal

pub returns-in_default : goal.returns-in_default
returns-in_default c =
    let w = c.loop-at.invariant in
    let h = the-record _ _ c.record_bytes-record.ensures c.loop-at-test.true in
    let told = c.observe_rows-told.ensures in
    record {
      room = told.room;
      size = w.size;
      follows = λ v ready. written-refused (w.writing v ready) w.size h (told.called v (w.ready v ready)) c.in_default.is;
      ready = λ v ready. told.ready v (w.ready v ready);
      tags = λ v ready blank. subst (λ (k : Progress). BlankFrom v.clocks (pos 0) k.tags) (sym (told.refused _ c.in_default.is).0) (w.tags v ready blank);
    }

pub loop-at-smaller : goal.loop-at-smaller
loop-at-smaller c = omega (arith, (the-record _ _ c.record_bytes-record.ensures c.loop-at-test.true).some)

pub loop-at-preserved : goal.loop-at-preserved
loop-at-preserved c =
    let w = c.loop-at.invariant in
    let h = the-record _ _ c.record_bytes-record.ensures c.loop-at-test.true in
    let told = c.observe_rows-told.ensures in
    record {
      few = omega (arith, w.few, h.some);
      ends = h.within;
      most = c.put_entry-end.ensures.most;
      size = c.put_entry-end.ensures.size ∙ w.size;
      room = told.room;
      writing = λ v ready. writing_more (w.writing v ready) w.size h (told.called v (w.ready v ready)) c.in-Ok.is c.put_entry-end.ensures;
      ready = λ v ready. told.ready v (w.ready v ready);
      tags = λ v ready blank. told.tags v (w.ready v ready) _ c.in-Ok.is;
    }

pub returns : goal.returns
returns c =
    let w = c.loop-at.invariant in
    record { room = w.room; size = w.size; follows = λ v ready. written-end (w.writing v ready) w.size c.loop-at-test.false; ready = w.ready; tags = w.tags }
