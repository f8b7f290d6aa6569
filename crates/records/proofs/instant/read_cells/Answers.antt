-- The clocks are read one by one, or refused at the first tick byte above 2. Assumes nothing.
use borrow.Author.Rules.{rules}
use native.Mathlib.Omega.{arith}
use Rattle.std.proofs.lemmas.Result.{err_from_is_err_and}
use Rattle.records.proofs.instant.Laws.{cells-start, cells-end, cells-no, cells-more}
use Rattle.records.proofs.instant.read_cells.Goals as goal

pub loop-i-init : goal.loop-i-init
loop-i-init c = cells-start c.args.form c.args.body.now c.args.clocks c.blank_instant-v.result c.requires.0 c.requires.1 c.blank_instant-v.ensures

pub returns-in_err-tick : goal.returns-in_err-tick
returns-in_err-tick c =
    let p = err_from_is_err_and c.from_residual.result c.from_residual.ensures.1 in
    rw (p.1, p.2) (cells-no c.args.body.now c.from-i-end.result c.loop-i.i c.loop-i.v (omega arith) c.loop-i.invariant c.loop-i-test.true c.in_err-tick.ensures)

pub loop-i-preserved : goal.loop-i-preserved
loop-i-preserved c =
    cells-more c.args.body.now c.from-i-end.result c.loop-i.i c.loop-i.v (omega arith) c.loop-i.invariant c.loop-i-test.true c.in_ok-tick.ensures
    c.with_cell-v.ensures c.tag_of-tag.ensures (search rules) c.word_at.ensures

pub returns : goal.returns
returns c = cells-end c.args.body.now c.from-i-end.result c.loop-i.i c.loop-i.v (omega arith) c.loop-i.invariant c.loop-i-test.false
