-- `lesser`: a law for each answer. Assumes nothing.
use Rattle.std.proofs.Common.{sym}
use Rattle.records.proofs.sort.Laws.{next-no, next-first, next-lower, next-kept}
use Rattle.records.proofs.sort.lesser.Goals as goal

pub returns-then-not-above_last : goal.returns-then-not-above_last
returns-then-not-above_last c = next-no c.args.s c.args.sorted c.args.i c.args.least c.requires.1 c.requires.0 c.line_at-l.ensures (sym c.if-not-above_last.ensures)

pub returns-then-least-s : goal.returns-then-least-s
returns-then-least-s c = next-first c.args.s c.args.sorted c.args.i c.args.least c.requires.1 c.requires.0 c.line_at-l.ensures (sym c.if-not-above_last.ensures) c.if-least-s.true

pub returns-then-is_above : goal.returns-then-is_above
returns-then-is_above c =
    next-lower c.args.s c.args.sorted c.args.i c.args.least c.requires.1 c.requires.0 c.line_at-l.ensures (sym c.if-not-above_last.ensures) c.if-least-s.false c.line_at.ensures
    (sym c.if-is_above.ensures)

pub returns : goal.returns
returns c =
    next-kept c.args.s c.args.sorted c.args.i c.args.least c.requires.1 c.requires.0 c.line_at-l.ensures (sym c.if-not-above_last.ensures) c.if-least-s.false c.line_at.ensures
    (sym c.if-is_above.ensures)
