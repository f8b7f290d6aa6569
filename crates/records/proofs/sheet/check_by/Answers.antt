-- `check_by`: a law for each answer. Assumes nothing.
use Rattle.std.proofs.Common.{sym}
use Rattle.records.proofs.sheet.Writing.{check-4, check-8, check-all}
use Rattle.records.proofs.sheet.check_by.Goals as goal

pub returns-then-not-clock_count : goal.returns-then-not-clock_count
returns-then-not-clock_count c = check-4 c.args.order c.args.sheet (sym c.if-not-clock_count.ensures)

pub returns-then-sheet-gt-MAX_LINES : goal.returns-then-sheet-gt-MAX_LINES
returns-then-sheet-gt-MAX_LINES c = check-8 c.args.order c.args.sheet (sym c.if-not-clock_count.ensures) c.if-sheet-gt-MAX_LINES.true

pub returns : goal.returns
returns c = check-all c.args.order c.args.sheet (sym c.if-not-clock_count.ensures) c.if-sheet-gt-MAX_LINES.false c.check_lines.ensures
