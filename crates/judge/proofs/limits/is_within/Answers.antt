-- `is_within`: the limits are tried in turn. Assumes nothing.
use Rattle.std.proofs.Common.{arith, rules}
use borrow.Author.Tests.{lt-leb}
use Rattle.judge.proofs.limits.Within.{few-lines, within-not, within-many, within_held}
use Rattle.judge.proofs.limits.is_within.Goals as goal

pub held_within-requires : goal.held_within-requires
held_within-requires c = few-lines c.args.m c.check_sheet.result c.check_sheet.ensures (search rules)

pub returns-in-Err : goal.returns-in-Err
returns-in-Err c = within-not c.args.m c.check_sheet.result c.check_sheet.ensures c.in-Err.is

pub returns-then-m-le-MAX_INSTANTS : goal.returns-then-m-le-MAX_INSTANTS
returns-then-m-le-MAX_INSTANTS c = within_held c.args.m c.check_sheet.result c.check_sheet.ensures (search rules) (omega arith) c.held_within.ensures

pub returns-else-m-le-MAX_INSTANTS : goal.returns-else-m-le-MAX_INSTANTS
returns-else-m-le-MAX_INSTANTS c = rw (lt-leb _ _ c.if-m-le-MAX_INSTANTS.false) (within-many c.args.m c.check_sheet.result c.check_sheet.ensures (search rules) (omega arith))
