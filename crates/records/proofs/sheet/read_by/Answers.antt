-- `read_by`: a law for each answer. Assumes nothing.
use Rattle.std.proofs.Common.{sym, arith}
use Rattle.records.proofs.sheet.Reading.{sheet-1, sheet-2, sheet-3, sheet-4, sheet-lines, sheet-fits}
use Rattle.records.proofs.sheet.read_by.Goals as goal

pub returns-in_default : goal.returns-in_default
returns-in_default c = sheet-1 c.args.order c.args.last c.args.bytes.now c.in_default.ensures

pub returns-then-record-ne-CLOCKS : goal.returns-then-record-ne-CLOCKS
returns-then-record-ne-CLOCKS c = sheet-2 c.args.order c.args.last c.args.bytes.now c.in-Some.ensures c.if-record-ne-CLOCKS.true

pub returns-then-record-ne-CLOCKS_BODY : goal.returns-then-record-ne-CLOCKS_BODY
returns-then-record-ne-CLOCKS_BODY c = sheet-3 c.args.order c.args.last c.args.bytes.now c.in-Some.ensures c.if-record-ne-CLOCKS.false c.if-record-ne-CLOCKS_BODY.true

pub bounds-bytes-4 : goal.bounds-bytes-4
bounds-bytes-4 c = omega (arith, sheet-fits c.args.order c.args.last c.args.bytes.now c.in-Some.ensures)

pub returns-then-not-clock_count : goal.returns-then-not-clock_count
returns-then-not-clock_count c =
    sheet-4 c.args.order c.args.last c.args.bytes.now c.in-Some.ensures c.if-record-ne-CLOCKS.false c.if-record-ne-CLOCKS_BODY.false (sym c.if-not-clock_count.ensures)

pub read_lines-requires : goal.read_lines-requires
read_lines-requires c = omega (arith, sheet-fits c.args.order c.args.last c.args.bytes.now c.in-Some.ensures)

pub returns : goal.returns
returns c =
    sheet-lines c.args.order c.args.last c.args.bytes.now c.in-Some.ensures c.if-record-ne-CLOCKS.false c.if-record-ne-CLOCKS_BODY.false (sym c.if-not-clock_count.ensures)
    c.read_lines.ensures
