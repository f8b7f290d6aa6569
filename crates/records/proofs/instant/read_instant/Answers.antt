-- Each way through the code is a law of `read_instant`. Assumes nothing.
use mathlib.Core.Path.{◌∙◌, sym}
use native.Mathlib.Omega.{arith}
use Rattle.records.proofs.record.Laws.{whole-at, part-from}
use Rattle.records.proofs.instant.Laws.{read-4, read-torn, read-12, read_whole}
use Rattle.records.proofs.instant.read_instant.Goals as goal

pub returns-then-not-clock_count : goal.returns-then-not-clock_count
returns-then-not-clock_count c = read-4 _ _ (sym c.if-not-clock_count.ensures)

pub returns-in_default : goal.returns-in_default
returns-in_default c = read-torn _ _ (sym c.if-not-clock_count.ensures) (sym c.in_default.ensures)

pub overflow_add-record : goal.overflow_add-record
overflow_add-record c = omega (arith, (whole-at _ 0 (sym c.in-Some.ensures)).fits)

pub returns-then-bytes-record : goal.returns-then-bytes-record
returns-then-bytes-record c = read-12 _ _ (sym c.if-not-clock_count.ensures) (sym c.in-Some.ensures) c.if-bytes-record.true

pub returns : goal.returns
returns c = c.read_body.ensures ∙ rw part-from (read_whole _ _ (sym c.if-not-clock_count.ensures) (sym c.in-Some.ensures) c.if-bytes-record.false)
