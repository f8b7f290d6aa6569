-- Each way through the code is a law of `write_instant`. Assumes nothing.
use mathlib.Core.Path.{sym}
use Prim.Native.Nat.{◌+◌, ◌*◌}
use native.Mathlib.Omega.{arith}
use Rattle.records.proofs.instant.Laws.{few-clocks}
use Rattle.records.proofs.instant.Stored.{length-instant, write-4, write-10, write_done}
use Rattle.records.proofs.instant.write_instant.Goals as goal

pub returns-then-not-clock_count : goal.returns-then-not-clock_count
returns-then-not-clock_count c = write-4 _ _ _ (sym c.if-not-clock_count.ensures)

pub returns-then-buffer-size : goal.returns-then-buffer-size
returns-then-buffer-size c =
    write-10 c.args.clocks c.args.instant c.args.buffer.now (sym c.if-not-clock_count.ensures) (4 + c.form_length.result + 3 * c.from.result) (omega arith) c.if-buffer-size.true

pub put_instant-requires : goal.put_instant-requires
put_instant-requires c = (few-clocks c.args.clocks (sym c.if-not-clock_count.ensures), omega (arith, length-instant c.args.clocks c.args.instant))

pub returns : goal.returns
returns c =
    write_done c.args.clocks c.args.instant c.args.buffer.now (sym c.if-not-clock_count.ensures) _ (omega arith) c.if-buffer-size.false c.put_instant.ensures
