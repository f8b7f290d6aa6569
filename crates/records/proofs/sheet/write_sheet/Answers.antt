-- `write_sheet`: a law for each answer; bytes stored from place 0 on are the front of the buffer. Assumes nothing.
use Rattle.std.proofs.Common.{arith}
use Rattle.std.proofs.lemmas.Result.{err_from_is_err_and}
use Rattle.records.proofs.sheet.Writing.{few-lines, write-refused, write-10, write_done}
use Rattle.records.proofs.sheet.write_sheet.Goals as goal

pub returns-in_err-check_by : goal.returns-in_err-check_by
returns-in_err-check_by c =
    let p = err_from_is_err_and c.from_residual.result c.from_residual.ensures.1 in
    rw (p.1, p.2) (write-refused c.args.sheet c.args.buffer.now c.in_err-check_by.ensures)

pub sheet_size-size-requires : goal.sheet_size-size-requires
sheet_size-size-requires c = few-lines _ _ c.in_ok-check_by.ensures

pub returns-then-buffer-size : goal.returns-then-buffer-size
returns-then-buffer-size c = write-10 c.args.sheet c.args.buffer.now c.in_ok-check_by.ensures _ c.sheet_size-size.ensures c.if-buffer-size.true

pub put_sheet-requires : goal.put_sheet-requires
put_sheet-requires c = (few-lines _ _ c.in_ok-check_by.ensures, omega (arith, c.sheet_size-size.ensures))

pub returns : goal.returns
returns c = write_done c.args.sheet c.args.buffer.now c.in_ok-check_by.ensures _ c.sheet_size-size.ensures _ c.if-buffer-size.false c.put_sheet.ensures
