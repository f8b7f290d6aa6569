-- `sort_sheet`: a law for each answer. Assumes nothing.
use Rattle.std.proofs.lemmas.Result.{err_from_is_err_and}
use Rattle.records.proofs.word.Bytes.{each-byte}
use Rattle.records.proofs.sort.Answers.{bytes-sortable, bytes-refused, bytes-sorted}
use Rattle.records.proofs.sort.sort_sheet.Goals as goal

pub returns-in_err-sheet : goal.returns-in_err-sheet
returns-in_err-sheet c =
    let p = err_from_is_err_and c.from_residual.result c.from_residual.ensures.1 in
    rw (p.1, p.2) (bytes-refused c.args.bytes.now c.in_err-sheet.ensures c.args.buffer.now)

pub sort_lines-requires : goal.sort_lines-requires
sort_lines-requires c = bytes-sortable c.args.bytes.now (each-byte c.args.bytes.now (λ i. (c.type_inv.bytes i).fits)) c.in_ok-sheet.ensures

pub returns : goal.returns
returns c = bytes-sorted c.args.bytes.now (each-byte c.args.bytes.now (λ i. (c.type_inv.bytes i).fits)) c.in_ok-sheet.ensures c.sort_lines.ensures c.write_sheet.ensures
