-- `sorted_sheet`: a law for each answer. Assumes nothing.
use Rattle.std.proofs.lemmas.Result.{err_from_is_err_and}
use Rattle.records.proofs.sort.Answers.{value-sortable, value-refused, value-sorted}
use Rattle.records.proofs.sort.sorted_sheet.Goals as goal

pub returns-in_err-check_sheet : goal.returns-in_err-check_sheet
returns-in_err-check_sheet c =
    let p = err_from_is_err_and c.from_residual.result c.from_residual.ensures.1 in
    rw (p.1, p.2) (value-refused c.args.sheet c.in_err-check_sheet.ensures)

pub sort_lines-requires : goal.sort_lines-requires
sort_lines-requires c = value-sortable c.args.sheet c.in_ok-check_sheet.ensures

pub returns : goal.returns
returns c = value-sorted c.args.sheet c.in_ok-check_sheet.ensures c.sort_lines.ensures
