-- Lines, clocks and count are stored.
use Rattle.std.proofs.Common.{arith}
use Rattle.lent.proofs.state.Sheet.{sheet-put}
use Rattle.lent.proofs.state.put_sheet.Goals as goal

pub returns : goal.returns
returns c =
    rw (c.put_word-2.ensures, c.put_word.ensures, c.from.ensures)
    (sheet-put c.args.sheet c.args.state.now _ c.told-state c.requires (omega arith) c.put_lines.ensures)
