-- `begin_rows`: the row was blank but for what is added. Assumes nothing.
use Rattle.records.specs.Sheet.{sheet_value}
use Rattle.judge.proofs.start.Laws.{begun-rows}
use Rattle.judge.proofs.start.begin_rows.Goals as goal

pub returns : goal.returns
returns c = begun-rows c.requires (sheet_value c.args.s) c.start_row-room.ensures
