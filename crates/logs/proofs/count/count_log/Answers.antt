-- `count_log`: none of a refused sheet, else those counted. Assumes nothing.
use Rattle.logs.proofs.log.Opening.{none-counted, log-counted}
use Rattle.logs.proofs.count.count_log.Goals as goal

pub returns-in-Err : goal.returns-in-Err
returns-in-Err c = none-counted _ _ c.read_sheet.ensures c.in-Err.is

pub returns-in-Ok : goal.returns-in-Ok
returns-in-Ok c = log-counted _ _ c.read_sheet.ensures c.in-Ok.is c.count_instants.ensures
