-- Those held say the last answer and are read back, where a monitor is found.
use Rattle.lent.proofs.live.Reading.{given-none, can-say, can-read, given-one}
use Rattle.lent.proofs.live.monitor_in.Goals as goal

pub returns-in_default : goal.returns-in_default
returns-in_default c = given-none c.in_default.ensures c.blank_sheet.ensures c.blank_monitor.ensures c.refuse.ensures

-- ---- where one is found
pub say_rows-requires : goal.say_rows-requires
say_rows-requires c = can-say c.in-Some.ensures

pub read_back-requires : goal.read_back-requires
read_back-requires c = can-read c.in-Some.ensures

pub returns : goal.returns
returns c = given-one c.in-Some.ensures c.sheet_in.ensures c.read_back.ensures c.say_rows.ensures
