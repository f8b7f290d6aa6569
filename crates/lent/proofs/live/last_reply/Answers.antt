-- Those held say it, where a monitor is found.
use Rattle.lent.proofs.live.Reading.{said-none, can-say, said-one}
use Rattle.lent.proofs.live.last_reply.Goals as goal

pub returns-in_default : goal.returns-in_default
returns-in_default c = said-none c.in_default.ensures

pub say_rows-requires : goal.say_rows-requires
say_rows-requires c = can-say c.in-Some.ensures

pub returns : goal.returns
returns c = said-one c.in-Some.ensures c.say_rows.ensures
