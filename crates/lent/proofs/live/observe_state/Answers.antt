-- `observe_state` meets its contract: the monitor is found, observed in its own rows, and stored again where the instant was accepted. Assumes nothing.
use mathlib.Core.Bool.{false}
use lib.ListN.{length-replicate}
use Rattle.lent.proofs.live.Observing.{observed-none, room, observed-refused, keeping, observed-answered}
use Rattle.lent.proofs.live.observe_state.Goals as goal

pub returns-in_default : goal.returns-in_default
returns-in_default c = observed-none c.in_default.ensures c.args.bytes.now

-- ---- where one is found
pub observe_rows-told-requires : goal.observe_rows-told-requires
observe_rows-told-requires c = room c.in-Some.ensures (length-replicate 2048 false)

pub returns-in-Err : goal.returns-in-Err
returns-in-Err c = observed-refused c.in-Some.ensures c.observe_rows-told.ensures c.in-Err.is

pub keep_next-requires : goal.keep_next-requires
keep_next-requires c = keeping c.in-Some.ensures c.observe_rows-told.ensures c.in-Ok.is

pub returns-in-Ok : goal.returns-in-Ok
returns-in-Ok c = observed-answered c.in-Some.ensures c.observe_rows-told.ensures c.in-Ok.is c.keep_next.ensures
