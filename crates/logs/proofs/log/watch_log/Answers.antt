-- `watch_log`: the instants are counted first, and then the answers have room or nothing is written. Assumes nothing.
use Rattle.logs.proofs.log.Opening.{watched-short, watched-whole}
use Rattle.logs.proofs.log.watch_log.Goals as goal

pub returns-then-out-count : goal.returns-then-out-count
returns-then-out-count c = watched-short _ _ _ c.count_log-count.ensures c.if-out-count.true

pub returns : goal.returns
returns c = watched-whole _ _ _ c.count_log-count.ensures c.if-out-count.false c.observe_log-last.ensures
