-- `is_above`: lines of one kind by their bodies, else by their kinds. Assumes nothing.
use Rattle.records.proofs.order.Keys.{key-body, key-kind}
use Rattle.records.proofs.order.is_above.Goals as goal

pub returns-then-same_kind : goal.returns-then-same_kind
returns-then-same_kind c = key-body c.args.l c.args.other c.kind_of-kind.ensures c.kind_of-other_kind.ensures c.if-same_kind.true c.body_of.ensures.0 c.body_of-then-same_kind.ensures.0 c.body_above.ensures

pub returns : goal.returns
returns c = key-kind c.args.l c.args.other c.kind_of-kind.ensures c.kind_of-other_kind.ensures c.if-same_kind.false
