-- `put_line`: the head and the body, one behind the other. Assumes nothing.
use Rattle.std.proofs.Common.{◌∙◌, ap}
use Rattle.records.specs.Line.{length_of}
use Rattle.records.proofs.line.Table.{line-length}
use Rattle.records.proofs.line.Laws.{line-stored}
use Rattle.records.proofs.line.put_line.Goals as goal

pub returns : goal.returns
returns c =
    let k = c.kind_of-kind.ensures in
    let n = c.length_of-n.ensures ∙ ap length_of k ∙ line-length c.args.l in
    line-stored c.args.l c.args.buffer.now _ _ c.args.at _ k n c.body_of.ensures.0 c.put_head.ensures c.put_body.ensures
