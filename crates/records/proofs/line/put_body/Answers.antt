-- `put_body`: what is copied is stored. Assumes nothing.
use Rattle.std.proofs.Common.{◌∙◌, take, arith}
use lib.Seq.{length-take-le}
use Rattle.records.proofs.Store.{puts-part}
use Rattle.records.proofs.line.put_body.Goals as goal

pub returns : goal.returns
returns c =
    puts-part c.args.buffer.now c.args.at _ (take c.args.n c.args.body) _ c.copy_from_slice.ensures.after
    (length-take-le c.args.n c.args.body (omega arith) ∙ omega arith) (omega arith)
