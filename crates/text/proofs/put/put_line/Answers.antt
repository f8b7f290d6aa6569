-- `put_line`: what is copied is the line. Assumes nothing.
use Rattle.std.proofs.Common.{◌∙◌, arith}
use lib.Seq.{length-take-le}
use Rattle.records.proofs.Store.{puts-part}
use Rattle.text.specs.Text.{text_of}
use Rattle.text.proofs.put.put_line.Goals as goal

pub returns : goal.returns
returns c =
    let size = length-take-le c.args.t.len c.args.t.bytes (omega arith) in
    record {
      ends = omega (arith, size);
      stored = puts-part c.args.out.now c.args.at _ (text_of c.args.t) _ c.copy_from_slice.ensures.after (size ∙ omega arith) (omega (arith, size));
    }
