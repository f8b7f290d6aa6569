-- `sort_text`: the sorted bytes have room, and a refused sheet has one line. Assumes nothing.
use Rattle.std.proofs.Common.{length, ap, ◌∙◌, arith}
use Rattle.records.specs.Refusal.{refusal_number}
use Rattle.records.specs.Types.{IsBytes}
use Rattle.records.proofs.word.Bytes.{each-byte}
use Rattle.text.specs.Text.{refusal_line}
use Rattle.text.proofs.Room.{refusal-short}
use Rattle.text.proofs.put.Laws.{put-bytes, put-end, put-once}
use Rattle.text.proofs.sort.Laws.{sort-done, sort-refused, sort-line}
use Rattle.text.proofs.sort.sort_text.Goals as goal

pub returns-in-Err : goal.returns-in-Err
returns-in-Err c =
    let bytes : IsBytes c.args.sheet.now = each-byte c.args.sheet.now (λ i. (c.type_inv.sheet i).fits) in
    let r = sort-refused _ bytes c.args.out.now (omega arith) _ _ c.sort_sheet.ensures c.in-Err.is in
    let line = c.refusal_line.ensures.1 ∙ ap refusal_line c.from.ensures in
    let short = refusal-short (refusal_number c.in-Err.refusal) (omega (arith, r.small)) in
    sort-line _ _ _ _ _ _ _ r (put-once (refusal_line _) _ (omega (arith, short, ap length r.same)) (put-bytes c.put_line.ensures line) (put-end c.put_line.ensures line))

pub returns-in-Ok : goal.returns-in-Ok
returns-in-Ok c =
    let bytes : IsBytes c.args.sheet.now = each-byte c.args.sheet.now (λ i. (c.type_inv.sheet i).fits) in
    sort-done _ bytes c.args.out.now (omega arith) _ _ c.sort_sheet.ensures c.in-Ok.is
