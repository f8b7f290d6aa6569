-- What is known of the row that is built, question by question. Assumes nothing.
use Rattle.std.proofs.Common.{arith}
use Rattle.step.proofs.advance.Row.{row-late, owed-left, row-missed, both_left, row-over, owed-begun, row-full, both-begun}
use Rattle.step.proofs.advance.Leads.{row-short, row-barred, lines-asked, row-onto}
use Rattle.step.proofs.advance.advance_row.Goals as goal
use Rattle.step.proofs.advance.advance_row.Goals.{then-not-leads_hold-via-then-not-leads_hold, then-not-leads_hold-via-else-not-leads_hold+then-is_barred}

pub returns-then-not-leads_hold : goal.returns-then-not-leads_hold
returns-then-not-leads_hold c =
    elim c.then-not-leads_hold.branch [
      | then-not-leads_hold-via-then-not-leads_hold w ↦ row-short _ _ _ _ c.leads_hold.ensures w.if-not-leads_hold.true
      | then-not-leads_hold-via-else-not-leads_hold+then-is_barred w ↦ row-barred _ _ _ _ c.leads_hold.ensures w.if-not-leads_hold.false w.is_barred.ensures w.if-is_barred.true
    ]

pub returns-then-not-put_left : goal.returns-then-not-put_left
returns-then-not-put_left c =
    let asked = lines-asked _ _ _ _ c.leads_hold.ensures c.if-not-leads_hold.false c.is_barred.ensures c.if-is_barred.false in
    row-late asked c.put_left.ensures c.if-not-put_left.true

pub returns-then-not-put_left-2 : goal.returns-then-not-put_left-2
returns-then-not-put_left-2 c =
    let few = c.requires.few 1 (omega arith) in
    let asked = lines-asked _ _ _ _ c.leads_hold.ensures c.if-not-leads_hold.false c.is_barred.ensures c.if-is_barred.false in
    let left = owed-left asked c.put_left.ensures c.if-not-put_left.false in
    row-missed left c.requires.between.apart few c.put_left-2.ensures c.if-not-put_left-2.true

pub returns-then-not-begin_part : goal.returns-then-not-begin_part
returns-then-not-begin_part c =
    let few = c.requires.few 1 (omega arith) in
    let asked = lines-asked _ _ _ _ c.leads_hold.ensures c.if-not-leads_hold.false c.is_barred.ensures c.if-is_barred.false in
    let left = owed-left asked c.put_left.ensures c.if-not-put_left.false in
    let both = both_left left c.requires.between.apart few c.put_left-2.ensures c.if-not-put_left-2.false in
    row-over both c.begin_part.ensures c.if-not-begin_part.true

pub returns-then-not-begin_part-2 : goal.returns-then-not-begin_part-2
returns-then-not-begin_part-2 c =
    let few = c.requires.few 1 (omega arith) in
    let asked = lines-asked _ _ _ _ c.leads_hold.ensures c.if-not-leads_hold.false c.is_barred.ensures c.if-is_barred.false in
    let left = owed-left asked c.put_left.ensures c.if-not-put_left.false in
    let both = both_left left c.requires.between.apart few c.put_left-2.ensures c.if-not-put_left-2.false in
    let begun = owed-begun both c.begin_part.ensures c.if-not-begin_part.false in
    row-full begun c.begin_part-2.ensures c.if-not-begin_part-2.true

pub returns : goal.returns
returns c =
    let p = c.requires in
    let few = c.requires.few 1 (omega arith) in
    let asked = lines-asked _ _ _ _ c.leads_hold.ensures c.if-not-leads_hold.false c.is_barred.ensures c.if-is_barred.false in
    let left = owed-left asked c.put_left.ensures c.if-not-put_left.false in
    let both = both_left left p.between.apart few c.put_left-2.ensures c.if-not-put_left-2.false in
    let begun = owed-begun both c.begin_part.ensures c.if-not-begin_part.false in
    row-onto (both-begun begun c.begin_part-2.ensures c.if-not-begin_part-2.false) p.between.apart c.args.plan.few_leaders c.lead_part.ensures c.stopped_on.ensures
