-- One set is cleared after the other.
use Rattle.std.proofs.Common.{arith}
use Rattle.lent.proofs.unused.Laws.{sets-start, sets_more}
use Rattle.lent.proofs.unused.clear_sets.Goals as goal
use Rattle.lent.proofs.unused.clear_sets.Goals.{After-row_count-owed}

pub returns : goal.returns
returns c =
    let first = sets_more (sets-start c.args.i c.args.rows.now) c.requires.1 (omega arith) c.row_count-owed.ensures c.clear_owed.ensures in
    let both = sets_more first c.requires.1 (omega arith) c.row_count-counting.ensures c.clear_owed-2.ensures in
    record { stays = both.stays; count = both.count; set = both.set; nothing = record { places = both.rest } }
