-- The row after those found is cleared, and what they don't use in their own rows.
use Rattle.judge.proofs.stored.Held.{small-live}
use Rattle.lent.proofs.unused.Sides.{found-live}
use Rattle.lent.proofs.unused.clear_found.Goals as goal

pub returns-in-Some : goal.returns-in-Some
returns-in-Some c =
    let small = small-live c.args.rows.now c.args.to c.in-Some.is c.requires.small in
    found-live c.in-Some.is small.0 small.1 c.clear_rows-in-Some.ensures c.clear_each.ensures
