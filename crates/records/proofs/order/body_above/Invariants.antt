-- The bytes from i on decide.
use Rattle.std.proofs.Common.{◌≡◌}
use lib.ListN.{drop}
use Rattle.records.specs.Order.{above}
use Rattle.records.proofs.order.body_above.Given as goal

abbrev pub invariant-loop-i : goal.invariant-loop-i
invariant-loop-i l = above l.body l.other ≡ above (drop l.i l.body) (drop l.i l.other)
