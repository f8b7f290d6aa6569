-- Those counted and those that the entries left still count are what the list counts.
use Rattle.std.proofs.Common.{◌≡◌, ◌+◌, ◌≤◌, drop}
use Rattle.panel.specs.Panel.{owing_count}
use Rattle.panel.proofs.owing.Given as goal

abbrev pub invariant-loop-r : goal.invariant-loop-r
invariant-loop-r l = (l.n ≤ l.r-index) × (l.n + owing_count l.clock (drop l.r-index l.list) ≡ owing_count l.clock l.list)
