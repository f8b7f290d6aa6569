-- The remainders that a monitor holds after a run: the run's, each once, in any order. Assumes nothing.
use Rattle.std.specs.Prelude.{List, ℤ}
use Rattle.std.proofs.Math.Option.{Option}
use Rattle.records.specs.Sheet.{SheetValue}
use Rattle.tesl.specs.Lists.{flat_map}
use Rattle.tesl.specs.Run.{Instant}
use Rattle.tesl.specs.Remainder.{Remainder, same_remainder}
use Rattle.tesl.specs.Answer.{remainders}
use Rattle.theory.specs.Sets.{EachOnce}
use Rattle.theory.specs.Step.{nexts}

abbrev pub Held : SheetValue → List Instant → List Remainder → Type 0
Held s run rs = EachOnce same_remainder rs (remainders s run)

-- what the held ones become under the fillings of an instant that may follow the last tags, repeats and all
unfoldable pub successors : SheetValue → Option (List ℤ) → Instant → List Remainder → List Remainder
successors s last i rs = flat_map (nexts s last i) rs
