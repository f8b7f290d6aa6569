-- The bytes read decide, since the room is large enough.
use Rattle.std.proofs.Common.{arith}
use Rattle.programs.proofs.Files.{sort-printed}
use Rattle.programs.proofs.sort.sort_file.Goals as goal

pub returns : goal.returns
returns c = sort-printed (omega arith) _ _ c.sort_text.ensures
