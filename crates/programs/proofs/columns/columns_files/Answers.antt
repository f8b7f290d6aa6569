-- The bytes read decide, since the rooms are large enough.
use Rattle.std.proofs.Common.{arith}
use Rattle.programs.proofs.Files.{columns-printed}
use Rattle.programs.proofs.columns.columns_files.Goals as goal

pub returns : goal.returns
returns c = columns-printed (omega arith) (omega arith) _ _ c.columns_text.ensures
