-- The bytes read decide, since the rooms are large enough.
use Rattle.std.proofs.Common.{arith}
use Rattle.programs.proofs.Files.{watch-printed}
use Rattle.programs.proofs.watch.watch_files.Goals as goal

pub returns : goal.returns
returns c = watch-printed (omega arith) (omega arith) _ _ c.watch_text.ensures
