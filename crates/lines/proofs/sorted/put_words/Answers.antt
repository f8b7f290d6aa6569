-- Six words stored one behind the other.
use Rattle.lines.proofs.sorted.Rows.{put-there}
use Rattle.lines.proofs.sorted.put_words.Goals as goal

pub returns : goal.returns
returns c = put-there c.requires c.args.w
