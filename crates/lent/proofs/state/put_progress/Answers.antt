-- One part after the other is stored.
use Rattle.lent.proofs.state.Laws.{progress-put}
use Rattle.lent.proofs.state.put_progress.Goals as goal

pub returns : goal.returns
returns c =
    progress-put c.args.progress c.args.state.now c.requires.size (rw (c.put_word-2.ensures, c.put_word.ensures) at c.put_count.ensures) c.put_tags.ensures c.requires.side
