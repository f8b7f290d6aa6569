-- Six words are stored.
use Rattle.lent.proofs.state.Words.{words-put}
use Rattle.lent.proofs.state.put_line_words.Goals as goal

pub returns : goal.returns
returns c =
    rw (c.put_word-6.ensures, c.put_word-5.ensures, c.put_word-4.ensures, c.put_word-3.ensures, c.put_word-2.ensures, c.put_word.ensures)
    (words-put c.args.state.now c.args.k c.args.w c.requires c.told-state)
