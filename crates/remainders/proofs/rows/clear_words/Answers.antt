-- Past the last place the words are the same.
use Rattle.std.proofs.Common.{arith}
use Rattle.remainders.proofs.rows.clear_words.Goals as goal

pub returns : goal.returns
returns c =
    let w = c.loop-q.invariant in
    record { size = w.cleared.size; zero = λ x l m. w.cleared.zero x l (omega arith); same = λ x f. w.cleared.same x (λ l m. f l (w.inside x l m)) }
