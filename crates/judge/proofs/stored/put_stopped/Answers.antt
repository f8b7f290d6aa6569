-- `put_stopped`: a flag stored, and all of them. Assumes nothing.
use Rattle.std.proofs.Common.{false, arith}
use Rattle.remainders.proofs.rows.Flags.{flag-back}
use Rattle.remainders.proofs.rows.Storing.{storing-start, storing-more}
use Rattle.remainders.proofs.rows.Placing.{listed-is}
use Rattle.judge.proofs.stored.put_stopped.Goals as goal

pub loop-k-init : goal.loop-k-init
loop-k-init c = storing-start _ _ _ _ _

pub loop-k-preserved : goal.loop-k-preserved
loop-k-preserved c =
    let s = c.requires in
    rw c.put_word.ensures (storing-more _ _ _ _ _ c.loop-k.invariant s.size s.row (omega arith) (omega arith) _ (flag-back _ c.flag_word.ensures))

pub returns : goal.returns
returns c =
    let w = c.loop-k.invariant in
    record { stays = w.stays; stopped = listed-is false _ 8 _ (omega arith) (λ k h. w.places k (omega arith)) }
