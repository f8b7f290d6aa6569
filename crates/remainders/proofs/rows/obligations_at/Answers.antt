-- What the places hold, as a list.
use Rattle.std.proofs.Common.{sym, ◌∙◌, arith}
use Rattle.remainders.specs.declared.obligation.Obligation as code
use Rattle.remainders.specs.View.{blank_obligation}
use Rattle.remainders.proofs.Places.{as_is}
use Rattle.remainders.proofs.rows.Placing.{first-listed}
use Rattle.remainders.proofs.rows.obligations_at.Goals as goal

pub returns : goal.returns
returns c =
    let w = c.loop-j.invariant in
    record {
      first = sym (as_is _) ∙ first-listed (λ (o : code.Obligation). o) _ blank_obligation _ c.args.n (omega (arith, w.size)) (λ j h. w.places j (omega arith));
      rest = λ j h. w.rest j (omega arith);
    }
