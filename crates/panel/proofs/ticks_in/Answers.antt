-- The chain asks each of the first n.
use Rattle.std.proofs.Common.{◌∙◌, arith, eqb, rules, take}
use Rattle.std.proofs.lemmas.Iterator.{YieldsList-from_slice}
use Rattle.std.proofs.lemmas.Iterator.Search.{any_from_yields_List}
use Rattle.remainders.specs.declared.obligation.Obligation.{Obligation}
use Rattle.panel.proofs.Laws.{any-std}
use Rattle.panel.proofs.ticks_in.Goals as goal

-- the chain's answer is that of the list
pub returns : goal.returns
returns c =
    let clock = c.args.clock in
    let places = take c.args.n c.args.owed in
    any_from_yields_List (λ (o : Obligation). eqb o.clock clock) _ _ _ c.any.ensures.ran (YieldsList-from_slice places (c.iter.ensures.rest ∙ grind arith)) (λ x b q k. search rules)
    ∙ any-std (λ (o : Obligation). eqb o.clock clock) places
