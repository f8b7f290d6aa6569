-- `push_digits`: the digits before the last one, and the last. Assumes nothing.
use Rattle.std.proofs.Common.{ℕ, ◌/◌, ◌∷◌, ◌++◌, [], length, sym, ap, ◌∙◌, arith}
use Rattle.text.specs.Text.{decimal}
use Rattle.text.proofs.build.Digits.{decimal-one, decimal-more, longer}
use Rattle.text.proofs.build.Laws.{and_then, alike}
use Rattle.text.proofs.build.+push_digits.Goals as goal

pub push-requires : goal.push-requires
push-requires t c = omega (arith, ap length (decimal-one c.args.n c.if-n-lt10.true))

pub returns-then-n-lt10 : goal.returns-then-n-lt10
returns-then-n-lt10 t c = alike c.push.ensures (ap (λ d. d ∷ []) c.digit_of.ensures ∙ sym (decimal-one _ c.if-n-lt10.true))

pub push_digits-front-requires : goal.push_digits-front-requires
push_digits-front-requires t c = (omega arith, omega (arith, longer c.args.n c.if-n-lt10.false))

pub push-requires-2 : goal.push-requires-2
push-requires-2 t c = omega (arith, c.push_digits-front.ensures.len, longer c.args.n c.if-n-lt10.false)

pub returns : goal.returns
returns t c =
    let n = c.args.n in
    alike (and_then c.push_digits-front.ensures c.push-2.ensures) (ap (λ (d : ℕ). decimal (n / 10) ++ (d ∷ [])) c.digit_of-2.ensures ∙ sym (decimal-more n c.if-n-lt10.false))
