-- `push_cents`: the whole part, the point and two digits, one behind the other. Assumes nothing.
use Rattle.std.proofs.Common.{ℕ, ◌∷◌, ◌++◌, [], ◌/◌, ◌%◌, ap, ◌∙◌, arith}
use Rattle.text.specs.Text.{digit, decimal, cents}
use Rattle.text.specs.Built.{Adds}
use Rattle.text.proofs.build.Laws.{and_then, alike}
use Rattle.text.proofs.build.push_cents.Goals as goal

pub returns : goal.returns
unfolding cents
returns c =
    let n = c.args.n in
    let made : Adds c.args.t (cents n) c.push.result =
    alike (and_then c.push_decimal-whole.ensures.1 (and_then c.push_word-point.ensures (and_then c.push-tenths.ensures c.push.ensures)))
    (ap (λ (d : ℕ). decimal (n / 100) ++ (46 ∷ d ∷ c.digit_of-2.result ∷ [])) c.digit_of.ensures ∙ ap (λ (d : ℕ). decimal (n / 100) ++ (46 ∷ digit (n / 10 % 10) ∷ d ∷ [])) c.digit_of-2.ensures)
    in
    (omega (arith, made.len), made)
