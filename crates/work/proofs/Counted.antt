-- Equality of remainders by counts, where neither has an obligation or a countdown twice. Assumes nothing.
use mathlib.Core.Bool.{Bool, true, false, ◌&&◌, beq, and-true, and-false}
use mathlib.Core.List.{List, [], ◌∷◌}
use mathlib.Core.Path.{◌≡◌, refl, ◌∙◌}
use lib.Dec.{T, eqb}
use Rattle.records.specs.Types.{All}
use Rattle.tesl.specs.Lists.{any, same_list}
use Rattle.tesl.specs.Remainder.{Remainder, same_obligation, same_countdown, same_sets, same_remainder}
use Rattle.theory.specs.Sets.{apart}
use Rattle.theory.proofs.Adding.{by_count}
use Rattle.theory.proofs.Respect.{owed-equivalence, count-equivalence}
use Rattle.work.specs.Work.{same_counted}

-- each obligation once, and each countdown
abbrev pub Once : Remainder → Type 0
Once r = T (apart same_obligation r.owed) × T (apart same_countdown r.countdowns)

-- three tests in another order
reordered : (a s l : Bool) → (a && (s && l)) ≡ (l && (s && a))
reordered a true true = and-true a
reordered a true false = and-false a
reordered a false true = and-false a
reordered a false false = and-false a

pub counted : (x r : Remainder) → Once x → Once r → same_counted x r ≡ same_remainder x r
unfolding same_counted same_remainder
counted x r a b =
    let s = same_list beq x.stopped r.stopped in
    let l = same_list eqb x.leads r.leads in
    (λ i. by_count same_obligation owed-equivalence x.owed r.owed a.0 b.0 i && by_count same_countdown count-equivalence x.countdowns r.countdowns a.1 b.1 i && (s && l))
    ∙ reordered (same_sets same_obligation x.owed r.owed && same_sets same_countdown x.countdowns r.countdowns) s l

pub any-counted : (x : Remainder) (rs : List Remainder) → Once x → All Once rs → any (same_counted x) rs ≡ any (same_remainder x) rs
any-counted x [] a b = refl
any-counted x (r ∷ rs) a b = rw (counted x r a b.0, any-counted x rs a b.1)
