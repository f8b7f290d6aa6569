-- What is added to a set one after the other: all is added once the rest is added to what is there so far. Assumes nothing.
use mathlib.Core.Bool.{Bool, true, false, not}
use mathlib.Core.List.{List, [], ◌∷◌}
use mathlib.Core.Option.{Option, none, some}
use mathlib.Core.Path.{◌≡◌, sym, ◌∙◌}
use borrow.Author.Tests.{not-true, not-false}
use Rattle.theory.specs.Adding.{onward, added_to, all_added_to}
use Rattle.remainders.specs.Rows.{provided}

module _ {E : Type 0} (same : E → E → Bool) (rest xs : List E) {whole : Option (List E)} (w : whole ≡ all_added_to same 8 rest xs) where
  pub rest_end : rest ≡ [] → some xs ≡ whole
  rest_end e = sym (w ∙ rw e)

  module _ {o : E} {more : List E} (e : rest ≡ o ∷ more) (b : Bool) (after : List E) (a : provided b after ≡ added_to same 8 xs o) where
    one : whole ≡ onward (all_added_to same 8 more) (provided b after)
    one = w ∙ rw (e, a)

    pub rest_over : not b ≡ true → none ≡ whole
    rest_over t = sym (one ∙ rw (not-true b t))

    pub rest_more : not b ≡ false → whole ≡ all_added_to same 8 more after
    rest_more t = one ∙ rw (not-false b t)
