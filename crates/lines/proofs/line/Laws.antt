-- What a delay line begins whose A ticks: its due has a number, which is compared with that of the end of the scale. Assumes nothing.
use mathlib.Core.Bool.{Bool, true}
use mathlib.Core.List.{List, [], ◌∷◌}
use mathlib.Core.Path.{◌≡◌, ap, ◌∙◌}
use Prim.Native.Nat.{ℕ, ◌≤◌, ◌<◌}
use lib.IntN.{ℤ, pos, ◌+ℤ◌}
use lib.Signed.{le_z}
use lib.Dec.{leb}
use borrow.Author.Tests.{le-leb, lt-leb}
use Rattle.records.specs.declared.line.Line.{Line}
use Rattle.records.specs.declared.line.Line.TheVariants.{Delayed}
use Rattle.tesl.specs.Run.{tag_in}
use Rattle.work.specs.Questions.{tick_in}
use Rattle.remainders.specs.Word.{due_of}
use Rattle.lines.specs.Begun.{LineBegins}
use Rattle.remainders.proofs.obligation.Laws.{number-due, due-le}

module _ {l : Line} {A B D d : ℕ} (is : l ≡ Delayed A B D d) (ticks : List Bool) (tags : List ℤ) (t : tick_in ticks A ≡ true) (number : ℕ) (due : tag_in tags B +ℤ pos d ≡ due_of number) (most : ℕ) where
  compared : le_z (tag_in tags B +ℤ pos d) (due_of most) ≡ leb number most
  compared = ap (λ (z : ℤ). le_z z (due_of most)) due ∙ due-le number most

  pub begins-on-scale : number ≤ most → LineBegins (due_of most) ticks tags l (record { clock = D; on = B; number = number } ∷ [])
  begins-on-scale h =
      let on-scale = compared ∙ le-leb number most h in
      record { stored = rw (is, t, on-scale, due, number-due number); owed = λ e. rw (is, t, on-scale, due, number-due number) }

  pub begins-beyond : most < number → LineBegins (due_of most) ticks tags l []
  begins-beyond h =
      let beyond = compared ∙ lt-leb number most h in
      record { stored = rw (is, t, beyond); owed = λ e. rw (is, t, beyond) }
