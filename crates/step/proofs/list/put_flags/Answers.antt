-- The flags copied are one filling more. Assumes nothing.
use Rattle.std.proofs.Common.{◌≡◌, ◌+◌, ◌*◌, ◌-◌, ◌≤◌, ◌∙◌, ap, length, arith, List, [], ◌∷◌, ◌++◌, Bool}
use Rattle.work.specs.Fillings.{fillings_in}
use Rattle.step.proofs.list.Laws.{same_size, filling-more}
use Rattle.step.proofs.list.put_flags.Goals as goal

pub returns : goal.returns
returns c =
    let n = c.args.n in
    let copied = c.copy_from_slice.ensures in
    let e : 8 * n + 8 - 8 * n ≡ 8 = omega arith in
    let h : 8 * n + 8 ≤ length c.args.list.now = omega (arith, c.requires.0, c.requires.1) in (
      same_size n _ c.args.list.now _ e copied.len h ∙ c.requires.0,
      filling-more n _ c.args.list.now _ e copied.len h ∙ ap (λ (ticks : List Bool). fillings_in c.args.list.now n ++ (ticks ∷ [])) copied.after,
    )
