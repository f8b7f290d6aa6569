-- The executable definition is TESL's: a filled run whose tags are within the scale fits exactly when no tag falls and each line holds, formula by formula. Assumes nothing.
use mathlib.Core.List.{List, [], ◌∷◌}
use mathlib.Core.Logic.Iff
use mathlib.Core.Logic.{◌↔◌}
use mathlib.Core.Option.{Option, some}
use mathlib.Core.Path.{◌≡◌, sym, ap, ◌∙◌, subst}
use Prim.Native.Nat.{ℕ, zero, suc, ◌<◌}
use native.Mathlib.Omega.{arith}
use lib.Dec.{T}
use lib.IntN.{ℤ}
use lib.Signed.{le_z, le_z_yes}
use lib.ListN.{length, take}
use lib.Seq.{take-suc}
use Rattle.records.specs.declared.line.Line.{Line}
use Rattle.records.specs.Sheet.{SheetValue}
use Rattle.tesl.specs.Run.{Filled}
use Rattle.tesl.specs.Fits.{last_tags, none_falls, most_tag, fits}
use Rattle.tesl.specs.Formula.{instant, tag, WithinScale, NoneFalls, EachHolds, no_instant}
use Rattle.tesl.proofs.FormulaLists.{below_at, below_of, last_of_snoc}
use Rattle.tesl.proofs.FormulaParts.{NoneFallsAt, EachPart, fits-by-line}
use Rattle.tesl.proofs.FormulaLines.{line-law}

falls-law : (C : ℕ) (run : List Filled) → NoneFallsAt C run ↔ NoneFalls C run
falls-law C run = (
  λ x K n k b. le_z_yes (below_at C (λ j. le_z (tag run j n) (tag run j (suc n))) (subst (λ (was : Option (List ℤ)). T (none_falls C was (instant run (suc n)).tags)) (before n b) (x (suc n) b)) K k),
  λ h. elim [
    | zero ↦ λ b. tt
    | suc n ↦ λ b. subst (λ (was : Option (List ℤ)). T (none_falls C was (instant run (suc n)).tags)) (sym (before n b))
        (below_of C (λ j. le_z (tag run j n) (tag run j (suc n))) (λ K k. (h K n k b).le))
  ],
)
  where
    before : (n : ℕ) → suc n < length run → last_tags (take (suc n) run) ≡ some (instant run n).tags
    before n b = ap last_tags (take-suc run n no_instant (omega arith)) ∙ last_of_snoc (λ (f : Filled). f.tags) (take n run) (instant run n)

each-law : (most : ℤ) (ls : List Line) (run : List Filled) → WithinScale most run → EachPart most ls run ↔ EachHolds ls run
each-law most [] run w = (λ u. u, λ u. u)
each-law most (l ∷ ls) run w = Iff.and (line-law most l run w) (each-law most ls run w)

pub fits-holds : (s : SheetValue) (run : List Filled) → WithinScale most_tag run → T (fits s run) ↔ (NoneFalls s.clocks run × EachHolds s.lines run)
fits-holds s run w = Iff.trans (fits-by-line s run) (Iff.and (falls-law s.clocks run) (each-law most_tag s.lines run w))
