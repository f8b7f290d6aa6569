-- To begin each of some obligations and countdowns once is to begin them all. Assumes nothing.
use mathlib.Core.Bool.{not, cond, ◌&&◌}
use mathlib.Core.List.{List, [], ◌∷◌}
use mathlib.Core.Option.{Option, none, some}
use mathlib.Core.Path.{◌≡◌, refl, ap, ◌∙◌}
use Prim.Native.Nat.{ℕ}
use Rattle.records.specs.Sheet.{SheetValue}
use Rattle.tesl.specs.Run.{Filled}
use Rattle.tesl.specs.Remainder.{Remainder, same_obligation, same_countdown}
use Rattle.theory.specs.Step.{overlap, lines_ok}
use Rattle.theory.proofs.Adding.{added-once}
use Rattle.theory.proofs.Respect.{owed-equivalence, count-equivalence}
use Rattle.work.specs.Advanced.{Advanced, fails}
use Rattle.work.specs.Questions.{carried_holds}
use Rattle.work.specs.Owed.{Owings, each_once, still_owed, still_counting, together}
use Rattle.work.specs.Work.{with_begun, with_still_owed, advanced, took, all_advanced}

-- ---- a filled instant

module _ (v : SheetValue) (f : Filled) (begun : Owings) where
  still-owed-once : (r : Remainder) (x : Option Owings) → with_still_owed v f.ticks (each_once begun) r x ≡ with_still_owed v f.ticks begun r x
  still-owed-once r none = refl
  still-owed-once r (some w) =
      λ i. with_begun v f.ticks r (together (added-once same_obligation owed-equivalence 8 begun.owed w.owed i) (added-once same_countdown count-equivalence 8 begun.countdowns w.countdowns i))

  advanced-once : (r : Remainder) → advanced v f (each_once begun) r ≡ advanced v f begun r
  unfolding advanced
  advanced-once r =
      ap (λ (a : Advanced). cond (not (overlap f.ticks r.stopped) && lines_ok (carried_holds f.ticks) v.lines r.leads) a fails)
      (still-owed-once r (together (still_owed f r.owed) (still_counting f r.countdowns)))

  pub all-advanced-once : (room : ℕ) (rs : List Remainder) (found : Option (List Remainder)) → all_advanced room v f (each_once begun) rs found ≡ all_advanced room v f begun rs found
  unfolding all_advanced
  all-advanced-once room [] found = refl
  all-advanced-once room (r ∷ rs) found =
      all-advanced-once room rs (took room found (advanced v f (each_once begun) r)) ∙ ap (λ (a : Advanced). all_advanced room v f begun rs (took room found a)) (advanced-once r)
