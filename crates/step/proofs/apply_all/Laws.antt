-- One filling after the other. Assumes nothing.
use mathlib.Core.Bool.{Bool}
use mathlib.Core.List.{List, [], ◌∷◌}
use mathlib.Core.Option.{Option, none, some}
use mathlib.Core.Path.{◌≡◌, refl, sym, ap, ◌∙◌}
use Prim.Native.Nat.{ℕ, ◌+◌, ◌-◌, ◌<◌, ◌≤◌}
use native.Mathlib.Omega.{arith}
use lib.IntN.{ℤ}
use Rattle.records.specs.Lists.{listed_from}
use Rattle.records.specs.Sheet.{SheetValue}
use Rattle.records.proofs.Lists.{listed_cons, listed-end}
use Rattle.tesl.specs.Fits.{most_tag}
use Rattle.tesl.specs.Remainder.{Remainder}
use Rattle.work.specs.Owed.{begun_by}
use Rattle.work.specs.View.{filled_of}
use Rattle.work.specs.Fillings.{flags_in, fillings_in, taken_by, by_filling}
use Rattle.step.proofs.apply.Laws.{none_more}

-- what was gathered is of these tags and ticks, and the rows held are the same
pub by-filling-same : (room : ℕ) (v : SheetValue) (found : Option (List Remainder)) {s t : List ℤ} {rs os : List Remainder} {x y : List Bool} → s ≡ t → rs ≡ os → x ≡ y → by_filling room v s rs found x ≡ by_filling room v t os found y
by-filling-same room v found a b c = rw (a, b, c)

module _ (room : ℕ) (v : SheetValue) (tags : List ℤ) (rs : List Remainder) (list : List Bool) (m : ℕ) where
  abbrev pub taken_from : ℕ → Option (List Remainder) → Option (List Remainder)
  taken_from i = taken_by (by_filling room v tags rs) (listed_from (flags_in list) i (m - i))

  pub taken_start : taken_by (by_filling room v tags rs) (fillings_in list m) (some []) ≡ taken_from 0 (some [])
  taken_start = let z : m - 0 ≡ m = omega arith in rw z

  taken_none : (more : List (List Bool)) → taken_by (by_filling room v tags rs) more none ≡ none
  taken_none [] = refl
  taken_none (ticks ∷ more) = rw (none_more room v (filled_of ticks tags) (begun_by most_tag v.lines (filled_of ticks tags)) rs) (taken_none more)

  module _ (i : ℕ) (found : Option (List Remainder)) {whole : Option (List Remainder)} (w : whole ≡ taken_from i found) where
    pub taken-end : m ≤ i → found ≡ whole
    taken-end h = sym (w ∙ rw (listed-end (flags_in list) m i h))

    module _ (h : i < m) {ticks : List Bool} (e : ticks ≡ flags_in list i) where
      pub taken_more : {next : Option (List Remainder)} → next ≡ by_filling room v tags rs found ticks → whole ≡ taken_from (i + 1) next
      taken_more g = w ∙ rw (listed_cons (flags_in list) m i h, sym e) (ap (taken_from (i + 1)) (sym g))

      pub taken-over : none ≡ by_filling room v tags rs found ticks → none ≡ whole
      taken-over g = sym (taken_more g ∙ taken_none (listed_from (flags_in list) (i + 1) (m - (i + 1))))
