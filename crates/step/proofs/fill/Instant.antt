-- What an instant makes of the rows held, by the cases of what is worked. Assumes nothing.
use Rattle.std.specs.Prelude.{None, Some}
use Rattle.std.specs.declared.option.Option as option
use mathlib.Core.Bool.{Bool, true, false, ◌&&◌}
use mathlib.Core.List.{List, [], ◌∷◌, ◌++◌, map, append-nil}
use mathlib.Core.Option.{Option, none, some}
use mathlib.Core.Path.{◌≡◌, refl, sym, ap, ◌∙◌}
use Prim.Native.Nat.{ℕ, zero, suc, ◌+◌, ◌<◌}
use native.Mathlib.Omega.{arith}
use lib.IntN.{ℤ}
use lib.ListN.{length, replicate}
use Rattle.records.specs.declared.instant.Tick.{Tick}
use Rattle.records.specs.declared.line.Line.{Line}
use Rattle.records.specs.Lists.{listed_from}
use Rattle.records.specs.Sheet.{SheetValue}
use Rattle.records.proofs.Lists.{length-listed}
use Rattle.tesl.specs.Lists.{all, filter, flat_map}
use Rattle.tesl.specs.Fits.{Obligation, none_falls}
use Rattle.tesl.specs.Remainder.{Remainder}
use Rattle.work.specs.View.{used_part, seen_of}
use Rattle.work.specs.Questions.{tags_hold}
use Rattle.work.specs.Parts.{is_relation, is_rule}
use Rattle.work.specs.Rules.{allowed}
use Rattle.work.specs.Fillings.{fillings_in, taken_by, by_filling}
use Rattle.work.specs.Relevant.{fillings_left, named_by, count_clocks, awaited_clocks, flagged}
use Rattle.work.specs.Work.{worked}
use Rattle.work.proofs.Listed.{worked-no, worked-yes}
use Rattle.remainders.specs.declared.obligation.Obligation as code
use Rattle.remainders.specs.View.{obligation_of, countdown_of}
use Rattle.remainders.specs.Rows.{row_set, row_of, rows_of, clocks_asked, row_clocks, rows_clocks}
use Rattle.step.specs.Apply.{found_in}

-- ---- the clocks that rows owe a tick of
flat-listed : {A B : Type 0} (f : A → List B) (g : ℕ → List B) (at : ℕ → A) → ((i : ℕ) → f (at i) ≡ g i) → (i n : ℕ) → flat_map f (listed_from at i n) ≡ flat_map g (listed_from (λ j. j) i n)
unfolding listed_from
flat-listed f g at e i zero = refl
flat-listed f g at e i (suc n) = rw (e i, flat-listed f g at e (i + 1) n)

-- read, the clocks of a set's places are those that the obligations and the countdowns name
owed-clocks : (os : List code.Obligation) → map (λ (o : Obligation). o.clock) (map obligation_of os) ≡ flat_map (clocks_asked 0) os
owed-clocks [] = refl
owed-clocks (o ∷ os) = ap (λ (ks : List ℕ). o.clock ∷ ks) (owed-clocks os)

counting-clocks : (os : List code.Obligation) → flat_map count_clocks (map countdown_of os) ≡ flat_map (clocks_asked 1) os
counting-clocks [] = refl
counting-clocks (o ∷ os) = ap (λ (ks : List ℕ). o.clock ∷ o.on ∷ ks) (counting-clocks os)

row-clocks : (v : SheetValue) (rows : List ℕ) (i : ℕ) → awaited_clocks (used_part v (row_of rows i)) ≡ row_clocks rows i
unfolding listed_from
row-clocks v rows i = λ k. owed-clocks (row_set rows i 0) k ++ (counting-clocks (row_set rows i 1) ∙ sym (append-nil (flat_map (clocks_asked 1) (row_set rows i 1)))) k

rows-clocks : (v : SheetValue) (from n : ℕ) (rows : List ℕ) → flat_map awaited_clocks (rows_of v rows from n) ≡ rows_clocks rows from n
rows-clocks v from n rows = flat-listed awaited_clocks (λ i. row_clocks rows (from + i)) (λ i. used_part v (row_of rows (from + i))) (λ i. row-clocks v rows (from + i)) 0 n

-- ---- an instant
module _ (room : ℕ) (v : SheetValue) (last : Option (List ℤ)) (ticks : List Tick) (tags : List ℤ) (count : option.Option ℕ) (rows : List ℕ) (from : ℕ) where
  abbrev after : Option (List Remainder)
  after = worked room v last (seen_of v.clocks ticks) tags (found_in v count rows from)

  pub work-exhausted : count ≡ None → none ≡ after
  unfolding worked
  work-exhausted e = rw e

  module _ {n : ℕ} (e : count ≡ Some n) where
    pub work-broken : n ≡ 0 → (out : List ℕ) (to : ℕ) → some (rows_of v out to 0) ≡ after
    unfolding worked listed_from
    work-broken z out to = rw (e, z)

    module _ (z : n ≡ 0 → ⊥) {clocks : ℕ} (c : clocks ≡ v.clocks) {relations : List Line} (d : relations ≡ filter is_relation v.lines) {q : Bool}
        (f : q ≡ (none_falls clocks last tags && all (tags_hold tags) relations)) where
      many : 0 < length (rows_of v rows from n)
      many = omega (arith, z, length-listed (λ i. used_part v (row_of rows (from + i))) n)

      pub work-no : q ≡ false → (out : List ℕ) (to : ℕ) → some (rows_of v out to 0) ≡ after
      unfolding listed_from
      work-no g out to = rw e (sym (worked-no room v last ticks tags (rows_of v rows from n) many c d f g))

      pub work-yes : q ≡ true → {flags : List Bool} → flags ≡ flagged (rows_clocks rows from n) (flagged (flat_map named_by v.lines) (replicate 8 false)) → {rules : List Line} → rules ≡ filter is_rule v.lines
          → (list : List Bool) {fillings : List (List Bool)} → fillings ≡ fillings_in list 0 ++ filter (allowed rules) (fillings_left flags ticks clocks 0 (replicate 8 false))
          → {found : Option (List Remainder)} → found ≡ taken_by (by_filling room v tags (rows_of v rows from n)) fillings (some []) → found ≡ after
      work-yes g s k list l p = rw e (worked-yes room v last ticks tags (rows_of v rows from n) many c d f g (rows-clocks v from n rows) s k list l p)
