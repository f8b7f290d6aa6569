-- What lines of a part of the plan begin, gathered behind what was begun before. Assumes nothing.
use mathlib.Core.Bool.{Bool, true, false, ◌&&◌, ◌||◌}
use mathlib.Core.List.{List, [], ◌∷◌, ◌++◌}
use mathlib.Core.Logic.{⊎_elim}
use mathlib.Core.Path.{◌≡◌, refl, sym, ap, ap₂, subst, ◌∙◌}
use Prim.Native.Nat.{ℕ, ◌+◌, ◌-◌, ◌<◌, ◌≤◌}
use native.Mathlib.Nat.{eq-or-lt_of_le}
use native.Mathlib.Numerals.{add-one}
use native.Mathlib.Omega.{arith}
use lib.Dec.{eqb}
use lib.IntN.{ℤ}
use lib.ListN.{length, set, drop, take, length-set}
use lib.Seq.{take-suc-set, take-set-le, drop-append-le, length-take-le}
use borrow.Author.Tests.{eq-eqb, ne_eqb, eqb-true, eqb-false}
use Rattle.std.specs.List.{list_any}
use Rattle.std.proofs.lemmas.List.{drop-take}
use Rattle.records.specs.declared.line.Line.{Line}
use Rattle.tesl.specs.Lists.{any}
use Rattle.theory.specs.Adding.{insert_all}
use Rattle.remainders.specs.declared.obligation.Obligation as code
use Rattle.remainders.specs.View.{same_stored}
use Rattle.remainders.proofs.obligation.Laws.{same_fields}
use Rattle.lines.specs.Plan.{plan_line}
use Rattle.lines.specs.Begun.{stored_by, stored_once, ReadsOwed, PartBegins}
use Rattle.lines.proofs.delays.Laws.{begun_from, gathering-end, gathering-nothing, gathering-again, gathering-more}

-- ---- what a slice's `contains` asks
eqb-swap : (a b : ℕ) → eqb a b ≡ eqb b a
eqb-swap a b = by-test (eqb b a) refl
  where
    by-test : (t : Bool) → eqb b a ≡ t → eqb a b ≡ t
    by-test true e = eq-eqb a b (sym (eqb-true b a e))
    by-test false e = ne_eqb a b (λ q. eqb-false b a e (sym q))

found : (o : code.Obligation) (xs : List code.Obligation) → list_any (λ (y : code.Obligation). eqb y.clock o.clock && (eqb y.on o.on && eqb y.number o.number)) xs ≡ any (same_stored o) xs
found o [] = refl
found o (y ∷ xs) = ap₂ ◌||◌ (ap₂ ◌&&◌ (eqb-swap y.clock o.clock) (ap₂ ◌&&◌ (eqb-swap y.on o.on) (eqb-swap y.number o.number)) ∙ same_fields o y) (found o xs)

pub among : (o : code.Obligation) (first count : ℕ) (begun : List code.Obligation) {t : Bool} → first ≤ count
    → t ≡ list_any (λ (y : code.Obligation). eqb y.clock o.clock && (eqb y.on o.on && eqb y.number o.number)) (take (count - first) (drop first begun)) → t ≡ any (same_stored o) (drop first (take count begun))
among o first count begun h e =
    let n : count ≡ first + (count - first) = omega arith in
    e ∙ found o (take (count - first) (drop first begun)) ∙ ap (any (same_stored o)) (sym (drop-take first (count - first) begun) ∙ ap (λ (m : ℕ). drop first (take m begun)) (sym n))

module _ (most : ℤ) (ticks : List Bool) (tags : List ℤ) (lines : List ℕ) (from n first : ℕ) (was : List code.Obligation) where
  -- line j of the part
  abbrev line_in : ℕ → Line
  line_in j = plan_line lines (from + j)

  -- what stands from place `first` on, with what the lines from j on begin, is what all begin, each once
  pub record Adding (begun : List code.Obligation) (count j : ℕ) : Type 0 where
    pub size : length begun ≡ 16
    pub ordered : first ≤ count
    pub fewer : count ≤ first + j
    pub kept : take first begun ≡ take first was
    pub gathered : stored_once most ticks tags lines from n ≡ insert_all same_stored (drop first (take count begun)) (begun_from (stored_by most ticks tags) line_in n j)
    pub reads : (k : ℕ) → k < j → ReadsOwed most ticks tags (line_in k)

  -- a line more
  module _ {begun : List code.Obligation} {count j : ℕ} (w : Adding begun count j) (h : j < n) {l : Line} (e : l ≡ line_in j) (owed : ReadsOwed most ticks tags l) where
    all_read-law : (k : ℕ) → k < j + 1 → ReadsOwed most ticks tags (line_in k)
    all_read-law k g = ⊎_elim (λ (s : k ≡ j). subst (ReadsOwed most ticks tags) (e ∙ ap line_in (sym s)) owed) (λ (s : k < j). w.reads k s) (eq-or-lt_of_le (omega arith))

    pub adding-none : [] ≡ stored_by most ticks tags l → Adding begun count (j + 1)
    adding-none g = record { size = w.size; ordered = w.ordered; fewer = omega (arith, w.fewer); kept = w.kept; gathered = gathering-nothing _ _ _ _ j _ w.gathered h e g; reads = all_read-law }

    module _ (o : code.Obligation) (g : o ∷ [] ≡ stored_by most ticks tags l) (t : Bool) (a : t ≡ any (same_stored o) (drop first (take count begun))) where
      pub adding-there : t ≡ true → Adding begun count (j + 1)
      adding-there u = record { size = w.size; ordered = w.ordered; fewer = omega (arith, w.fewer); kept = w.kept; gathered = gathering-again _ _ _ _ j _ w.gathered h e o g t a u; reads = all_read-law }

      pub adding-more : count < 16 → t ≡ false → Adding (set begun count o) (count + 1) (j + 1)
      adding-more few u = record {
        size = length-set begun count o ∙ w.size;
        ordered = omega (arith, w.ordered);
        fewer = omega (arith, w.fewer);
        kept = take-set-le first begun count o w.ordered ∙ w.kept;
        gathered = gathering-more _ _ _ _ j _ w.gathered h e o g t a u _ more;
        reads = all_read-law;
      }
        where
          more : drop first (take (count + 1) (set begun count o)) ≡ drop first (take count begun) ++ (o ∷ [])
          more =
              rw (add-one count, take-suc-set begun count o (omega (arith, w.size)))
              (drop-append-le first (take count begun) (o ∷ []) (omega (arith, w.ordered, w.size, length-take-le count begun (omega (arith, w.size)))))

  pub adding-all : {begun : List code.Obligation} {count j : ℕ} → Adding begun count j → j ≡ n → PartBegins most lines from n ticks tags first count was begun
  adding-all {j = j} w e = record { ordered = w.ordered; few = omega (arith, w.fewer); kept = w.kept; part = gathering-end _ _ _ _ j _ w.gathered (omega arith); reads = λ k h. w.reads k (omega arith) }
