-- What the lines of a part of the plan begin, read as obligations or as countdowns, is what the sheet's lines begin. Assumes nothing.
use mathlib.Core.Bool.{Bool, true, false, cond, true≢false}
use mathlib.Core.List.{List, [], ◌∷◌, map}
use mathlib.Core.Path.{◌≡◌, refl, sym, ap, ◌∙◌}
use Prim.Native.Nat.{ℕ, ◌+◌, ◌-◌, ◌<◌}
use native.Mathlib.Omega.{arith}
use lib.Dec.{eqb, ltb, lt→ltb}
use lib.IntN.{ℤ}
use borrow.Author.Tests.{eqb-true, eqb-false, le-ltb}
use Rattle.records.specs.declared.line.Line.{Line}
use Rattle.records.specs.declared.line.Line.TheVariants.{Sporadic, Relation, Implies, Excludes, Delayed, Weakly, Strictly, Kills, Counted}
use Rattle.tesl.specs.Lists.{filter, flat_map}
use Rattle.tesl.specs.Run.{ticks_at}
use Rattle.tesl.specs.Fits.{Countdown, left_by}
use Rattle.tesl.proofs.Tests.{T→≡}
use Rattle.theory.specs.Adding.{once_each}
use Rattle.theory.specs.Step.{started_by}
use Rattle.work.specs.View.{filled_of}
use Rattle.work.specs.Parts.{is_counted}
use Rattle.remainders.specs.declared.obligation.Obligation as code
use Rattle.remainders.specs.View.{countdown_of, same_stored}
use Rattle.lines.specs.Plan.{plan_line, plan_lines}
use Rattle.lines.specs.Begun.{count_stored, stored_by, stored_once}
use Rattle.remainders.proofs.rows.Reading.{once-each-read}
use Rattle.lines.proofs.delays.Laws.{begun-read, of-kind}

-- ---- a counted line

count-read : (t : Bool) (B D n : ℕ) → map countdown_of (count_stored t B D n) ≡ left_by [] (cond t (record { clock = D; on = B; wanted = n } ∷ []) [])
count-read false B D n = refl
count-read true B D n = by-test (eqb n 0) refl
  where
    wanting : ℕ → Countdown
    wanting k = record { clock = D; on = B; wanted = k }

    by-test : (b : Bool) → eqb n 0 ≡ b → map countdown_of (cond b [] (record { clock = D; on = B; number = n } ∷ [])) ≡ left_by [] (wanting n ∷ [])
    by-test true e = let h = eqb-true n 0 e in sym (rw (le-ltb 0 n (omega arith)))
    by-test false e =
        let h = eqb-false n 0 e in
        let same : n ≡ n - 0 = omega arith in
        ap (λ (k : ℕ). wanting k ∷ []) same ∙ sym (rw (T→≡ (ltb 0 n) (lt→ltb 0 n (omega (arith, h)))))

pub reads-counted : (most : ℤ) (ticks : List Bool) (tags : List ℤ) (l : Line) → is_counted l ≡ true → map countdown_of (stored_by most ticks tags l) ≡ started_by (filled_of ticks tags) l
reads-counted most ticks tags (Counted A B D n) h = count-read (ticks_at (filled_of ticks tags) A) B D n
reads-counted most ticks tags (Sporadic A B t) h = absurd (true≢false (sym h))
reads-counted most ticks tags (Relation A B p q) h = absurd (true≢false (sym h))
reads-counted most ticks tags (Implies A B) h = absurd (true≢false (sym h))
reads-counted most ticks tags (Excludes A B) h = absurd (true≢false (sym h))
reads-counted most ticks tags (Delayed A B D d) h = absurd (true≢false (sym h))
reads-counted most ticks tags (Weakly A B) h = absurd (true≢false (sym h))
reads-counted most ticks tags (Strictly A B) h = absurd (true≢false (sym h))
reads-counted most ticks tags (Kills A B) h = absurd (true≢false (sym h))

-- ---- the lines of a part, of one kind

module _ {E : Type 0} (read : code.Obligation → E) (same : E → E → Bool) (agree : (a b : code.Obligation) → same (read a) (read b) ≡ same_stored a b) (begins : Line → List E) (kind : Line → Bool) where
  pub part-begins : (most : ℤ) (ticks : List Bool) (tags : List ℤ) (lines : List ℕ) (from n : ℕ) (ls : List Line) {begun : List code.Obligation}
      → begun ≡ stored_once most ticks tags lines from n → plan_lines lines from n ≡ filter kind ls
      → ((j : ℕ) → j < n → kind (plan_line lines (from + j)) ≡ true → map read (stored_by most ticks tags (plan_line lines (from + j))) ≡ begins (plan_line lines (from + j)))
      → map read begun ≡ once_each same (flat_map begins (filter kind ls))
  part-begins most ticks tags lines from n ls b planned reads =
      let at : ℕ → Line = λ j. plan_line lines (from + j) in
      ap (map read) b
      ∙ sym (once-each-read read same_stored same agree (flat_map (stored_by most ticks tags) (plan_lines lines from n)))
      ∙ ap (once_each same) (begun-read read (stored_by most ticks tags) begins at n (λ j h. reads j h (of-kind kind at n ls planned j h)) ∙ ap (flat_map begins) planned)
