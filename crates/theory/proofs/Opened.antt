-- A sheet that is read, and any within its own limits: 1 to 8 clocks, at most 16 lines and 8 sporadic ones, the clocks of lines below C, no count of 0; so the answer of opening is never exhausted. Assumes nothing.
use mathlib.Core.Bool.{Bool, true, false, cond}
use mathlib.Core.List.{List, [], ◌∷◌, ◌++◌, map, append-nil}
use mathlib.Core.Path.{◌≡◌, refl, ◌∙◌}
use Prim.Native.Nat.{ℕ, suc, ◌≤◌}
use native.Mathlib.Omega.{arith}
use lib.Dec.{T, not_T, leb, ltb, leb→le, ltb→lt}
use lib.ListN.{length, length-append}
use borrow.Author.Tests.{ltb-false, not-false}
use Rattle.records.specs.declared.line.Line.{Line}
use Rattle.records.specs.declared.order.Order.{Order}
use Rattle.records.specs.Line.{is_sporadic, sporadics, kind_of}
use Rattle.records.specs.Outcome.{taken}
use Rattle.records.specs.Sheet.{SheetValue, clock_count, read_by, sheet_value_checks}
use Rattle.records.specs.Types.{All, IsBytes, IsSheet}
use Rattle.records.proofs.Lists.{Passed, taken-passed}
use Rattle.records.proofs.sheet.Passed.{Below, lines-passed, lines-counted}
use Rattle.records.proofs.sheet.RoundTrip.{read-writes}
use Rattle.tesl.specs.Lists.{all, flat_map}
use Rattle.tesl.specs.Fits.{most_tag, owed_at_start, unmet}
use Rattle.tesl.specs.Remainder.{Remainder, remainder, same_obligation, same_remainder, owes, counts, overfull}
use Rattle.tesl.specs.Answer.{answer_within, judged}
use Rattle.theory.specs.Step.{bit, line_below}
use Rattle.theory.specs.Limits.{SheetLimits}
use Rattle.tesl.proofs.Tests.{and_l, and_r, and_i, or-e, ≡→T}
use Rattle.theory.proofs.Lists.{filter-true}
use Rattle.theory.proofs.LineKinds.{law}
use Rattle.theory.proofs.Sets.{number-most}
use Rattle.theory.proofs.Respect.{owed-equivalence, overfull-respects}
use Rattle.theory.proofs.Answers.{answer-start}

-- ---- what passes the checks of a sheet value

all-below : (c : ℕ) (ls : List Line) → All (Below c) ls → T (all (line_below c) ls)
all-below c [] h = tt
all-below c (l ∷ ls) h = and_i (line_below c l) (all (line_below c) ls) (≡→T h.0) (all-below c ls h.1)

pub checked-limits : (order : Order) (v : SheetValue) → IsSheet v → Passed (sheet_value_checks order v) → SheetLimits v
checked-limits order v value h =
    let c = ≡→T (not-false (clock_count v.clocks) h.0) in
    let r = lines-passed order v.clocks [] v.lines (omega arith) h.1.1 in
    record {
      clocks-least = leb→le 1 v.clocks (and_l (leb 1 v.clocks) (leb v.clocks 8) c);
      clocks-most = leb→le v.clocks 8 (and_r (leb 1 v.clocks) (leb v.clocks 8) c);
      lines-most = ltb-false 16 (length v.lines) h.1.0;
      sporadics-most = r.1;
      clocks-below = all-below v.clocks v.lines r.0;
      counts-least = lines-counted order v.clocks [] v.lines h.1.1;
      values = value.1;
    }

-- ---- what is read
pub read-limits : (order : Order) (last : ℕ) (b : List ℕ) → IsBytes b → {v : SheetValue} → read_by order last b ≡ taken v → SheetLimits v
read-limits order last b h {v} e =
    let w = read-writes order last b h e in
    checked-limits order v w.value (taken-passed (sheet_value_checks order v) w.checks).0

-- ---- opening: at most eight obligations, one remainder

start-owes : (ls : List Line) → length (flat_map owed_at_start ls) ≤ sporadics (map kind_of ls)
start-owes [] = omega arith
start-owes (l ∷ ls) = by-test (is_sporadic (kind_of l)) (law l).owes.start-number (start-owes ls)
  where
    by-test : (b : Bool) → length (owed_at_start l) ≤ bit b → length (flat_map owed_at_start ls) ≤ sporadics (map kind_of ls)
        → length (owed_at_start l ++ flat_map owed_at_start ls) ≤ cond b (suc (sporadics (map kind_of ls))) (sporadics (map kind_of ls))
    by-test true k r = omega (arith, length-append (owed_at_start l) (flat_map owed_at_start ls))
    by-test false k r = omega (arith, length-append (owed_at_start l) (flat_map owed_at_start ls))

pub opening-owes : (s : SheetValue) → SheetLimits s → owes (remainder s []) ≤ 8
unfolding owes remainder
opening-owes s h =
    let start = flat_map owed_at_start s.lines in
    let e : unmet most_tag s.lines [] ≡ start = append-nil _ ∙ filter-true start in
    let le = number-most same_obligation owed-equivalence start in
    rw e (omega (arith, start-owes s.lines, h.sporadics-most))

-- no countdown
opening-counts : (s : SheetValue) → counts (remainder s []) ≡ 0
unfolding counts remainder
opening-counts s = refl

pub opening-answer : (room : ℕ) → 1 ≤ room → (s : SheetValue) → SheetLimits s → (r : Remainder) → T (same_remainder r (remainder s [])) → answer_within room s [] ≡ judged (r ∷ [])
unfolding overfull
opening-answer room one s h r e =
    let start = remainder s [] in
    answer-start room one s r e (not_T (overfull r) (λ t. or-e (ltb 8 (owes start)) (ltb 8 (counts start)) (overfull-respects r start e t)
    (λ u. let k = ltb→lt 8 (owes start) u in absurd (omega (arith, opening-owes s h)))
    (λ u. let k = ltb→lt 8 (counts start) u in absurd (omega (arith, opening-counts s)))))
