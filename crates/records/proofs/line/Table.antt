-- A line's kind is 16 to 24, and its body has the length of its kind. Assumes nothing.
use mathlib.Core.Path.{◌≡◌, refl, sym}
use mathlib.Core.Bool.{Bool, true, false, cond}
use Prim.Native.Nat.{ℕ, ◌≤◌}
use native.Mathlib.Omega.{arith}
use lib.ListN.{length}
use lib.Dec.{eqb}
use Rattle.records.specs.declared.line.Line.{Line}
use Rattle.records.specs.declared.line.Line.TheVariants.{Sporadic, Relation, Implies, Excludes, Delayed, Weakly, Strictly, Kills, Counted}
use Rattle.records.specs.Line.{is_line, length_of, clocks_of, kind_of, body_of}

pub record Shaped (l : Line) : Type 0 where
  pub line : is_line (kind_of l) ≡ true
  pub size : length (body_of l) ≡ length_of (kind_of l)
  pub short : length (body_of l) ≤ 6

pub shaped : (l : Line) → Shaped l
unfolding length_of
shaped (Sporadic a b t) = record { line = refl; size = refl; short = omega arith }
shaped (Relation a b p q) = record { line = refl; size = refl; short = omega arith }
shaped (Implies a b) = record { line = refl; size = refl; short = omega arith }
shaped (Excludes a b) = record { line = refl; size = refl; short = omega arith }
shaped (Delayed a b d by) = record { line = refl; size = refl; short = omega arith }
shaped (Weakly a b) = record { line = refl; size = refl; short = omega arith }
shaped (Strictly a b) = record { line = refl; size = refl; short = omega arith }
shaped (Kills a b) = record { line = refl; size = refl; short = omega arith }
shaped (Counted a b d n) = record { line = refl; size = refl; short = omega arith }

-- the length that the table gives a line's kind is that of its body
pub line-length : (l : Line) → length_of (kind_of l) ≡ length (body_of l)
line-length l = sym (shaped l).size

-- every line's body has at least two clocks
pub two-clocks : (k : ℕ) → is_line k ≡ true → 2 ≤ length_of k
unfolding length_of
two-clocks k h = rw h (least (eqb k 16) (eqb k 17) (eqb k 20) (eqb k 24))
  where
    least : (x y z w : Bool) → 2 ≤ cond x 4 (cond y 6 (cond z 5 (cond w 4 2)))
    least true y z w = omega arith
    least false true z w = omega arith
    least false false true w = omega arith
    least false false false true = omega arith
    least false false false false = omega arith

-- no line's body is longer than 6
pub length_most : (k : ℕ) → length_of k ≤ 6
unfolding length_of
length_most k = most (eqb k 16) (eqb k 17) (eqb k 20) (eqb k 24) (is_line k)
  where
    most : (x y z w t : Bool) → cond x 4 (cond y 6 (cond z 5 (cond w 4 (cond t 2 0)))) ≤ 6
    most true y z w t = omega arith
    most false true z w t = omega arith
    most false false true w t = omega arith
    most false false false true t = omega arith
    most false false false false true = omega arith
    most false false false false false = omega arith

-- a body has room for its clocks
pub clocks-within : (k : ℕ) → clocks_of k ≤ length_of k
unfolding length_of clocks_of
clocks-within k = within (eqb k 16) (eqb k 17) (eqb k 20) (eqb k 24) (is_line k)
  where
    three : (z w t : Bool) → cond z 3 (cond w 3 (cond t 2 0)) ≤ 3
    three true w t = omega arith
    three false true t = omega arith
    three false false true = omega arith
    three false false false = omega arith

    within : (x y z w t : Bool) → cond z 3 (cond w 3 (cond t 2 0)) ≤ cond x 4 (cond y 6 (cond z 5 (cond w 4 (cond t 2 0))))
    within true y z w t = omega (arith, three z w t)
    within false true z w t = omega (arith, three z w t)
    within false false true w t = omega arith
    within false false false true t = omega arith
    within false false false false true = omega arith
    within false false false false false = omega arith

-- for the functions that read and write a line
pub ruleset tables = (line-length, length_most, clocks-within)
