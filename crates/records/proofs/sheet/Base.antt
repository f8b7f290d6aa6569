-- Document 01's own rules are its table: with 23 as the last kind and lines in any order 17 and 18 never refuse, since an order is not asked for and kind 24, the only one that counts, is refused by 5 before. Assumes nothing.
use mathlib.Core.Path.{◌≡◌, refl}
use mathlib.Core.Bool.{Bool, true, false, not, cond, ◌&&◌}
use mathlib.Core.List.{List, [], ◌∷◌, ◌++◌, map}
use Prim.Native.Nat.{ℕ}
use native.Mathlib.Omega.{arith}
use lib.ListN.{length}
use lib.Dec.{leb, eqb}
use borrow.Author.Tests.{leb-true, le-leb, eqb-true}
use Rattle.records.specs.declared.order.Order.TheVariants.{Any}
use Rattle.records.specs.Outcome.{Outcome, refused, Check, decide, in_turn}
use Rattle.records.specs.Record.{Piece, whole, torn, pieces}
use Rattle.records.specs.Line.{is_line, is_sporadic, length_of, clocks_below, no_count, sporadics, line_checks}
use Rattle.records.specs.Sheet.{clocks_checks, clocks_in, kind_in, key_in, order_checks, lines_checks, sheet_checks, sheet_in, read_by, base_line_checks, base_checks, BaseTable}
use Rattle.records.proofs.Lists.{both, decide-behind}

-- ---- a line's kind

narrower : (x y z : Bool) → (z ≡ true → y ≡ true) → ((x && y) && z) ≡ (x && z)
narrower true true z h = refl
narrower true false true h = h refl
narrower true false false h = refl
narrower false y z h = refl

base-kind : (kind : ℕ) → (is_line kind && leb kind 23) ≡ (leb 16 kind && leb kind 23)
base-kind kind = narrower (leb 16 kind) (leb kind 24) (leb kind 23) (λ e. let l = leb-true kind 23 e in le-leb kind 24 (omega arith))

-- no kind of document 01 counts
none-counts : (kind : ℕ) (body : List ℕ) → (leb 16 kind && leb kind 23) ≡ true → no_count kind body ≡ false
none-counts kind body e = by-test (eqb kind 24) refl
  where
    by-test : (t : Bool) → eqb kind 24 ≡ t → no_count kind body ≡ false
    by-test true h =
        let l = leb-true kind 23 (both (leb 16 kind) e).1 in
        let k = eqb-true kind 24 h in
        absurd (omega arith)
    by-test false h = rw h

-- ---- a line's turn

module _ {A : Type 0} where
  -- 8, 5, 6, 7, 18 and 9 by their tests, `base` that the kind is one of document 01's: there 18 passes
  without-18 : (eight base six seven eighteen nine : Bool) (x y : Outcome A) → (base ≡ true → eighteen ≡ false) → x ≡ y
      → cond eight (refused 8) (cond (not base) (refused 5) (cond six (refused 6) (cond seven (refused 7) (cond eighteen (refused 18) (cond nine (refused 9) x)))))
      ≡ cond eight (refused 8) (cond (not base) (refused 5) (cond six (refused 6) (cond seven (refused 7) (cond nine (refused 9) y))))
  without-18 eight true six seven eighteen nine x y h e = rw (h refl, e)
  without-18 eight false six seven eighteen nine x y h e = refl

  -- a line is decided alike, if what stands behind it is
  line-table : (c : ℕ) (before : List Piece) (p : Piece) (cs ds : List Check) (v : A) → decide cs v ≡ decide ds v
      → decide ((line_checks 23 c (length before) (sporadics (map kind_in before)) p ++ order_checks Any (map key_in before) (key_in p)) ++ cs) v
      ≡ decide (base_line_checks c (length before) (sporadics (map kind_in before)) p ++ ds) v
  line-table c before torn cs ds v e = refl
  line-table c before (whole kind body) cs ds v e =
      rw (base-kind kind)
      (without-18 (leb 16 (length before)) (leb 16 kind && leb kind 23) (not (eqb (length body) (length_of kind))) (not (clocks_below c kind body)) (no_count kind body)
      (is_sporadic kind && leb 8 (sporadics (map kind_in before))) (decide cs v) (decide ds v) (none-counts kind body) e)

  -- and so are the lines, each in its turn
  lines-table : (c : ℕ) (before ps : List Piece) (v : A) → decide (lines_checks Any 23 c before ps) v ≡ decide (in_turn (λ before line. base_line_checks c (length before) (sporadics (map kind_in before)) line) before ps) v
  lines-table c before [] v = refl
  lines-table c before (p ∷ ps) v = line-table c before p _ _ v (lines-table c (before ++ (p ∷ [])) ps v)

pub base-table : BaseTable
unfolding read_by
base-table b = by-pieces (pieces b)
  where
    by-pieces : (ps : List Piece) → decide (sheet_checks Any 23 ps) (sheet_in ps) ≡ decide (base_checks ps) (sheet_in ps)
    by-pieces [] = refl
    by-pieces (first ∷ lines) = decide-behind _ (sheet_in (first ∷ lines)) (clocks_checks first) _ (lines-table (clocks_in first) [] lines (sheet_in (first ∷ lines)))
