-- What passes the checks of a sheet value: clocks below C, counts above 0, at most eight sporadic lines, and, where lines must rise, a rising list; and whatever is so passes. Assumes nothing.
use mathlib.Core.Path.{◌≡◌, refl, sym, ap, subst, ◌∙◌}
use mathlib.Core.Bool.{Bool, true, false, cond, ◌&&◌}
use mathlib.Core.List.{List, [], ◌∷◌, ◌++◌, map, append_assoc, append-nil}
use Prim.Native.Nat.{ℕ, suc, ◌+◌, ◌≤◌}
use native.Mathlib.Omega.{arith}
use lib.Dec.{leb}
use borrow.Author.Tests.{lt-leb, leb-false, not-false}
use Rattle.records.specs.declared.line.Line.{Line}
use Rattle.records.specs.declared.order.Order.{Order}
use Rattle.records.specs.declared.order.Order.TheVariants.{Rising, Any}
use Rattle.records.specs.Line.{is_sporadic, clocks_below, no_count, sporadics, kind_of, body_of}
use Rattle.records.specs.Order.{key_of, above_last}
use Rattle.records.specs.Sheet.{SheetValue, value_lines_checks, sheet_value_checks}
use Rattle.records.specs.Sort.{Rises}
use Rattle.records.specs.Types.{All}
use Rattle.records.specs.Inner.{sporadic_of}
use Rattle.records.proofs.Lists.{Passed, map-append}
use Rattle.records.proofs.Rising.{total}
use Rattle.records.proofs.sheet.Writing.{sporadics-snoc}

-- ---- rising lists
pub rises-snoc : (ls : List Line) (l : Line) → Rises ls → above_last (map key_of ls) (key_of l) ≡ true → Rises (ls ++ (l ∷ []))
rises-snoc [] l h g = tt
rises-snoc (x ∷ []) l h g = (g, tt)
rises-snoc (x ∷ y ∷ ls) l h g = (h.0, rises-snoc (y ∷ ls) l h.1 g)

rises-at : (before : List Line) (l : Line) (ls : List Line) → Rises (before ++ l ∷ ls) → above_last (map key_of before) (key_of l) ≡ true
rises-at [] l ls h = refl
rises-at (x ∷ []) l ls h = h.0
rises-at (x ∷ y ∷ before) l ls h = rises-at (y ∷ before) l ls h.1

-- ---- sporadic lines
pub sporadic-total : (ls : List Line) → sporadics (map kind_of ls) ≡ total (λ (l : Line). sporadic_of (kind_of l)) ls
sporadic-total [] = refl
sporadic-total (l ∷ ls) = by-test (is_sporadic (kind_of l)) (sporadic-total ls)
  where
    by-test : (b : Bool) → sporadics (map kind_of ls) ≡ total (λ (l : Line). sporadic_of (kind_of l)) ls
        → cond b (suc (sporadics (map kind_of ls))) (sporadics (map kind_of ls)) ≡ cond b 1 0 + total (λ (l : Line). sporadic_of (kind_of l)) ls
    by-test true e = omega arith
    by-test false e = omega arith

sporadics-grown : (before : List Line) (l : Line) → sporadics (map kind_of (before ++ (l ∷ []))) ≡ sporadics (map kind_of before) + sporadic_of (kind_of l)
sporadics-grown before l = ap sporadics (map-append kind_of before (l ∷ [])) ∙ sporadics-snoc (map kind_of before) (kind_of l)

sporadics-front : (before ls : List Line) → sporadics (map kind_of before) ≤ sporadics (map kind_of (before ++ ls))
sporadics-front [] ls = omega arith
sporadics-front (l ∷ before) ls = by-test (is_sporadic (kind_of l)) (sporadics-front before ls)
  where
    by-test : (b : Bool) → sporadics (map kind_of before) ≤ sporadics (map kind_of (before ++ ls))
        → cond b (suc (sporadics (map kind_of before))) (sporadics (map kind_of before)) ≤ cond b (suc (sporadics (map kind_of (before ++ ls)))) (sporadics (map kind_of (before ++ ls)))
    by-test true h = omega arith
    by-test false h = h

eighth : (b : Bool) (n : ℕ) → (b && leb 8 n) ≡ false → n ≤ 8 → n + cond b 1 0 ≤ 8
eighth true n e l = let k = leb-false 8 n e in omega arith
eighth false n e l = omega arith

not-ninth : (b : Bool) (n : ℕ) → n + cond b 1 0 ≤ 8 → (b && leb 8 n) ≡ false
not-ninth true n l = lt-leb 8 n (omega arith)
not-ninth false n l = refl

-- ---- what passes
abbrev pub Below : ℕ → Line → Type 0
Below c l = clocks_below c (kind_of l) (body_of l) ≡ true

-- no line counts to 0
abbrev pub HasCount : Line → Type 0
HasCount l = no_count (kind_of l) (body_of l) ≡ false

pub lines-passed : (order : Order) (c : ℕ) (before ls : List Line) → sporadics (map kind_of before) ≤ 8 → Passed (value_lines_checks order c before ls)
    → All (Below c) ls × (sporadics (map kind_of (before ++ ls)) ≤ 8)
lines-passed order c before [] n h = (tt, rw (append-nil before) n)
lines-passed order c before (l ∷ ls) n h =
    let k = eighth (is_sporadic (kind_of l)) (sporadics (map kind_of before)) h.1.1.0 n in
    let r = lines-passed order c (before ++ (l ∷ [])) ls (rw (sporadics-grown before l) k) h.1.1.1.1 in
    ((not-false (clocks_below c (kind_of l) (body_of l)) h.0, r.0), subst (λ (ls : List Line). sporadics (map kind_of ls) ≤ 8) (append_assoc before (l ∷ []) ls) r.1)

pub lines-counted : (order : Order) (c : ℕ) (before ls : List Line) → Passed (value_lines_checks order c before ls) → All HasCount ls
lines-counted order c before [] h = tt
lines-counted order c before (l ∷ ls) h = (h.1.0, lines-counted order c (before ++ (l ∷ [])) ls h.1.1.1.1)

pub lines-rise : (c : ℕ) (before ls : List Line) → Rises before → Passed (value_lines_checks Rising c before ls) → Rises (before ++ ls)
lines-rise c before [] r h = rw (append-nil before) r
lines-rise c before (l ∷ ls) r h =
    let g = rises-snoc before l r (not-false (above_last (map key_of before) (key_of l)) h.1.1.1.0) in
    subst Rises (append_assoc before (l ∷ []) ls) (lines-rise c (before ++ (l ∷ [])) ls g h.1.1.1.1)

pub lines-pass : (c : ℕ) (before ls : List Line) → All (Below c) ls → All HasCount ls → sporadics (map kind_of (before ++ ls)) ≤ 8 → Rises (before ++ ls) → Passed (value_lines_checks Rising c before ls)
lines-pass c before [] b w n r = tt
lines-pass c before (l ∷ ls) b w n r =
    let e : (before ++ (l ∷ [])) ++ ls ≡ before ++ l ∷ ls = append_assoc before (l ∷ []) ls in
    let k : sporadics (map kind_of (before ++ (l ∷ []))) ≤ 8 = let m = sporadics-front (before ++ (l ∷ [])) ls in omega (arith, m, subst (λ (ls : List Line). sporadics (map kind_of ls) ≤ 8) (sym e) n) in
    let j = not-ninth (is_sporadic (kind_of l)) (sporadics (map kind_of before)) (rw (sporadics-grown before l) at k) in
    let rest = lines-pass c (before ++ (l ∷ [])) ls b.1 w.1 (subst (λ (ls : List Line). sporadics (map kind_of ls) ≤ 8) (sym e) n) (subst Rises (sym e) r) in
    (rw b.0 refl, (w.0, (j, (rw (rises-at before l ls r) refl, rest))))

-- ---- what passes in rising order passes in any
lines-any : (order : Order) (c : ℕ) (before ls : List Line) → Passed (value_lines_checks order c before ls) → Passed (value_lines_checks Any c before ls)
lines-any order c before [] h = tt
lines-any order c before (l ∷ ls) h = (h.0, (h.1.0, (h.1.1.0, (refl, lines-any order c (before ++ (l ∷ [])) ls h.1.1.1.1))))

pub passed-any : (order : Order) (v : SheetValue) → Passed (sheet_value_checks order v) → Passed (sheet_value_checks Any v)
passed-any order v h = (h.0, (h.1.0, lines-any order v.clocks [] v.lines h.1.1))
