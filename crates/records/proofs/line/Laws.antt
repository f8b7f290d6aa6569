-- Laws of specs/Line.antt for the functions that read and write a line. Assumes nothing.
use mathlib.Core.Path.{◌≡◌, refl, sym, ◌∙◌}
use mathlib.Core.Bool.{Bool, true, false}
use mathlib.Core.List.{List, ◌++◌}
use Prim.Native.Nat.{ℕ, ◌+◌, ◌<◌, ◌≤◌}
use native.Mathlib.Omega.{arith}
use lib.ListN.{length, take}
use lib.Seq.{take-append-le, take_at}
use lib.Dec.{ltb}
use borrow.Author.Tests.{le-leb, lt-leb, eq-eqb}
use Rattle.std.specs.Bool.{Decides}
use Rattle.std.specs.List.{All}
use Rattle.std.proofs.lemmas.Bool.Decides.{same_from_decides, Decides-by_and, Decides-ltb}
use Rattle.records.specs.declared.line.Line.{Line}
use Rattle.records.specs.declared.line.Line.TheVariants.{Sporadic, Relation, Implies, Excludes, Delayed, Weakly, Strictly, Kills, Counted}
use Rattle.records.specs.Outcome.{Outcome, refused, decide}
use Rattle.records.specs.Lists.{filled}
use Rattle.records.specs.Word.{word_bytes}
use Rattle.records.specs.Store.{puts}
use Rattle.records.specs.Record.{whole}
use Rattle.records.specs.Line.{is_line, all_below, no_count, length_of, clocks_of, line_checks, value_line_checks, line_of, kind_of, body_of, line_bytes}
use Rattle.records.proofs.line.Table.{shaped, clocks-within}
use Rattle.records.proofs.Store.{puts-both}

-- the definition's test of a body's clocks decides that all are below the count
pub all-below : (c : ℕ) (xs : List ℕ) (r : Bool) → Decides r (All (λ (x : ℕ). x < c) xs) → r ≡ all_below c xs
all-below c xs r h = same_from_decides r (all_below c xs) h (Decides-by_and (λ (x : ℕ). ltb x c) (λ (x : ℕ). x < c) (all_below c) (λ (x : ℕ). Decides-ltb x c) refl (λ _ _. refl) xs)

-- what reading a line's record says, by the conditions in the order of the table
module _ (last c lines spent kind : ℕ) (body : List ℕ) where
  abbrev due : Outcome Line
  due = decide (line_checks last c lines spent (whole kind body)) (line_of kind body)

  pub read-8 : 16 ≤ lines → due ≡ refused 8
  read-8 h = rw (le-leb 16 lines h) refl

  module _ (h : lines < 16) (known : is_line kind ≡ true) (g : kind ≤ last) (size : length body ≡ length_of kind) where
    pub read-7 : all_below c (take (clocks_of kind) body) ≡ false → due ≡ refused 7
    read-7 below = rw (lt-leb 16 lines h, known, le-leb kind last g, eq-eqb (length body) (length_of kind) size, below) refl

    pub read-18 : all_below c (take (clocks_of kind) body) ≡ true → no_count kind body ≡ true → due ≡ refused 18
    read-18 below none = rw (lt-leb 16 lines h, known, le-leb kind last g, eq-eqb (length body) (length_of kind) size, below, none) refl

-- and what checking a line's value says
module _ (c spent : ℕ) (l : Line) where
  pub check-7 : all_below c (take (clocks_of (kind_of l)) (body_of l)) ≡ false → decide (value_line_checks c spent (kind_of l) (body_of l)) l ≡ refused 7
  check-7 below = rw below refl

  pub check-18 : all_below c (take (clocks_of (kind_of l)) (body_of l)) ≡ true → no_count (kind_of l) (body_of l) ≡ true → decide (value_line_checks c spent (kind_of l) (body_of l)) l ≡ refused 18
  check-18 below none = rw (below, none) refl

-- a line's count is the same in six bytes
pub no-count-filled : (l : Line) → no_count (kind_of l) (filled 6 0 (body_of l)) ≡ no_count (kind_of l) (body_of l)
no-count-filled (Sporadic a b t) = refl
no-count-filled (Relation a b p q) = refl
no-count-filled (Implies a b) = refl
no-count-filled (Excludes a b) = refl
no-count-filled (Delayed a b d by) = refl
no-count-filled (Weakly a b) = refl
no-count-filled (Strictly a b) = refl
no-count-filled (Kills a b) = refl
no-count-filled (Counted a b d n) = refl

-- a line's clocks stand at the front of six bytes too
pub clocks-filled : (l : Line) → take (clocks_of (kind_of l)) (filled 6 0 (body_of l)) ≡ take (clocks_of (kind_of l)) (body_of l)
clocks-filled l = take-append-le (clocks_of (kind_of l)) (body_of l) _ (omega (arith, clocks-within (kind_of l), (shaped l).size))

-- for `check_line`
pub ruleset six_bytes = (clocks-filled, no-count-filled)

-- a line's head and body, one behind the other
pub line-stored : (l : Line) (b b₁ b₂ : List ℕ) (at n : ℕ) {k : ℕ} {body : List ℕ} → k ≡ kind_of l → n ≡ length (body_of l) → body ≡ filled 6 0 (body_of l)
    → b₁ ≡ puts b at (word_bytes n ++ word_bytes k) → b₂ ≡ puts b₁ (at + 4) (take n body) → b₂ ≡ puts b at (line_bytes l)
line-stored l b b₁ b₂ at n {k} {body} e f g p q =
    let t : take n body ≡ body_of l = rw g (take_at (body_of l) _ n (sym f)) in
    puts-both b at (word_bytes (length (body_of l)) ++ word_bytes (kind_of l)) (body_of l) (p ∙ rw (f, e)) (q ∙ rw t)
