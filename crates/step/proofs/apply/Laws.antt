-- One row after the other goes on: what one turn makes of those found. Assumes nothing.
use mathlib.Core.Bool.{Bool, true, false}
use mathlib.Core.List.{List, [], ◌∷◌, ◌++◌, map}
use mathlib.Core.Option.{Option, none, some}
use mathlib.Core.Path.{◌≡◌, refl, sym, ap, ◌∙◌}
use Prim.Native.Nat.{ℕ, ◌+◌, ◌-◌, ◌≤◌, ◌<◌}
use native.Mathlib.Omega.{arith}
use lib.ListN.{length}
use borrow.Author.Tests.{lt-ltb, le-ltb}
use Rattle.records.specs.Lists.{listed_from, listed}
use Rattle.records.specs.Sheet.{SheetValue}
use Rattle.tesl.specs.Lists.{any}
use Rattle.tesl.specs.Run.{Filled}
use Rattle.tesl.specs.Fits.{most_tag}
use Rattle.tesl.specs.Remainder.{Remainder}
use Rattle.theory.specs.Adding.{added_to}
use Rattle.work.specs.Advanced.{Advanced, fails, over, onto}
use Rattle.work.specs.Owed.{Owings, begun_by, each_once}
use Rattle.work.specs.Work.{same_counted, inserted, took, advanced, all_advanced}
use Rattle.work.proofs.Listing.{listed_same}
use Rattle.work.proofs.Relevant.{took-none}
use Rattle.work.proofs.Once.{all-advanced-once}
use Rattle.remainders.specs.Word.{flag_of}
use Rattle.remainders.specs.Rows.{leads_part, stopped_part, width, word, row_of, FewInRow, Stays, RowsStay}
use Rattle.step.specs.Apply.{Sides}
use Rattle.remainders.specs.View.{obligation_of, countdown_of}
use Rattle.remainders.proofs.rows.Laws.{set_words-law, few_words}
use Rattle.step.proofs.advance.Row.{same-remainder}

-- a row whose words are the same
pub row_same : (a b : List ℕ) (h : ℕ) → FewInRow a h → ((p : ℕ) → p < width → word b h p ≡ word a h p) → row_of b h ≡ row_of a h
row_same a b h few same =
    same-remainder
    (ap (map obligation_of) (set_words-law a b h (λ p l. same p (omega arith)) 0 (omega arith) (few 0 (omega arith))))
    (ap (map countdown_of) (set_words-law a b h (λ p l. same p (omega arith)) 1 (omega arith) (few 1 (omega arith))))
    (listed_same 16 (λ k l. same (leads_part + k) (omega arith)))
    (listed_same 8 (λ k l. ap flag_of (same (stopped_part + k) (omega arith))))

-- another row is as it was
pub row_stays : {i lo hi : ℕ} {a b : List ℕ} → Stays i lo hi a b → (h : ℕ) → FewInRow a h → (h ≡ i → ⊥) → row_of b h ≡ row_of a h
row_stays {a = a} {b} s h few f = row_same a b h few (λ p l. s.same h p l (λ e. absurd (f e)))

-- the rows held, where only rows of the other side change
module _ {from to m : ℕ} {a b : List ℕ} (s : Sides from to) (r : RowsStay to m a b) (most : m ≤ 33) where
  held_word : (j p : ℕ) → j < 33 → p < width → word b (from + j) p ≡ word a (from + j) p
  held_word j p h l = r.same (from + j) p l (λ x y. s.apart j (from + j - to) h (omega arith) (omega arith))

  pub held-few : (j : ℕ) → j < 33 → FewInRow a (from + j) → FewInRow b (from + j)
  held-few j h few = few_words a b (from + j) (λ p l. held_word j p h (omega arith)) few

  pub held-row : (j : ℕ) → j < 33 → FewInRow a (from + j) → row_of b (from + j) ≡ row_of a (from + j)
  held-row j h few = row_same a b (from + j) few (λ p l. held_word j p h l)

module _ (room : ℕ) (v : SheetValue) (f : Filled) (begun : Owings) where
  abbrev all : List Remainder → Option (List Remainder) → Option (List Remainder)
  all = all_advanced room v f begun

  -- once exhausted, it stays so
  pub none_more : (rs : List Remainder) → all rs none ≡ none
  unfolding all_advanced
  none_more [] = refl
  none_more (r ∷ rs) = rw (took-none room (advanced v f begun r)) (none_more rs)

  -- each of those begun once is all of them
  pub applied-start : begun ≡ each_once (begun_by most_tag v.lines f) → (row : ℕ → Remainder) (n : ℕ) (found : Option (List Remainder)) → all_advanced room v f (begun_by most_tag v.lines f) (listed row n) found ≡ all (listed_from row 0 (n - 0)) found
  applied-start e row n found = let z : n - 0 ≡ n = omega arith in rw (z, e) (sym (all-advanced-once v f (begun_by most_tag v.lines f) room (listed row n) found))

  pub applied-end : {rs : List Remainder} {found : Option (List Remainder)} → rs ≡ [] → all rs found ≡ found
  unfolding all_advanced
  applied-end e = rw e

  module _ {whole : Option (List Remainder)} {rs more : List Remainder} {r : Remainder} {os os' : List Remainder}
      (w : whole ≡ all rs (some os)) (e : rs ≡ r ∷ more) (s : os' ≡ os) where
    turn : {a : Advanced} → a ≡ advanced v f begun r → whole ≡ all more (took room (some os') a)
    unfolding all_advanced
    turn g = w ∙ rw (e, s, g)

    pub applied-fails : fails ≡ advanced v f begun r → whole ≡ all more (some os')
    applied-fails g = turn g

    pub applied-over : over ≡ advanced v f begun r → none ≡ whole
    applied-over g = sym (turn g ∙ none_more more)

    module _ {x : Remainder} (g : onto x ≡ advanced v f begun r) {found : Bool} (m : found ≡ any (same_counted x) os') where
      pub applied-there : found ≡ true → whole ≡ all more (some os')
      unfolding inserted added_to
      applied-there t = turn g ∙ rw (sym m ∙ t)

      pub applied-full : found ≡ false → room ≤ length os' → none ≡ whole
      unfolding inserted added_to
      applied-full t l = sym (turn g ∙ rw (sym m ∙ t, le-ltb (length os') room l) (none_more more))

      pub applied-more : found ≡ false → length os' < room → whole ≡ all more (some (os' ++ (x ∷ [])))
      unfolding inserted added_to
      applied-more t l = turn g ∙ rw (sym m ∙ t, lt-ltb (length os') room l)
