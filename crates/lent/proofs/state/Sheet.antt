-- A sheet in the head of a state: its lines are read in their places, and its value is read back. Assumes nothing.
use mathlib.Core.Bool.{Bool, true, false, cond, not, ◌||◌}
use mathlib.Core.List.{List}
use mathlib.Core.Path.{◌≡◌, refl, sym, ap, ap₂, ◌∙◌}
use Prim.Native.Nat.{ℕ, ◌+◌, ◌*◌, ◌<◌, ◌≤◌}
use native.Mathlib.Omega.{arith}
use lib.Dec.{ltb}
use lib.ListN.{length, set, length-set}
use borrow.Author.Tests.{lt-ltb, ltb-true}
use Rattle.records.specs.declared.line.Line.{Line}
use Rattle.records.specs.declared.sheet.Sheet.{Sheet}
use Rattle.records.specs.Lists.{listed}
use Rattle.records.specs.Line.{blank_line}
use Rattle.records.specs.Sheet.{SheetValue, line_at}
use Rattle.tesl.proofs.FormulaLists.{below_of}
use Rattle.tesl.proofs.Tests.{≡→T, T→≡}
use Rattle.work.proofs.Listing.{listed_at, listed_same}
use Rattle.lines.specs.declared.line_words.LineWords.{LineWords}
use Rattle.lines.specs.LineWords.{line_of_words, words_of}
use Rattle.remainders.specs.Rows.{width, all_words, word}
use Rattle.lent.specs.State.{state_words, state_line, clocks_by, state_slot, state_sheet, is_kind, has_kinds, OthersStay, no_words, slot_words, SlotWords, PutLines, PutSheet}
use Rattle.remainders.proofs.rows.Laws.{stored, stored_other}
use Rattle.lent.proofs.state.Words.{words_same}

pub same-sheet : {c c' n n' : ℕ} {l l' : List Line} → c ≡ c' → n ≡ n' → l ≡ l' → ◌≡◌ {A = Sheet} (record { clocks = c; count = n; lines = l }) (record { clocks = c'; count = n'; lines = l' })
same-sheet a b c = rw (a, b, c)

-- ---- lines stored one after the other
pub record Lining (s : Sheet) (a b : List ℕ) (k : ℕ) : Type 0 where
  pub size : length b ≡ length a
  pub places : (j : ℕ) → j < k → SlotWords s j (state_words b j)
  pub rows : OthersStay a b

-- ---- the sheet
same-value : {c c' : ℕ} {l l' : List Line} → c ≡ c' → l ≡ l' → ◌≡◌ {A = SheetValue} (record { clocks = c; lines = l }) (record { clocks = c'; lines = l' })
same-value a b = rw (a, b)

module _ (s : Sheet) (a b : List ℕ) where
  abbrev clocked : List ℕ
  clocked = set b (width * 0 + 1) s.clocks

  abbrev pub sheeted : List ℕ
  sheeted = set clocked (width * 0 + 2) s.count

  module _ (size : length a ≡ all_words) (few : s.count ≤ 16) (byte : s.clocks < 256) (w : PutLines s a b) where
    -- another word than 1 and 2 of row 0
    other : (h p : ℕ) → p < width → (h ≡ 0 → p ≡ 1 → ⊥) → (h ≡ 0 → p ≡ 2 → ⊥) → word sheeted h p ≡ word b h p
    other h p l f g = stored_other clocked 0 2 s.count h p (omega arith) l g ∙ stored_other b 0 1 s.clocks h p (omega arith) l f

    count : word sheeted 0 2 ≡ s.count
    count = stored clocked 0 2 s.count (omega (arith, length-set b (width * 0 + 1) s.clocks, w.size))

    clocks-stored : word sheeted 0 1 ≡ s.clocks
    clocks-stored = stored_other clocked 0 2 s.count 0 1 (omega arith) (omega arith) (λ x y. omega arith) ∙ stored b 0 1 s.clocks (omega (arith, w.size))

    clocks : clocks_by (word sheeted 0 1) ≡ s.clocks
    clocks = ap clocks_by clocks-stored ∙ rw (lt-ltb s.clocks 256 byte)

    place : (k : ℕ) → k < 16 → state_words sheeted k ≡ state_words b k
    place k h = words_same b sheeted (λ i p l q m. other i p m (λ e. absurd (omega arith)) (λ e. absurd (omega arith))) k h

    line : (k : ℕ) → k < s.count → line_at (state_sheet sheeted) k ≡ line_at s k
    line k h =
        listed_at (state_slot (word sheeted 0 2) sheeted) blank_line 16 k (omega arith)
        ∙ ap (λ (t : Bool). cond t (state_line sheeted k) blank_line) (ap (ltb k) count ∙ lt-ltb k s.count h)
        ∙ ap line_of_words (place k (omega arith)) ∙ (w.places k (omega arith)).line h

    lines : listed (line_at (state_sheet sheeted)) (word sheeted 0 2) ≡ listed (line_at s) s.count
    lines = ap (listed (line_at (state_sheet sheeted))) count ∙ listed_same s.count line

    slot : (k : ℕ) → slot_words (state_sheet sheeted) k ≡ slot_words s k
    slot k = ap (λ (n : ℕ). cond (ltb k n) (words_of (line_at (state_sheet sheeted) k)) no_words) count ∙ by-test (ltb k s.count) refl
      where
        by-test : (t : Bool) → ltb k s.count ≡ t → cond t (words_of (line_at (state_sheet sheeted) k)) no_words ≡ cond t (words_of (line_at s k)) no_words
        by-test true e = ap words_of (line k (ltb-true k s.count e))
        by-test false e = refl

    kind : (k : ℕ) → k < 16 → (not (ltb k (word sheeted 0 2)) || is_kind (word sheeted 1 k)) ≡ true
    kind k h =
        ap₂ (λ (n v : ℕ). not (ltb k n) || is_kind v) count (ap (λ (t : LineWords). t.kind) (place k h)) ∙ by-test (ltb k s.count) refl
      where
        by-test : (t : Bool) → ltb k s.count ≡ t → (not t || is_kind (word b 1 k)) ≡ true
        by-test true e = (w.places k h).kind (ltb-true k s.count e)
        by-test false e = refl

    pub sheet-put : PutSheet s a sheeted
    sheet-put =
        record {
          size = length-set clocked (width * 0 + 2) s.count ∙ length-set b (width * 0 + 1) s.clocks ∙ w.size;
          top = λ p l f g. other 0 p l (λ e. f) (λ e. g) ∙ w.rows 0 p l (λ e. omega arith) (λ e x. omega arith);
          rows = λ h p m l. other h p l (λ e. absurd (omega arith)) (λ e. absurd (omega arith)) ∙ w.rows h p l (λ e. omega arith) (λ e x. omega arith);
          free = λ p l m. other 2 p m (λ e. absurd (omega arith)) (λ e. absurd (omega arith)) ∙ w.rows 2 p m (λ e. omega arith) (λ e x. omega arith);
          value = same-value clocks lines;
          count = count;
          kinds = T→≡ (has_kinds sheeted) (below_of 16 (λ k. not (ltb k (word sheeted 0 2)) || is_kind (word sheeted 1 k)) (λ k h. ≡→T (kind k h)));
          clocks = clocks-stored ∙ sym clocks;
          words = λ k l. place k l ∙ (w.places k l).words ∙ sym (slot k);
        }
