-- The words of a state, row by row, are those that the monitor they read as is stored as; and so after an instant. Assumes nothing.
use Rattle.std.specs.Prelude.{None, Some}
use mathlib.Core.Bool.{Bool, true, false, cond, ◌&&◌, ◌||◌}
use mathlib.Core.List.{List, [], ◌∷◌, ◌++◌, map}
use mathlib.Core.Path.{◌≡◌, refl, sym, ap, ◌∙◌, subst}
use Prim.Native.Nat.{ℕ, zero, suc, ◌+◌, ◌-◌, ◌%◌, ◌≤◌, ◌<◌}
use native.Mathlib.Omega.{arith}
use lib.Dec.{eqb, ltb}
use lib.IntN.{pos}
use lib.ListN.{length, get_or, take, get_or-eq_default}
use borrow.Author.Tests.{eqb-true, ltb-true, ltb-false}
use Rattle.records.specs.declared.sheet.Sheet.{Sheet}
use Rattle.records.specs.Lists.{listed}
use Rattle.records.specs.Sheet.{sheet_value}
use Rattle.records.specs.Word.{signed, unsigned, tag_of, raw_of}
use Rattle.records.proofs.Lists.{both, listed-take, length-listed}
use Rattle.work.proofs.Listing.{listed_at, map-listed}
use Rattle.lines.specs.declared.line_words.LineWords.{LineWords}
use Rattle.lines.specs.declared.plan.Plan.{Plan}
use Rattle.lines.specs.Plan.{Planned}
use Rattle.remainders.specs.Word.{flag_word}
use Rattle.remainders.specs.Unused.{BlankFrom}
use Rattle.remainders.specs.View.{live_count}
use Rattle.remainders.specs.Rows.{stopped_part, head_rows, height, width, word, row_stop, FlagsStored}
use Rattle.remainders.proofs.rows.Flags.{flag-stored}
use Rattle.step.specs.Apply.{FewOwedIn}
use Rattle.lent.proofs.unused.Sides.{among-rows, few-each}
use Rattle.lent.specs.UnusedWords.{NothingElse, NothingBeside}
use Rattle.lent.specs.State.{format, state_words, state_sheet, state_tag, state_progress, count_by, has_format, has_kinds, is_side, is_case, is_state, slot_words}
use Rattle.lent.specs.StoredState.{case_word, top_words, column_of, kinds_row, numbers_row, RowIs, AsStored}
use Rattle.lent.proofs.live.StoredRow.{joined, behind, listed-zeros, row-stored, row-flags}

-- ---- the rows of the lines
module _ (w : List ℕ) (s : Sheet) (places : (k : ℕ) → k < 16 → state_words w k ≡ slot_words s k) where
  column : (part : LineWords → ℕ) (k : ℕ) → k < 16 → part (state_words w k) ≡ get_or (column_of part s) k 0
  column part k h = ap part (places k h) ∙ sym (listed_at (λ j. part (slot_words s j)) 0 16 k h)

  length-column : (part : LineWords → ℕ) → length (column_of part s) ≡ 16
  length-column part = length-listed (λ j. part (slot_words s j)) 16

  pub kinds-stored : RowIs w 1 (kinds_row s)
  kinds-stored =
      joined 16 (word w 1) (column_of (λ x. x.kind) s) (column_of (λ x. x.a) s ++ (column_of (λ x. x.b) s ++ column_of (λ x. x.d) s)) (length-column (λ x. x.kind)) 48 (column (λ x. x.kind))
      (joined 16 (λ k. word w 1 (16 + k)) (column_of (λ x. x.a) s) (column_of (λ x. x.b) s ++ column_of (λ x. x.d) s) (length-column (λ x. x.a)) 32 (column (λ x. x.a))
      (joined 16 (λ k. word w 1 (16 + (16 + k))) (column_of (λ x. x.b) s) (column_of (λ x. x.d) s) (length-column (λ x. x.b)) 16
      (λ k h. ap (word w 1) (omega arith) ∙ column (λ x. x.b) k h)
      (λ k h. ap (word w 1) (omega arith) ∙ column (λ x. x.d) k h)))

  pub numbers-stored : ((q : ℕ) → 32 ≤ q → q < width → word w 2 q ≡ 0) → RowIs w 2 (numbers_row s)
  numbers-stored zeros =
      joined 16 (word w 2) (column_of (λ x. x.x) s) (column_of (λ x. x.y) s) (length-column (λ x. x.x)) 48 (column (λ x. x.x))
      (listed-zeros (λ j. (slot_words s j).y) (λ k. word w 2 (16 + k)) 16 48 (λ k h. ap (λ (x : LineWords). x.y) (places k h)) (λ k l h. zeros (16 + k) (omega arith) (omega arith)))

-- ---- row 0
case-stored : (case live : ℕ) → is_case case ≡ true → case ≡ case_word (count_by case live)
case-stored case live e = by-test (eqb case 1) refl e
  where
    by-test : (t : Bool) → eqb case 1 ≡ t → (t || eqb case 2) ≡ true → case ≡ case_word (cond t None (Some live))
    by-test true f g = eqb-true case 1 f
    by-test false f g = eqb-true case 2 g

raw-zero : raw_of (pos 0) ≡ 0
unfolding unsigned
raw-zero = refl

tag-zero : tag_of 0 ≡ pos 0
unfolding signed
tag-zero = refl

format-in : (w : List ℕ) → is_state w ≡ true → word w 0 0 ≡ format
unfolding is_state
format-in w e = eqb-true (word w 0 0) format (both (has_format w) (both (has_format w && has_kinds w) e).0).0

case-in : (w : List ℕ) → is_state w ≡ true → is_case (word w 0 5) ≡ true
unfolding is_state
case-in w e = (both (is_side (word w 0 4)) (both (has_format w && has_kinds w) e).1).1

module _ (w : List ℕ) (few : (state_sheet w).clocks ≤ 8) where
  tags-listed : map raw_of (take (state_sheet w).clocks (state_progress w).tags) ≡ listed (λ k. raw_of (state_tag w k)) (state_sheet w).clocks
  tags-listed =
      ap (map raw_of) (sym (listed-take (pos 0) (state_tag w) (state_sheet w).clocks (state_progress w).tags (omega (arith, length-listed (state_tag w) 8)) (λ k h. sym (listed_at (state_tag w) (pos 0) 8 k (omega arith)))))
      ∙ map-listed (state_tag w) raw_of (state_sheet w).clocks

  -- nothing is behind the tags of eight clocks
  pub top-past : (q : ℕ) → 16 ≤ q → get_or (top_words (state_sheet w) (state_progress w)) q 0 ≡ 0
  top-past q h =
      get_or-eq_default (top_words (state_sheet w) (state_progress w)) 0 {n = q}
      (omega (arith, ap length tags-listed ∙ length-listed (λ k. raw_of (state_tag w k)) (state_sheet w).clocks))

  -- the last tags of clocks from C on are 0, where they are so stored
  pub tags-blank : AsStored w → BlankFrom (state_sheet w).clocks (pos 0) (state_progress w).tags
  tags-blank s k l = by-test (ltb k 8) refl
    where
      zero_word : k < 8 → word w 0 (8 + k) ≡ 0
      zero_word h =
          behind 8 (word w 0) (take 8 (top_words (state_sheet w) (state_progress w))) (map raw_of (take (state_sheet w).clocks (state_progress w).tags)) refl 64 s.top k (omega arith)
          ∙ ap (λ (xs : List ℕ). get_or xs k 0) tags-listed
          ∙ get_or-eq_default (listed (λ j. raw_of (state_tag w j)) (state_sheet w).clocks) 0 (omega (arith, length-listed (λ j. raw_of (state_tag w j)) (state_sheet w).clocks))

      by-test : (t : Bool) → ltb k 8 ≡ t → get_or (state_progress w).tags k (pos 0) ≡ pos 0
      by-test true e = let h = ltb-true k 8 e in listed_at (state_tag w) (pos 0) 8 k h ∙ ap (λ (x : ℕ). tag_of (x % 65536)) (zero_word h) ∙ tag-zero
      by-test false e = get_or-eq_default (state_progress w).tags (pos 0) (omega (arith, ltb-false k 8 e, length-listed (state_tag w) 8))

  module _ (state : is_state w ≡ true) (clocks : word w 0 1 ≡ (state_sheet w).clocks) (live : word w 0 6 ≡ live_count (state_progress w).count) (raw : (j : ℕ) → j < 8 → word w 0 (8 + j) ≡ raw_of (get_or (state_progress w).tags j (pos 0))) (blank : BlankFrom (state_sheet w).clocks (pos 0) (state_progress w).tags) (gap : word w 0 7 ≡ 0) (past : (q : ℕ) → 16 ≤ q → q < width → word w 0 q ≡ 0) where
    abbrev eight : List ℕ
    eight = format ∷ (state_sheet w).clocks ∷ (state_sheet w).count ∷ (state_progress w).instants ∷ (state_progress w).from ∷ case_word (state_progress w).count ∷ live_count (state_progress w).count ∷ 0 ∷ []

    first : (k : ℕ) → k < 8 → word w 0 k ≡ get_or eight k 0
    first zero h = format-in w state
    first (suc zero) h = clocks
    first (suc (suc zero)) h = refl
    first (suc (suc (suc zero))) h = refl
    first (suc (suc (suc (suc zero)))) h = refl
    first (suc (suc (suc (suc (suc zero))))) h = case-stored (word w 0 5) (word w 0 6) (case-in w state)
    first (suc (suc (suc (suc (suc (suc zero)))))) h = live
    first (suc (suc (suc (suc (suc (suc (suc zero))))))) h = gap
    first (suc (suc (suc (suc (suc (suc (suc (suc k)))))))) h = absurd (omega arith)

    tag-past : (k : ℕ) → (state_sheet w).clocks ≤ k → k < 56 → word w 0 (8 + k) ≡ 0
    tag-past k l h = by-test (ltb k 8) refl
      where
        by-test : (t : Bool) → ltb k 8 ≡ t → word w 0 (8 + k) ≡ 0
        by-test true e = raw k (ltb-true k 8 e) ∙ ap raw_of (blank k l) ∙ raw-zero
        by-test false e = past (8 + k) (omega (arith, ltb-false k 8 e)) (omega arith)

    tag_at : (k : ℕ) → k < 56 → word w 0 (8 + k) ≡ get_or (map raw_of (take (state_sheet w).clocks (state_progress w).tags)) k 0
    tag_at k h =
        listed-zeros (λ j. raw_of (state_tag w j)) (λ j. word w 0 (8 + j)) (state_sheet w).clocks 56
        (λ j l. raw j (omega arith) ∙ ap raw_of (listed_at (state_tag w) (pos 0) 8 j (omega arith))) tag-past k h
        ∙ ap (λ (xs : List ℕ). get_or xs k 0) (sym tags-listed)

    pub top-stored : RowIs w 0 (top_words (state_sheet w) (state_progress w))
    top-stored = joined 8 (word w 0) eight (map raw_of (take (state_sheet w).clocks (state_progress w).tags)) refl 56 first tag_at

-- ---- the state
module _ (w : List ℕ) {p : Plan} {lines : List ℕ} (planned : Planned (sheet_value (state_sheet w)) p lines) where
  -- its stopped clocks
  pub flags-in : AsStored w → FlagsStored w
  flags-in s = record { flag = λ h k l m j. among-rows h (state_progress w).from (live_count (state_progress w).count) (λ x y. held h k j x y) (λ f. flag-stored false (s.others h (omega arith) m f (stopped_part + k) (omega arith))) }
    where
      held : (h k : ℕ) → k < 8 → (state_progress w).from ≤ h → h < (state_progress w).from + live_count (state_progress w).count → word w h (stopped_part + k) ≡ flag_word (row_stop w h k)
      held h k j x y =
          let e : (state_progress w).from + (h - (state_progress w).from) ≡ h = omega arith in
          subst (λ (n : ℕ). word w n (stopped_part + k) ≡ flag_word (row_stop w n k)) e (row-flags planned w ((state_progress w).from + (h - (state_progress w).from)) (s.held (h - (state_progress w).from) (omega arith)) k j)

  pub nothing-else : AsStored w → NothingElse (state_progress w).count (state_progress w).from w
  nothing-else s h q l m k f = s.others h (omega arith) m f q k

  -- made of what is stored in the head and what is held
  pub stored-made : FewOwedIn (state_progress w).count w (state_progress w).from → NothingBeside p (state_progress w).count (state_progress w).from w
      → ((j k : ℕ) → j < live_count (state_progress w).count → k < p.clocks → word w ((state_progress w).from + j) (stopped_part + k) ≡ flag_word (row_stop w ((state_progress w).from + j) k))
      → RowIs w 0 (top_words (state_sheet w) (state_progress w)) → RowIs w 1 (kinds_row (state_sheet w)) → RowIs w 2 (numbers_row (state_sheet w)) → ((h q : ℕ) → 2 < h → h < head_rows → q < width → word w h q ≡ 0) → AsStored w
  stored-made small beside flags top kinds numbers free = record {
    top = top;
    kinds = kinds;
    numbers = numbers;
    held = λ j l. row-stored planned w ((state_progress w).from + j) (few-each (state_progress w).count w (state_progress w).from small j l) (beside.each j l) (λ k m. flags j k l m);
    others = λ h l m f q k. by-test h q l m k f (ltb h head_rows) refl;
  }
    where
      by-test : (h q : ℕ) → 2 < h → h < height → q < width → ((state_progress w).from ≤ h → h < (state_progress w).from + live_count (state_progress w).count → ⊥) → (t : Bool) → ltb h head_rows ≡ t → word w h q ≡ 0
      by-test h q l m k f true e = free h q l (ltb-true h head_rows e) k
      by-test h q l m k f false e = beside.others h q (ltb-false h head_rows e) m k f
