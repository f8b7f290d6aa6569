-- Remainders stored in rows one by one, and read back: the row that is stored, the rows before it and the head, which stay. Assumes nothing.
use Rattle.std.specs.Prelude.{None, Option, Some}
use Rattle.std.specs.Option.{unwrap_or}
use mathlib.Core.Bool.{Bool, true, false, cond}
use mathlib.Core.List.{List, [], map}
use mathlib.Core.Logic.{⊎_elim}
use mathlib.Core.Option.{some}
use mathlib.Core.Path.{◌≡◌, refl, sym, ap, subst, ◌∙◌}
use Prim.Native.Nat.{ℕ, ◌+◌, ◌≤◌, ◌<◌}
use native.Mathlib.Nat.{eq-or-lt_of_le}
use native.Mathlib.Omega.{arith}
use lib.Dec.{T, leb, leb→le, le→leb}
use lib.ListN.{length, get_or, take}
use Rattle.records.specs.Line.{blank_line}
use Rattle.records.specs.Sheet.{SheetValue}
use Rattle.tesl.specs.Lists.{all}
use Rattle.tesl.proofs.Tests.{and_l, and_r, and_i}
use Rattle.work.specs.View.{used_part}
use Rattle.work.specs.Lines.{small_leads}
use Rattle.work.specs.Parts.{is_precedes}
use Rattle.work.proofs.Listing.{one_of, all_of}
use Rattle.work.proofs.Carried.{used-by}
use Rattle.lines.specs.declared.plan.Plan.{Plan}
use Rattle.remainders.specs.declared.remainder.Remainder as arrays
use Rattle.remainders.specs.View.{remainder_of, blank_obligation, blank_remainder, view_of, few_owed, sized_in}
use Rattle.remainders.specs.Unused.{NothingUnused}
use Rattle.lines.specs.Plan.{Planned}
use Rattle.remainders.specs.Rows.{all_words, row_of, rows_of, FewInRow, FewOwed, HeadStays}
use Rattle.step.specs.Apply.{FewOwedIn}
use Rattle.judge.specs.Stored.{PutRemainder, ToRows, StoredHeld, CopiedRows, FromRows}
use Rattle.remainders.proofs.Places.{as_is, all-at}
use Rattle.remainders.proofs.rows.Placing.{blank-at, each-place, first-listed}
use Rattle.remainders.proofs.rows.Laws.{few_words}
use Rattle.step.proofs.apply.Laws.{row_stays}

-- what past the end of an array of remainders reads
abbrev pub past_end : arrays.Remainder
past_end = record { owed = 0; obligations = []; counting = 0; countdowns = []; leads = []; stopped = [] }

-- ---- stored

-- row k of the first side reads as remainder k does
pub record Reads (rs : List arrays.Remainder) (rows : List ℕ) (k : ℕ) : Type 0 where
  pub few : FewInRow rows (6 + k)
  pub row : row_of rows (6 + k) ≡ remainder_of (get_or rs k past_end)

-- the first k are stored
pub record PuttingRows (rs : List arrays.Remainder) (was rows : List ℕ) (k : ℕ) : Type 0 where
  pub size : length rows ≡ all_words
  pub head : HeadStays was rows
  pub places : (j : ℕ) → j < k → Reads rs rows j

module _ (rs : List arrays.Remainder) {was : List ℕ} where
  pub rows_start : length was ≡ all_words → PuttingRows rs was was 0
  rows_start h = record { size = h; head = λ g p l m. refl; places = λ j l. absurd (omega arith) }

  module _ {rows : List ℕ} {k : ℕ} (w : PuttingRows rs was rows k) where
    pub rows_more : {after : List ℕ} → PutRemainder (6 + k) (get_or rs k past_end) rows after → PuttingRows rs was after (k + 1)
    rows_more {after} p =
        record {
          size = p.stays.size ∙ w.size;
          head = λ g q l m. p.stays.same g q m (λ e x y. omega arith) ∙ w.head g q l m;
          places = λ j l. ⊎_elim
              (λ (e : j ≡ k). rw e (record { few = p.few; row = p.row }))
              (λ (g : j < k). let q = w.places j g in
              record { few = few_words rows after (6 + j) (λ x m. p.stays.same (6 + j) x (omega arith) (λ e u y. omega arith)) q.few; row = row_stays p.stays (6 + j) q.few (λ e. omega arith) ∙ q.row })
              (eq-or-lt_of_le (omega arith));
        }

    pub rows-put : {n : ℕ} → n ≡ k → n ≤ length rs → ToRows n rs was rows
    rows-put {n} e h =
        record {
          size = w.size;
          head = w.head;
          small = λ j l. (w.places j (omega arith)).few;
          rows = λ v. sym (first-listed (view_of v) (λ j. used_part v (row_of rows (6 + j))) past_end rs n h (λ j l. ap (used_part v) (sym (w.places j (omega arith)).row)));
        }

-- remainder k has at most eight in each set
pub owes-few : (rs : List arrays.Remainder) (n k : ℕ) → k < n → n ≤ length rs → T (all few_owed (take n rs)) → T (few_owed (get_or rs k past_end))
owes-few rs n k h l t = all-at (λ (r : arrays.Remainder). r) rs n k past_end h l few_owed (rw as_is t)

pub room_for : {count : Option ℕ} {n : ℕ} (rs : List arrays.Remainder) → count ≡ Some n → T (sized_in count rs) → (n ≤ 32) × T (all few_owed (take n rs))
room_for {n = n} rs e t =
    let s : T (sized_in (Some n) rs) = rw e at t in
    let few = all few_owed (take n rs) in
    (leb→le n 32 (and_l (leb n 32) few s), and_r (leb n 32) few s)

module _ {count : Option ℕ} (rs : List arrays.Remainder) {a : List ℕ} where
  pub stored-none : count ≡ None → length a ≡ all_words → StoredHeld count rs a a
  stored-none e h = rw e (record { size = h; head = λ g p l m. refl; small = tt; held = λ v. refl })

  pub stored-live : {n : ℕ} {b : List ℕ} → count ≡ Some n → n ≤ 32 → ToRows n rs a b → StoredHeld count rs a b
  stored-live e h w = rw e (record { size = w.size; head = w.head; small = (h, w.small); held = λ v. ap some (w.rows v) })

-- ---- read back

pub blank-unused : (v : SheetValue) → NothingUnused v blank_remainder
blank-unused v =
    record {
      obligations = λ j h. blank-at blank_obligation 8 j;
      countdowns = λ j h. blank-at blank_obligation 8 j;
      leads = λ k. rw (blank-at {A = ℕ} 0 16 k) (sym (used-by (get_or v.lines k blank_line) 0 ∙ same (is_precedes (get_or v.lines k blank_line))));
      stopped = λ k h. blank-at false 8 k;
    }
  where
    same : (b : Bool) → ◌≡◌ {A = ℕ} (cond b 0 0) 0
    same true = refl
    same false = refl

module _ {p : Plan} {from n : ℕ} (rs : List arrays.Remainder) {rows : List ℕ} (w : CopiedRows p from n rs rows) where
  copied-few : n ≤ 32 → T (all few_owed (take n rs))
  copied-few h =
      rw (sym (as_is (take n rs)), first-listed (λ (r : arrays.Remainder). r) (λ k. get_or rs k blank_remainder) blank_remainder rs n (omega (arith, w.size)) (λ k l. refl))
      (all_of (λ k. get_or rs k blank_remainder) few_owed n (λ k l. (w.first k l).few))

  module _ {v : SheetValue} {lines : List ℕ} (planned : Planned v p lines) where
    copied-view : n ≤ 32 → T (all small_leads (rows_of v rows from n)) → map (view_of v) (take n rs) ≡ rows_of v rows from n
    copied-view h t =
        first-listed (view_of v) (λ k. used_part v (row_of rows (from + k))) blank_remainder rs n (omega (arith, w.size))
        (λ k l. (w.first k l).view v lines planned (one_of (λ j. used_part v (row_of rows (from + j))) small_leads n t k l))

    copied-unused : (k : ℕ) → NothingUnused v (get_or rs k blank_remainder)
    copied-unused = each-place (NothingUnused v) blank_remainder rs n (λ k h. (w.first k h).unused v lines planned) w.rest (blank-unused v)

  pub found_none : {count : Option ℕ} → count ≡ None → n ≡ 0 → FromRows p count from rs rows
  found_none e z =
      rw e
      (record { fits = tt; held = λ v lines planned t. refl; unused = λ v lines planned. copied-unused planned; rest = λ k h. w.rest k (omega arith) })

  pub found-live : {count : Option ℕ} → count ≡ Some n → n ≤ 32 → FromRows p count from rs rows
  found-live e h =
      rw e
      (record {
        fits = and_i (leb n 32) _ (le→leb n 32 h) (copied-few h);
        held = λ v lines planned t. ap some (copied-view planned h t);
        unused = λ v lines planned. copied-unused planned;
        rest = w.rest;
      })

pub small-live : {count : Option ℕ} {n : ℕ} (rows : List ℕ) (from : ℕ) → count ≡ Some n → FewOwedIn count rows from → (n ≤ 32) × FewOwed rows from n
small-live rows from e h = subst (λ (k : Option ℕ). FewOwedIn k rows from) e h

-- the remainders of a count, none once exhausted
pub found-rows : (count : Option ℕ) {p : Plan} {from : ℕ} (rs : List arrays.Remainder) {rows : List ℕ} → FewOwedIn count rows from → CopiedRows p from (unwrap_or count 0) rs rows → FromRows p count from rs rows
found-rows None rs h w = found_none rs w refl refl
found-rows (Some n) rs h w = found-live rs w refl h.0
