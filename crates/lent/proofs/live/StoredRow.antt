-- The row of a remainder, word by word, is the one that the remainder it reads as is stored as. Assumes nothing.
use mathlib.Core.Bool.{Bool, true, false, cond}
use mathlib.Core.List.{List, ◌++◌, map}
use mathlib.Core.Path.{◌≡◌, refl, sym, ap, ◌∙◌}
use Prim.Native.Nat.{ℕ, zero, suc, ◌+◌, ◌*◌, ◌-◌, ◌/◌, ◌%◌, ◌≤◌, ◌<◌}
use native.Mathlib.Omega.{arith}
use lib.Dec.{ltb}
use lib.ListN.{length, get_or, take, get_or-append, get_or-eq_default}
use lib.Seq.{get_or-append-add}
use borrow.Author.Tests.{ltb-true, ltb-false}
use Rattle.records.specs.Lists.{listed}
use Rattle.records.specs.Line.{blank_line}
use Rattle.records.specs.Sheet.{SheetValue}
use Rattle.records.proofs.Lists.{listed-take, length-listed}
use Rattle.tesl.specs.Lists.{table}
use Rattle.tesl.specs.Remainder.{Remainder}
use Rattle.theory.specs.Step.{next_leads}
use Rattle.theory.proofs.Lists.{table_at}
use Rattle.work.specs.View.{in_use, used_part}
use Rattle.work.specs.Parts.{is_precedes}
use Rattle.work.proofs.Listing.{listed_at, listed_same, map-listed}
use Rattle.work.proofs.Carried.{sheet_line, next-places, used-by}
use Rattle.lines.specs.declared.plan.Plan.{Plan}
use Rattle.lines.specs.Plan.{Planned}
use Rattle.remainders.specs.declared.obligation.Obligation as code
use Rattle.remainders.specs.Word.{flag_word}
use Rattle.remainders.specs.View.{obligation_of, countdown_of}
use Rattle.remainders.specs.Rows.{parts, part_words, stopped_part, width, word, stored_in, row_count, row_obligation, row_set, row_lead, row_leads, row_stop, row_stopped, row_of, FewInRow, NothingInParts}
use Rattle.remainders.proofs.obligation.Laws.{number-due}
use Rattle.remainders.proofs.rows.Flags.{flag-stored}
use Rattle.lent.specs.UnusedWords.{NothingInRow}
use Rattle.lent.specs.StoredState.{place_word, obligation_word, countdown_word, placed, set_words, remainder_words, RowIs}

-- ---- lists one after the other: the first n places, and those behind them
module _ (n : ℕ) (f : ℕ → ℕ) (xs ys : List ℕ) (long : length xs ≡ n) where
  pub joined : (m : ℕ) → ((k : ℕ) → k < n → f k ≡ get_or xs k 0) → ((k : ℕ) → k < m → f (n + k) ≡ get_or ys k 0) → (k : ℕ) → k < n + m → f k ≡ get_or (xs ++ ys) k 0
  joined m first rest k h = by-test (ltb k n) refl
    where
      by-test : (t : Bool) → ltb k n ≡ t → f k ≡ get_or (xs ++ ys) k 0
      by-test true t = let l = ltb-true k n t in first k l ∙ sym (get_or-append xs ys 0 k (omega arith))
      by-test false t =
          let l = ltb-false k n t in
          let e : n + (k - n) ≡ k = omega arith in
          let g : length xs + (k - n) ≡ k = omega arith in
          ap f (sym e) ∙ rest (k - n) (omega arith) ∙ sym (get_or-append-add xs ys (k - n) 0) ∙ ap (λ (j : ℕ). get_or (xs ++ ys) j 0) g

  pub behind : (m : ℕ) → ((k : ℕ) → k < m → f k ≡ get_or (xs ++ ys) k 0) → (k : ℕ) → n + k < m → f (n + k) ≡ get_or ys k 0
  behind m row k h = row (n + k) h ∙ ap (λ (j : ℕ). get_or (xs ++ ys) (j + k) 0) (sym long) ∙ get_or-append-add xs ys k 0

length-placed : (n : ℕ) (ws : List ℕ) → length (placed n ws) ≡ n
length-placed n ws = length-listed (λ k. get_or ws k 0) n

-- a list of n, and zeros behind it
pub listed-zeros : (f g : ℕ → ℕ) (n m : ℕ) → ((k : ℕ) → k < n → g k ≡ f k) → ((k : ℕ) → n ≤ k → k < m → g k ≡ 0) → (k : ℕ) → k < m → g k ≡ get_or (listed f n) k 0
listed-zeros f g n m same zeros k h = by-test (ltb k n) refl
  where
    by-test : (t : Bool) → ltb k n ≡ t → g k ≡ get_or (listed f n) k 0
    by-test true t = let l = ltb-true k n t in same k l ∙ sym (listed_at f 0 n k l)
    by-test false t = let l = ltb-false k n t in zeros k l h ∙ sym (get_or-eq_default (listed f n) 0 (omega (arith, length-listed f n)))

-- ---- the row of a remainder
place-back : (x : ℕ) → place_word (x % 256) (x / 256 % 256) (x / 65536) ≡ x
place-back x = omega arith

obligation-back : (x : ℕ) → obligation_word (obligation_of (stored_in x)) ≡ x
obligation-back x = ap (place_word (x % 256) (x / 256 % 256)) (number-due (x / 65536)) ∙ place-back x

-- a set
module _ (rows : List ℕ) (i part : ℕ) (inside : part < parts) (few : row_count rows i part ≤ 8) (nothing : NothingInParts rows i) {A : Type 0} (read : code.Obligation → A) (back : A → ℕ) (same : (x : ℕ) → back (read (stored_in x)) ≡ x) where
  abbrev ws : List ℕ
  ws = map back (map read (row_set rows i part))

  as-listed : ws ≡ listed (λ j. word rows i (part_words * part + 1 + j)) (row_count rows i part)
  as-listed =
      ap (map back) (map-listed (row_obligation rows i part) read (row_count rows i part))
      ∙ map-listed (λ j. read (row_obligation rows i part j)) back (row_count rows i part)
      ∙ listed_same (row_count rows i part) (λ j l. same (word rows i (part_words * part + 1 + j)))

  at_place : (j : ℕ) → j < 8 → word rows i (part_words * part + 1 + j) ≡ get_or ws j 0
  at_place j l =
      listed-zeros (λ j. word rows i (part_words * part + 1 + j)) (λ j. word rows i (part_words * part + 1 + j)) (row_count rows i part) 8 (λ k h. refl) (λ k m h. nothing.places part k inside m h) j l
      ∙ ap (λ (ys : List ℕ). get_or ys j 0) (sym as-listed)

  set-row : (k : ℕ) → k < 9 → word rows i (part_words * part + k) ≡ get_or (set_words ws) k 0
  set-row zero h = let e : part_words * part + 0 ≡ part_words * part = omega arith in ap (word rows i) e ∙ sym (ap length as-listed ∙ length-listed (λ j. word rows i (part_words * part + 1 + j)) (row_count rows i part))
  set-row (suc j) h =
      let e : part_words * part + suc j ≡ part_words * part + 1 + j = omega arith in
      ap (word rows i) e ∙ at_place j (omega arith) ∙ sym (listed_at (λ k. get_or ws k 0) 0 8 j (omega arith))

-- its leads
length-table : (n : ℕ) (f : ℕ → ℕ) → length (table n f) ≡ n
length-table zero f = refl
length-table (suc n) f = ap suc (length-table n (λ k. f (suc k)))

module _ (v : SheetValue) (rows : List ℕ) (i : ℕ) (none : (k : ℕ) → k < 16 → is_precedes (sheet_line v k) ≡ false → row_lead rows i k ≡ 0) where
  lead-here : (k : ℕ) → k < 16 → row_lead rows i k ≡ in_use (sheet_line v k) (get_or (row_leads rows i) k 0)
  lead-here k h = by-test (is_precedes (sheet_line v k)) refl ∙ sym (used-by (sheet_line v k) (get_or (row_leads rows i) k 0))
    where
      by-test : (t : Bool) → is_precedes (sheet_line v k) ≡ t → row_lead rows i k ≡ cond t (get_or (row_leads rows i) k 0) 0
      by-test true e = sym (listed_at (row_lead rows i) 0 16 k h)
      by-test false e = none k h e

  abbrev one : ℕ → ℕ
  one j = in_use (sheet_line v j) (get_or (row_leads rows i) j 0)

  lead-at : (k : ℕ) → k < 16 → row_lead rows i k ≡ get_or (next_leads in_use v.lines (row_leads rows i)) k 0
  lead-at k h = by-test (ltb k (length v.lines)) refl ∙ ap (λ (xs : List ℕ). get_or xs k 0) (sym (next-places 0 in_use v.lines (row_leads rows i)))
    where
      by-test : (t : Bool) → ltb k (length v.lines) ≡ t → row_lead rows i k ≡ get_or (table (length v.lines) one) k 0
      by-test true e = lead-here k h ∙ sym (table_at (length v.lines) one k 0 (ltb-true k (length v.lines) e))
      by-test false e =
          let l = ltb-false k (length v.lines) e in
          none k h (ap is_precedes (get_or-eq_default v.lines blank_line l)) ∙ sym (get_or-eq_default (table (length v.lines) one) 0 (omega (arith, length-table (length v.lines) one)))

-- its stopped clocks
module _ (rows : List ℕ) (i clocks : ℕ) (few : clocks ≤ 8) where
  stopped-listed : map flag_word (take clocks (row_stopped rows i)) ≡ listed (λ k. flag_word (row_stop rows i k)) clocks
  stopped-listed =
      ap (map flag_word) (sym (listed-take false (row_stop rows i) clocks (row_stopped rows i) (omega (arith, length-listed (row_stop rows i) 8)) (λ k h. sym (listed_at (row_stop rows i) false 8 k (omega arith)))))
      ∙ map-listed (row_stop rows i) flag_word clocks

  stops-row : ((k : ℕ) → k < clocks → word rows i (stopped_part + k) ≡ flag_word (row_stop rows i k)) → ((q : ℕ) → stopped_part + clocks ≤ q → q < width → word rows i q ≡ 0) → (k : ℕ) → k < 30 → word rows i (stopped_part + k) ≡ get_or (map flag_word (take clocks (row_stopped rows i))) k 0
  stops-row flags rest k h =
      listed-zeros (λ j. flag_word (row_stop rows i j)) (λ j. word rows i (stopped_part + j)) clocks 30 flags (λ j l m. rest (stopped_part + j) (omega arith) (omega arith)) k h
      ∙ ap (λ (xs : List ℕ). get_or xs k 0) (sym stopped-listed)

-- all of it
module _ {v : SheetValue} {p : Plan} {lines : List ℕ} (planned : Planned v p lines) (rows : List ℕ) (i : ℕ) where
  abbrev row : Remainder
  row = used_part v (row_of rows i)

  abbrev owed : List ℕ
  owed = set_words (map obligation_word row.owed)

  abbrev counted : List ℕ
  counted = set_words (map countdown_word row.countdowns)

  abbrev leads : List ℕ
  leads = placed 16 row.leads

  abbrev stops : List ℕ
  stops = map flag_word row.stopped

  length-owed : length (set_words (map obligation_word row.owed)) ≡ 9
  length-owed = ap suc (length-placed 8 (map obligation_word row.owed))

  length-counted : length (set_words (map countdown_word row.countdowns)) ≡ 9
  length-counted = ap suc (length-placed 8 (map countdown_word row.countdowns))

  same : {q r : ℕ} → q ≡ r → word rows i q ≡ word rows i r
  same e = ap (word rows i) e

  pub row-stored : FewInRow rows i → NothingInRow p rows i → ((k : ℕ) → k < p.clocks → word rows i (stopped_part + k) ≡ flag_word (row_stop rows i k)) → RowIs rows i (remainder_words (used_part v (row_of rows i)))
  row-stored few n flags =
      joined 9 (word rows i) owed (counted ++ (leads ++ stops)) length-owed 55
      (λ k h. same (omega arith) ∙ set-row rows i 0 (omega arith) (few 0 (omega arith)) n.sets obligation_of obligation_word obligation-back k h)
      (joined 9 (λ k. word rows i (9 + k)) counted (leads ++ stops) length-counted 46
      (λ k h. same (omega arith) ∙ set-row rows i 1 (omega arith) (few 1 (omega arith)) n.sets countdown_of countdown_word place-back k h)
      (joined 16 (λ k. word rows i (9 + (9 + k))) leads stops (length-placed 16 row.leads) 30
      (λ k h. same (omega arith) ∙ lead-at v rows i (λ j l e. n.leads j l (sym (planned.leading.1 j) ∙ e)) k h ∙ sym (listed_at (λ j. get_or row.leads j 0) 0 16 k h))
      (λ k h. same (omega arith) ∙ stops-row rows i v.clocks planned.few-clocks (λ j l. flags j (omega (arith, planned.as_many))) (λ q l m. n.rest q (omega (arith, planned.as_many)) m) k h)))

  -- its stopped clocks, where it is so stored
  pub row-flags : RowIs rows i (remainder_words (used_part v (row_of rows i))) → (k : ℕ) → k < 8 → word rows i (stopped_part + k) ≡ flag_word (row_stop rows i k)
  row-flags r k h = by-test (ltb k v.clocks) refl
    where
      here : word rows i (stopped_part + k) ≡ get_or (listed (λ j. flag_word (row_stop rows i j)) v.clocks) k 0
      here =
          same (omega arith)
          ∙ behind 16 (λ j. word rows i (9 + (9 + j))) leads stops (length-placed 16 row.leads) 46
          (λ j l. behind 9 (λ j. word rows i (9 + j)) counted (leads ++ stops) length-counted 55 (λ j l. behind 9 (word rows i) owed (counted ++ (leads ++ stops)) length-owed 64 r j (omega arith)) j (omega arith)) k (omega arith)
          ∙ ap (λ (xs : List ℕ). get_or xs k 0) (stopped-listed rows i v.clocks planned.few-clocks)

      by-test : (t : Bool) → ltb k v.clocks ≡ t → word rows i (stopped_part + k) ≡ flag_word (row_stop rows i k)
      by-test true e = here ∙ listed_at (λ j. flag_word (row_stop rows i j)) 0 v.clocks k (ltb-true k v.clocks e)
      by-test false e =
          let l = ltb-false k v.clocks e in
          flag-stored false (here ∙ get_or-eq_default (listed (λ j. flag_word (row_stop rows i j)) v.clocks) 0 (omega (arith, length-listed (λ j. flag_word (row_stop rows i j)) v.clocks)))
