-- Laws for the functions that write a sheet, one for each way through the code. Assumes nothing.
use mathlib.Core.Path.{◌≡◌, refl, sym, ap, ◌∙◌}
use mathlib.Core.Bool.{Bool, true, false, cond}
use mathlib.Core.List.{List, [], ◌∷◌, ◌++◌, map}
use Prim.Native.Nat.{ℕ, suc, ◌+◌, ◌-◌, ◌<◌, ◌≤◌}
use native.Mathlib.Omega.{arith}
use lib.ListN.{length, set, length-append}
use lib.Dec.{leb, ltb}
use borrow.Author.Tests.{le-ltb, lt-ltb, ltb-false, leb-true}
use Rattle.std.specs.Prelude.{Result, Ok, Err}
use Rattle.records.specs.declared.line.Line.{Line}
use Rattle.records.specs.declared.order.Order.{Order}
use Rattle.records.specs.declared.order.Order.TheVariants.{Rising}
use Rattle.records.specs.declared.sheet.Sheet.{Sheet}
use Rattle.records.specs.declared.refusal.Refusal.{Refusal}
use Rattle.records.specs.declared.refusal.Refusal.TheVariants.{ClockCount, SeventeenthLine, ShortBuffer}
use Rattle.records.specs.Outcome.{taken, refused, outcome_of, Check, ◌⇒◌, decide}
use Rattle.records.specs.Lists.{listed_from, listed, joined}
use Rattle.records.specs.Word.{word_bytes}
use Rattle.records.specs.Store.{puts, wrote, leaves}
use Rattle.records.specs.Line.{is_sporadic, sporadics, value_line_checks, kind_of, body_of, line_bytes}
use Rattle.records.specs.Order.{key_of}
use Rattle.records.specs.Sheet.{clock_count, line_at, sheet_value, order_checks, value_lines_checks, sheet_value_checks, sheet_bytes, write_sheet}
use Rattle.records.specs.Types.{All, IsLineValue}
use Rattle.records.specs.Inner.{sporadic_of, answered, lines_fault, LineChecked, LinesChecked, Checked}
use Rattle.records.proofs.Lists.{both, Passed, refused-taken, kept-refused, kept-taken, taken-passed, decide-passed, decide-refused, all_snoc, listed_cons, listed-end, listed-snoc, length-listed, map-append}
use Rattle.records.proofs.Store.{puts-append, puts-front}
use Rattle.records.proofs.line.Table.{shaped}

-- ---- counting sporadic lines
pub sporadics-snoc : (ks : List ℕ) (k : ℕ) → sporadics (ks ++ (k ∷ [])) ≡ sporadics ks + sporadic_of k
sporadics-snoc [] k = by-test (is_sporadic k)
  where
    by-test : (t : Bool) → cond t (suc 0) 0 ≡ 0 + cond t 1 0
    by-test true = refl
    by-test false = refl
sporadics-snoc (x ∷ ks) k = by-test (is_sporadic x) (sporadics-snoc ks k)
  where
    by-test : (t : Bool) → sporadics (ks ++ (k ∷ [])) ≡ sporadics ks + sporadic_of k
        → cond t (suc (sporadics (ks ++ (k ∷ [])))) (sporadics (ks ++ (k ∷ []))) ≡ cond t (suc (sporadics ks)) (sporadics ks) + sporadic_of k
    by-test true e = omega arith
    by-test false e = e

pub sporadics-few : (ks : List ℕ) → sporadics ks ≤ length ks
sporadics-few [] = omega arith
sporadics-few (k ∷ ks) = by-test (is_sporadic k) (sporadics-few ks)
  where
    by-test : (t : Bool) → sporadics ks ≤ length ks → cond t (suc (sporadics ks)) (sporadics ks) ≤ suc (length ks)
    by-test true h = omega arith
    by-test false h = omega arith

pub sporadic-one : (k : ℕ) → sporadic_of k ≤ 1
sporadic-one k = by-test (is_sporadic k)
  where
    by-test : (t : Bool) → cond t 1 0 ≤ 1
    by-test true = omega arith
    by-test false = omega arith

-- ---- what an answer says of its checks
pub refused-done : {A X : Type 0} {e : Refusal} {v : A} → ◌≡◌ {A = Result A Refusal} (Err e) (Ok v) → X
refused-done e = refused-taken (ap outcome_of e)

module _ {A : Type 0} (cs : List Check) (x : A) where
  pub answered-refused : {n : ℕ} → refused n ≡ answered (decide cs x) → decide cs x ≡ refused n
  answered-refused e = kept-refused (λ (v : A). tt) (decide cs x) e

  pub answered-done : taken tt ≡ answered (decide cs x) → Passed cs
  answered-done e = (taken-passed cs (kept-taken (λ (v : A). tt) (decide cs x) e).1).0

-- ---- a line's own checks, and then its place in the order
module _ (order : Order) (s : Sheet) (i spent : ℕ) (l : Line) where
  abbrev own : List Check
  own = value_line_checks s.clocks spent (kind_of l) (body_of l)

  abbrev place : List Check
  place = order_checks order (map key_of (listed (line_at s) i)) (key_of l)

  pub own-refused : {n : ℕ} → refused n ≡ decide {A = Unit {0}} own tt → refused n ≡ answered (decide (own ++ place) l)
  own-refused e = rw (decide-refused place l own tt (sym e))

  pub own-passed : taken tt ≡ decide {A = Unit {0}} own tt → decide (own ++ place) l ≡ decide place l
  own-passed e = decide-passed place l own (taken-passed own (sym e)).0

-- ---- a turn of `check_lines`: the lines below i have passed
module _ (order : Order) (s : Sheet) (i spent : ℕ) where
  pub record Checking : Type 0 where
    pub counted : spent ≡ sporadics (map kind_of (listed (line_at s) i))
    pub values : All IsLineValue (listed (line_at s) i)
    pub left : lines_fault order (sheet_value s) ≡ decide (value_lines_checks order s.clocks (listed (line_at s) i) (listed_from (line_at s) i (s.count - i))) (sheet_value s)

pub check-start : (order : Order) (s : Sheet) → Checking order s 0 0
unfolding lines_fault listed_from
check-start order s = let k : s.count - 0 ≡ s.count = omega arith in record { counted = refl; values = tt; left = rw k }

module _ (order : Order) (s : Sheet) (i spent : ℕ) (c : Checking order s i spent) where
  pub check-end : i ≤ s.count → s.count ≤ i → LinesChecked order s (Ok tt)
  check-end g h =
      let k : s.count ≡ i = omega arith in
      record { answer = rw (c.left, listed-end (line_at s) s.count i h); values = λ d. rw k c.values }

  module _ (h : i < s.count) (l : Line) (e : l ≡ line_at s i) where
    -- the checks of line i, and of the lines after it
    abbrev these : List Check
    these = value_line_checks s.clocks (sporadics (map kind_of (listed (line_at s) i))) (kind_of (line_at s i)) (body_of (line_at s i)) ++ order_checks order (map key_of (listed (line_at s) i)) (key_of (line_at s i))

    abbrev later : List Check
    later = value_lines_checks order s.clocks (listed (line_at s) i ++ (line_at s i ∷ [])) (listed_from (line_at s) (i + 1) (s.count - (i + 1)))

    here : {r : Result (Unit {0}) Refusal} → LineChecked order s i spent l r → outcome_of r ≡ answered (decide these l)
    here f = f.answer ∙ rw (← c.counted, ← e)

    turn : lines_fault order (sheet_value s) ≡ decide (these ++ later) (sheet_value s)
    turn = c.left ∙ rw (listed_cons (line_at s) s.count i h)

    pub check-refused : {r : Refusal} → LineChecked order s i spent l (Err r) → LinesChecked order s (Err r)
    check-refused f = record {
      answer = rw (turn, decide-refused later (sheet_value s) these l (answered-refused these l (here f)));
      values = λ d. refused-done d;
    }

    pub check-more : {m : ℕ} → LineChecked order s i spent l (Ok tt) → m ≡ sporadic_of (kind_of l) → Checking order s (i + 1) (spent + m)
    check-more f p = record {
      counted = rw (listed-snoc (line_at s) i, map-append, sporadics-snoc, ← c.counted, p, e);
      values = rw (listed-snoc (line_at s) i, ← e) (all_snoc IsLineValue (listed (line_at s) i) c.values f.value);
      left = turn ∙ decide-passed later (sheet_value s) these (answered-done these l (here f)) ∙ rw (listed-snoc (line_at s) i);
    }

-- ---- the bytes of a sheet's lines from i on
module _ (s : Sheet) (n i : ℕ) where
  -- as `joined (map line_bytes ..)` of those lines
  abbrev pub lines_left : List ℕ
  lines_left = joined (map line_bytes (listed_from (line_at s) i (n - i)))

pub lines_cons : (s : Sheet) (n i : ℕ) {l : Line} → i < n → l ≡ line_at s i → lines_left s n i ≡ line_bytes l ++ lines_left s n (i + 1)
lines_cons s n i h e = rw (listed_cons (line_at s) n i h, e)

pub lines_none : (s : Sheet) (n i : ℕ) → n ≤ i → lines_left s n i ≡ []
lines_none s n i h = rw (listed-end (line_at s) n i h)

pub lines-all : (s : Sheet) → lines_left s s.count 0 ≡ joined (map line_bytes (sheet_value s).lines)
lines-all s = let k : s.count - 0 ≡ s.count = omega arith in rw k

pub sheet-length : (s : Sheet) → length (sheet_bytes (sheet_value s)) ≡ 5 + length (lines_left s s.count 0)
unfolding sheet_bytes
sheet-length s = rw lines-all (omega arith)

-- a turn of `sheet_size`
module _ (s : Sheet) (n i size : ℕ) where
  pub size-more : (k : ℕ) (l : Line) {total : ℕ} → total ≡ size + length (lines_left s n i) → i < n → l ≡ line_at s i → k ≡ length (line_bytes l) → total ≡ size + k + length (lines_left s n (i + 1))
  size-more k l t h e f = let g = ap length (lines_cons s n i h e) ∙ length-append (line_bytes l) (lines_left s n (i + 1)) in omega arith

  pub size-all : {total : ℕ} → total ≡ size + length (lines_left s n i) → n ≤ i → size ≡ total
  size-all t h = let g = ap length (lines_none s n i h) in omega arith

pub size_small : (k : ℕ) (l : Line) → k ≡ length (line_bytes l) → k ≤ 10
size_small k l f = omega (arith, (shaped l).short)

-- a turn of `put_sheet`
module _ (s : Sheet) (n i at : ℕ) (w b : List ℕ) (inv : w ≡ puts b at (lines_left s n i)) where
  pub put-more : (k : ℕ) (l : Line) (b' : List ℕ) → i < n → l ≡ line_at s i → k ≡ length (line_bytes l) → b' ≡ puts b at (line_bytes l) → w ≡ puts b' (at + k) (lines_left s n (i + 1))
  put-more k l b' h e f g = inv ∙ rw (lines_cons s n i h e, g, f) (puts-append b at (line_bytes l) (lines_left s n (i + 1)))

  pub put_all : {z : List ℕ} → n ≤ i → w ≡ z → b ≡ z
  put_all h e = sym (inv ∙ rw (lines_none s n i h)) ∙ e

-- the clocks record, and the lines behind it
pub sheet-stored : (s : Sheet) (b b₁ : List ℕ) → b₁ ≡ puts b 0 (word_bytes 1 ++ word_bytes 1) → puts (set b₁ 4 s.clocks) 5 (lines_left s s.count 0) ≡ puts b 0 (sheet_bytes (sheet_value s))
unfolding sheet_bytes
sheet-stored s b b₁ e = rw (e, lines-all)

-- the answers of `check_by`
module _ (order : Order) (s : Sheet) where
  pub check-4 : clock_count s.clocks ≡ false → Checked order s (Err ClockCount)
  check-4 h = record { answer = rw h; value = λ d. refused-done d }

  module _ (h : clock_count s.clocks ≡ true) where
    pub check-8 : 16 < s.count → Checked order s (Err SeventeenthLine)
    check-8 g = record { answer = rw (h, length-listed, lt-ltb 16 s.count g); value = λ d. refused-done d }

    pub check-all : s.count ≤ 16 → {r : Result (Unit {0}) Refusal} → LinesChecked order s r → Checked order s r
    unfolding lines_fault
    check-all g f = record {
      answer = f.answer ∙ rw (h, length-listed, le-ltb 16 s.count g);
      value = λ d. (omega (arith, leb-true s.clocks 8 (both (leb 1 s.clocks) h).1), f.values d);
    }

-- what a sheet that passed is
pub passed-few : (order : Order) (s : Sheet) → Passed (sheet_value_checks order (sheet_value s)) → s.count ≤ 16
passed-few order s h = omega (arith, ltb-false 16 (length (sheet_value s).lines) h.1.0, length-listed (line_at s) s.count)

module _ (order : Order) (s : Sheet) (f : Checked order s (Ok tt)) where
  pub checked-passed : Passed (sheet_value_checks order (sheet_value s))
  checked-passed = answered-done (sheet_value_checks order (sheet_value s)) (sheet_value s) f.answer

  pub few-lines : s.count ≤ 16
  few-lines = passed-few order s checked-passed

-- the answers of `write_sheet`
module _ (s : Sheet) (b : List ℕ) where
  abbrev checks : List Check
  checks = sheet_value_checks Rising (sheet_value s)

  abbrev last : List Check
  last = (ltb (length b) (length (sheet_bytes (sheet_value s))) ⇒ 10) ∷ []

  pub write-refused : {r : Refusal} → Checked Rising s (Err r) → wrote (Err r) b ≡ write_sheet (sheet_value s) b
  unfolding write_sheet
  write-refused f = rw (decide-refused last (sheet_bytes (sheet_value s)) checks (sheet_value s) (answered-refused checks (sheet_value s) f.answer))

  module _ (f : Checked Rising s (Ok tt)) (k : ℕ) (q : k ≡ length (sheet_bytes (sheet_value s))) where
    room : write_sheet (sheet_value s) b ≡ leaves b (decide ((ltb (length b) k ⇒ 10) ∷ []) (sheet_bytes (sheet_value s)))
    unfolding write_sheet
    room = rw (decide-passed last (sheet_bytes (sheet_value s)) checks (checked-passed Rising s f), q)

    pub write-10 : length b < k → wrote (Err ShortBuffer) b ≡ write_sheet (sheet_value s) b
    write-10 l = rw (room, lt-ltb (length b) k l)

    pub write_done : (b' : List ℕ) → k ≤ length b → b' ≡ puts b 0 (sheet_bytes (sheet_value s)) → wrote (Ok k) b' ≡ write_sheet (sheet_value s) b
    write_done b' l m = rw (room, le-ltb (length b) k l, m, puts-front b (sheet_bytes (sheet_value s)) (omega arith), q)
