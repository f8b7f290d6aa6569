-- The sorted form of a sheet is one: two rising lists with the same lines are equal. It passes every check that the sheet passes, since no line of it is new and none stands twice; so it is written and reads back. Assumes nothing.
use mathlib.Core.Path.{◌≡◌, refl, sym, ap, subst, ◌∙◌}
use mathlib.Core.Bool.{true, true≢false}
use mathlib.Core.List.{List, [], ◌∷◌, map}
use Prim.Native.Nat.{ℕ, ◌*◌, ◌≤◌}
use native.Mathlib.Omega.{arith}
use lib.ListN.{length, take, length-append}
use lib.Dec.{ltb}
use borrow.Author.Tests.{le-ltb, ltb-false}
use Rattle.std.specs.Prelude.{Ok}
use Rattle.records.specs.declared.line.Line.{Line}
use Rattle.records.specs.declared.order.Order.TheVariants.{Rising, Any}
use Rattle.records.specs.Outcome.{taken, ◌⇒◌}
use Rattle.records.specs.Lists.{joined}
use Rattle.records.specs.Line.{kind_of, line_bytes}
use Rattle.records.specs.Order.{above, key_of}
use Rattle.records.specs.Sheet.{SheetValue, read_sheet, read_unordered, read_base, sheet_value_checks, value_lines_checks, sheet_bytes, write_sheet}
use Rattle.records.specs.Sort.{IsIn, Rises, SameLines, Sorted, SortsBytes, fitted, OneForm, SortedForm, OneFile}
use Rattle.records.specs.Store.{Wrote}
use Rattle.records.specs.Types.{IsBytes, IsLineValue, IsSheet}
use Rattle.records.specs.Inner.{sporadic_of}
use Rattle.records.proofs.Lists.{Passed, taken-passed, passed-taken, decide-passed}
use Rattle.records.proofs.Rising.{total, all_in, in_all, chain-total, one-chain}
use Rattle.records.proofs.line.Table.{shaped}
use Rattle.records.proofs.order.Laws.{above-itself, above_on}
use Rattle.records.proofs.record.Write.{wrote-all}
use Rattle.records.proofs.sheet.Passed.{Below, HasCount, sporadic-total, lines-passed, lines-counted, lines-rise, lines-pass}
use Rattle.records.proofs.sheet.RoundTrip.{kinds-24, read-writes, writes-read}

-- ---- the order of lines is strict
abbrev pub Under : Line → Line → Type 0
Under l m = above (key_of m) (key_of l) ≡ true

under_none : (l : Line) → Under l l → ⊥
under_none l h = true≢false (sym h ∙ above-itself (key_of l))

under-on : (k l m : Line) → Under k l → Under l m → Under k m
under-on k l m h g = above_on (key_of m) (key_of l) (key_of k) g h

pub one_form : OneForm
one_form v w c h g s =
    let e = one-chain Under under_none under-on v.lines w.lines h g s.there s.back in
    λ i. record { clocks = c i; lines = e i }

-- ---- no line is new and none stands twice
total-length : {A : Type 0} (xs : List A) → length xs ≡ total (λ (x : A). 1) xs
total-length [] = refl
total-length (x ∷ xs) = let e = total-length xs in omega arith

pub rises-few : (ls ms : List Line) → Rises ls → ((l : Line) → IsIn l ls → IsIn l ms) → length ls ≤ length ms
rises-few ls ms h g = let k = chain-total Under under_none under-on (λ (l : Line). 1) ls ms h g in omega (arith, total-length ls, total-length ms)

lines-size : (ls : List Line) → length (joined (map line_bytes ls)) ≤ 10 * length ls
lines-size [] = omega arith
lines-size (l ∷ ls) = let k = lines-size ls in omega (arith, (shaped l).short, length-append (line_bytes l) (joined (map line_bytes ls)))

module _ (v w : SheetValue) (s : Sorted v w) where
  fewer : length w.lines ≤ length v.lines
  fewer = rises-few w.lines v.lines s.rises s.lines.back

  pub sorted-value : IsSheet v → IsSheet w
  sorted-value h = (rw s.clocks h.0, in_all IsLineValue w.lines (λ l m. all_in IsLineValue v.lines h.1 l (s.lines.back l m)))

  pub sorted-passed : Passed (sheet_value_checks Any v) → Passed (sheet_value_checks Rising w)
  sorted-passed h =
      let c = s.clocks in
      let r = lines-passed Any v.clocks [] v.lines (omega arith) h.1.1 in
      let k = chain-total Under under_none under-on (λ (l : Line). sporadic_of (kind_of l)) w.lines v.lines s.rises s.lines.back in
      let below = in_all (Below v.clocks) w.lines (λ l m. all_in (Below v.clocks) v.lines r.0 l (s.lines.back l m)) in
      let counts = in_all HasCount w.lines (λ l m. all_in HasCount v.lines (lines-counted Any v.clocks [] v.lines h.1.1) l (s.lines.back l m)) in
      let size = le-ltb 16 (length w.lines) (omega (arith, fewer, ltb-false 16 (length v.lines) h.1.0)) in
      let LinesPass : ℕ → Type 0 = λ clocks. Passed (value_lines_checks Rising clocks [] w.lines) in
      let pass = lines-pass v.clocks [] w.lines below counts (omega (arith, r.1, k, sporadic-total w.lines, sporadic-total v.lines)) s.rises in
      rw c (h.0, (size, subst LinesPass (sym c) pass))

  -- nothing but the buffer's length can refuse it
  pub sorted-fitted : Passed (sheet_value_checks Any v) → (buffer : List ℕ) → write_sheet w buffer ≡ fitted buffer (sheet_bytes w)
  unfolding write_sheet
  sorted-fitted h buffer = rw (decide-passed ((ltb (length buffer) (length (sheet_bytes w)) ⇒ 10) ∷ []) (sheet_bytes w) (sheet_value_checks Rising w) (sorted-passed h))

  pub sorted_back : IsSheet v → Passed (sheet_value_checks Any v) → read_sheet (sheet_bytes w) ≡ taken w
  sorted_back is h =
      writes-read Rising 24 (sheet_bytes w) (record {
        value = sorted-value is;
        kinds = kinds-24 w.lines;
        checks = passed-taken (sheet_value_checks Rising w) w (sorted-passed h);
        bytes = refl;
      })

  -- how long it can be
  pub sorted-size : Passed (sheet_value_checks Any v) → length (sheet_bytes w) ≤ 165
  unfolding sheet_bytes
  sorted-size h = let k = lines-size w.lines in omega (arith, fewer, ltb-false 16 (length v.lines) h.1.0)

-- ---- the same lines
pub own-lines : (ls : List Line) → SameLines ls ls
own-lines ls = record { there = λ l m. m; back = λ l m. m }

other-lines : {ls ms : List Line} → SameLines ls ms → SameLines ms ls
other-lines s = record { there = s.back; back = s.there }

pub further-lines : {ks ls ms : List Line} → SameLines ks ls → SameLines ls ms → SameLines ks ms
further-lines s t = record { there = λ l m. t.there l (s.there l m); back = λ l m. s.back l (t.back l m) }

-- sheets of the same clocks and lines have one sorted form
pub same-form : (v w : SheetValue) → v.clocks ≡ w.clocks → SameLines v.lines w.lines → (x y : SheetValue) → Sorted v x → Sorted w y → x ≡ y
same-form v w c same x y s t =
    one_form x y (s.clocks ∙ c ∙ sym t.clocks) s.rises t.rises (further-lines (other-lines s.lines) (further-lines same t.lines))

-- ---- what was read
pub sorted-form : (b : List ℕ) → IsBytes b → (v w : SheetValue) → read_unordered b ≡ taken v → Sorted v w → SortedForm b v w
sorted-form b h v w e s =
    let r = read-writes Any 24 b h e in
    let p = (taken-passed (sheet_value_checks Any v) r.checks).0 in
    record {
      written = sorted-fitted v w s p;
      back = sorted_back v w s r.value p;
      kept = λ k.
          let q = read-writes Rising 24 b h k in
          let rises = lines-rise v.clocks [] v.lines tt (taken-passed (sheet_value_checks Rising v) q.checks).0.1.1 in
          ap sheet_bytes (one_form w v s.clocks s.rises rises (other-lines s.lines)) ∙ r.bytes;
    }

-- what document 01's rules take is taken with the later kinds too
pub base-unordered : (b : List ℕ) → IsBytes b → {v : SheetValue} → read_base b ≡ taken v → read_unordered b ≡ taken v
base-unordered b h {v} e =
    let r = read-writes Any 23 b h e in
    writes-read Any 24 b (record { value = r.value; kinds = kinds-24 v.lines; checks = r.checks; bytes = r.bytes })

-- what sorting wrote, where it wrote, is the bytes of the sorted form
pub sorted-written : (b before after : List ℕ) {n : ℕ} {v : SheetValue} → read_unordered b ≡ taken v → SortsBytes b before (Ok n) after
    → (w : SheetValue) × Sorted v w × (take n after ≡ sheet_bytes w)
sorted-written b before after {n} {v} e s =
    let t = s.sorts v e in
    let w = t.0 in
    (w, t.1, ap (λ (x : Wrote). take n x.buffer) t.2 ∙ (wrote-all [] (sheet_bytes w) before (sym (ap (λ (x : Wrote). x.answer) t.2))).bytes-there)

-- two files of the same lines
pub one-file : OneFile
one-file b c before v w e f k same r q after left x y =
    let s = x.sorts v e in
    let t = y.sorts w f in
    s.2 ∙ ap (λ (v : SheetValue). fitted before (sheet_bytes v)) (same-form v w k same s.0 t.0 s.1 t.1) ∙ sym t.2
