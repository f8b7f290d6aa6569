-- Laws of writing an instant: its clocks one behind the other, its record, and one for each way through `write_instant`. Assumes nothing.
use mathlib.Core.Path.{◌≡◌, sym, ◌∙◌}
use mathlib.Core.Bool.{true, false}
use mathlib.Core.List.{List, ◌++◌}
use Prim.Native.Nat.{ℕ, ◌+◌, ◌-◌, ◌*◌, ◌<◌, ◌≤◌}
use native.Mathlib.Omega.{arith}
use native.Mathlib.Nat.{sub-zero, add-zero}
use lib.ListN.{length, length-append}
use lib.IntN.{ℤ}
use lib.Signed.{mag}
use mir.Syntax.{w16}
use mir.Val.{to_z, of_z}
use borrow.Author.Tests.{lt-ltb, le-ltb}
use Rattle.records.specs.declared.instant.Tick.{Tick}
use Rattle.records.specs.declared.instant.Instant.{Instant}
use Rattle.std.specs.Prelude.{Ok, Err}
use Rattle.records.specs.declared.refusal.Refusal.TheVariants.{ClockCount, ShortBuffer}
use Rattle.records.specs.Lists.{listed_from}
use Rattle.records.specs.Word.{word_bytes}
use Rattle.records.specs.Sheet.{clock_count}
use Rattle.records.specs.Store.{puts, wrote}
use Rattle.records.specs.Instant.{Cell, tick_at, cell_tag, cell_at, instant_value, form_kind, number_bytes, cell_bytes, cells_bytes, instant_bytes, write_instant}
use Rattle.records.proofs.Lists.{length-listed, listed_cons, listed-end}
use Rattle.records.proofs.Store.{puts-append, puts-both, puts-front}
use Rattle.records.proofs.word.Laws.{back}
use Rattle.records.proofs.instant.Pieces.{length-cells}

abbrev cell_in : List Tick → List ℤ → ℕ → Cell
cell_in ticks tags i = record { tick = tick_at ticks i; tag = cell_tag tags i }

-- a buffer with the clocks from place i on stored, of n clocks, the first of them at `at`
unfoldable pub stored_from : List Tick → List ℤ → ℕ → ℕ → ℕ → List ℕ → List ℕ
stored_from ticks tags at n i b = puts b (at + 3 * i) (cells_bytes (listed_from (cell_in ticks tags) i (n - i)))

-- a turn of the loop that stores clocks
module _ {w : List ℕ} (ticks : List Tick) (tags : List ℤ) (at n i : ℕ) (b : List ℕ) (inv : w ≡ stored_from ticks tags at n i b) where
  pub cell-more : i < n → (t : Tick) (z : ℤ) (b' : List ℕ) → t ≡ tick_at ticks i → z ≡ cell_tag tags i → mag z < 32768 → b' ≡ puts b (at + 3 * i) (cell_bytes (record { tick = t; tag = to_z w16 (of_z w16 z) }))
      → w ≡ stored_from ticks tags at n (i + 1) b'
  unfolding stored_from
  cell-more h t z b' p q f e =
      let j : at + 3 * i + 3 ≡ at + 3 * (i + 1) = omega arith in
      inv ∙ rw (listed_cons (cell_in ticks tags) n i h, e, p, back f q, ← j) (puts-append b (at + 3 * i) (cell_bytes (cell_in ticks tags i)) (cells_bytes (listed_from (cell_in ticks tags) (i + 1) (n - (i + 1)))))

  cells-stored : n ≤ i → b ≡ w
  unfolding stored_from
  cells-stored h = sym (inv ∙ rw (listed-end (cell_in ticks tags) n i h))

-- all clocks are stored
pub clocks-stored : (c : ℕ) (v : Instant) (at : ℕ) (b₁ b₂ : List ℕ) (n i : ℕ) → n ≡ c → stored_from v.ticks v.tags at n 0 b₁ ≡ stored_from v.ticks v.tags at n i b₂ → n ≤ i
    → b₂ ≡ puts b₁ at (cells_bytes (instant_value c v).cells)
unfolding stored_from
clocks-stored c v at b₁ b₂ n i e inv h = cells-stored v.ticks v.tags at n i b₂ inv h ∙ rw (e, sub-zero, add-zero)

length-clocks : (c : ℕ) (v : Instant) → length (cells_bytes (instant_value c v).cells) ≡ 3 * c
length-clocks c v = omega (arith, length-cells (instant_value c v).cells, length-listed (cell_at v) c)

pub length-instant : (c : ℕ) (v : Instant) → length (instant_bytes (instant_value c v)) ≡ 4 + length (number_bytes v.form) + 3 * c
unfolding instant_bytes
length-instant c v = omega (arith, length-append (number_bytes v.form) (cells_bytes (instant_value c v).cells), length-clocks c v)

-- the room that a record asks for, in parts
pub record Room (c : ℕ) (v : Instant) (b : List ℕ) : Type 0 where
  pub head : 4 ≤ length b
  pub number : 4 + length (number_bytes v.form) ≤ length b
  pub clocks : 4 + length (number_bytes v.form) + 3 * c ≤ length b

pub room : (c : ℕ) (v : Instant) (b : List ℕ) → length (instant_bytes (instant_value c v)) ≤ length b → Room c v b
room c v b h = let k = length-instant c v in record { head = omega arith; number = omega arith; clocks = omega arith }

-- head, number and clocks, one behind the other: the record
pub instant-stored : (c : ℕ) (v : Instant) (b b₁ b₂ b₃ : List ℕ) (len kind before : ℕ) → len ≡ length (number_bytes v.form) + 3 * c → kind ≡ form_kind v.form → before ≡ length (number_bytes v.form)
    → b₁ ≡ puts b 0 (word_bytes len ++ word_bytes kind) → b₂ ≡ puts b₁ 4 (number_bytes v.form) → b₃ ≡ puts b₂ (4 + before) (cells_bytes (instant_value c v).cells)
    → b₃ ≡ puts b 0 (instant_bytes (instant_value c v))
unfolding instant_bytes
instant-stored c v b b₁ b₂ b₃ len kind before l k n p q r =
    let number : List ℕ = number_bytes v.form in
    let clocks : List ℕ = cells_bytes (instant_value c v).cells in
    let s : len ≡ length (number ++ clocks) = omega (arith, length-append number clocks, length-clocks c v) in
    puts-both b 0 (word_bytes len ++ word_bytes kind) (number ++ clocks) p (puts-both b₁ 4 number clocks q (r ∙ rw n)) ∙ rw (s, k)

-- the answers of `write_instant`
module _ (c : ℕ) (v : Instant) (b : List ℕ) where
  pub write-4 : clock_count c ≡ false → wrote (Err ClockCount) b ≡ write_instant c (instant_value c v) b
  unfolding write_instant
  write-4 h = rw h

  module _ (h : clock_count c ≡ true) (size : ℕ) (e : size ≡ 4 + length (number_bytes v.form) + 3 * c) where
    pub write-10 : length b < size → wrote (Err ShortBuffer) b ≡ write_instant c (instant_value c v) b
    unfolding write_instant
    write-10 l = let k = length-instant c v in rw (h, lt-ltb (length b) (length (instant_bytes (instant_value c v))) (omega arith))

    pub write_done : size ≤ length b → {b' : List ℕ} → b' ≡ puts b 0 (instant_bytes (instant_value c v)) → wrote (Ok size) b' ≡ write_instant c (instant_value c v) b
    unfolding write_instant
    write_done l q =
        let k = length-instant c v in
        let s : size ≡ length (instant_bytes (instant_value c v)) = omega arith in
        rw (q, s, puts-front b (instant_bytes (instant_value c v)) (omega arith), h, le-ltb (length b) (length (instant_bytes (instant_value c v))) (omega arith))
