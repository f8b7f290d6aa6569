-- Reading and writing a sheet are inverse to each other: what is read is written as the same bytes, what is written is read as the same value, and a byte string is read exactly if it is what some value is written as. Assumes nothing.
use mathlib.Core.Path.{◌≡◌, sym, ap, ◌∙◌}
use mathlib.Core.Logic.{◌↔◌}
use mathlib.Core.List.{List, [], ◌∷◌, ◌++◌}
use Prim.Native.Nat.{ℕ, ◌≤◌}
use lib.ListN.{length, take, drop, get_or-append}
use Rattle.std.specs.Prelude.{Ok}
use lib.Dec.{leb}
use borrow.Author.Tests.{leb-true, ltb-false}
use Rattle.records.specs.declared.line.Line.{Line}
use Rattle.records.specs.declared.order.Order.{Order}
use Rattle.records.specs.declared.order.Order.TheVariants.{Rising}
use Rattle.records.specs.declared.sheet.Sheet.{Sheet}
use Rattle.records.specs.Outcome.{taken, decide}
use Rattle.records.specs.Record.{pieces}
use Rattle.records.specs.Line.{kind_of, blank_line}
use Rattle.records.specs.Sheet.{SheetValue, sheet_checks, read_by, read_sheet, line_at, sheet_value, SameSheet, sheet_of, sheet_read, sheet_value_checks, sheet_bytes, write_sheet}
use Rattle.records.specs.Store.{wrote}
use Rattle.records.specs.Types.{IsBytes, IsSheet}
use Rattle.records.proofs.Lists.{both, taken-passed, passed-taken, listed_of, kept-taken}
use Rattle.records.proofs.record.Inverse.{pieces-bodies, pieces-bytes}
use Rattle.records.proofs.record.Write.{writes, wrote-all}
use Rattle.records.proofs.line.Table.{shaped}
use Rattle.records.proofs.sheet.Pieces.{KindsTo, sheet_pieces, sheet-pieces, pieces-sheet, sheet-whole, sheet-decide, sheet-back, sheet-taken}

-- a value that may be written, its lines in an order and of kinds up to a last one, and the byte string that it is written as
pub record Writes (order : Order) (last : ℕ) (b : List ℕ) (v : SheetValue) : Type 0 where
  pub value : IsSheet v
  pub kinds : KindsTo last v.lines
  pub checks : decide (sheet_value_checks order v) v ≡ taken v
  pub bytes : sheet_bytes v ≡ b

module _ (order : Order) (last : ℕ) (b : List ℕ) where
  pub read-writes : IsBytes b → {v : SheetValue} → read_by order last b ≡ taken v → Writes order last b v
  unfolding read_by
  read-writes h {v} e =
      let t = taken-passed (sheet_checks order last (pieces b)) e in
      let s = sheet-taken order last (pieces b) (pieces-bodies b h) t.0 in
      let p : pieces b ≡ sheet_pieces v = sym s.same ∙ ap sheet_pieces t.1 in
      let k : KindsTo last v.lines = rw t.1 at s.kinds in
      record {
        value = rw t.1 at s.value;
        kinds = k;
        checks = sym (sheet-decide v order last v (rw t.1 at s.few) k) ∙ (rw p at (passed-taken (sheet_checks order last (pieces b)) v t.0));
        bytes = sym (pieces-sheet v) ∙ (rw p at (pieces-bytes b h (rw p (sheet-whole v))));
      }

  pub writes-read : {v : SheetValue} → Writes order last b v → read_by order last b ≡ taken v
  unfolding read_by
  writes-read {v} w =
      let c = taken-passed (sheet_value_checks order v) w.checks in
      rw (← w.bytes, sheet-pieces v, sheet-back v w.value) (sheet-decide v order last v (ltb-false 16 (length v.lines) c.0.1.0) w.kinds ∙ w.checks)

  -- the byte strings that are read are those of a sheet
  pub accepted-exactly : IsBytes b → ((v : SheetValue) × (read_by order last b ≡ taken v)) ↔ ((v : SheetValue) × Writes order last b v)
  accepted-exactly h = (λ r. (r.0, read-writes h r.1), λ w. (w.0, writes-read w.1))

-- every line is of a kind up to 24
pub kinds-24 : (ls : List Line) → KindsTo 24 ls
kinds-24 [] = tt
kinds-24 (l ∷ ls) = (leb-true (kind_of l) 24 (both (leb 16 (kind_of l)) (shaped l).line).1, kinds-24 ls)

-- the struct of a value has that value
pub sheet_of-value : (v : SheetValue) → sheet_value (sheet_of v) ≡ v
sheet_of-value v = rw (listed_of blank_line (line_at (sheet_of v)) v.lines (λ i l. get_or-append v.lines _ blank_line i l))

-- read, then written: the same bytes, and not refused
module _ (b buffer : List ℕ) (l : length b ≤ length buffer) where
  pub value_written : {last : ℕ} {v : SheetValue} → Writes Rising last b v → write_sheet v buffer ≡ wrote (Ok (length b)) (b ++ drop (length b) buffer)
  unfolding write_sheet
  value_written {last} {v} w = writes (sheet_value_checks Rising v) (sheet_bytes v) buffer w.bytes (taken-passed (sheet_value_checks Rising v) w.checks).0 l

  pub read-written : IsBytes b → {s : Sheet} → taken s ≡ sheet_read (read_sheet b) → write_sheet (sheet_value s) buffer ≡ wrote (Ok (length b)) (b ++ drop (length b) buffer)
  read-written h e =
      let r = kept-taken sheet_of (read_sheet b) e in
      rw (r.2, sheet_of-value r.0) (value_written (read-writes Rising 24 b h r.1))

-- written, then read: the same value, up to unused places
pub record ReadBack (s : Sheet) (b : List ℕ) : Type 0 where
  pub outcome : read_sheet b ≡ taken (sheet_value s)
  pub answer : sheet_read (read_sheet b) ≡ taken (sheet_of (sheet_value s))
  pub same : SameSheet (sheet_of (sheet_value s)) s

pub written_read : (s : Sheet) (buffer : List ℕ) {n : ℕ} → IsSheet (sheet_value s) → (write_sheet (sheet_value s) buffer).answer ≡ taken n
    → ReadBack s (take n (write_sheet (sheet_value s) buffer).buffer)
unfolding write_sheet
written_read s buffer {n} h e =
    let v : SheetValue = sheet_value s in
    let w = wrote-all (sheet_value_checks Rising v) (sheet_bytes v) buffer e in
    let r : read_sheet (take n (write_sheet v buffer).buffer) ≡ taken v =
    writes-read Rising 24 _ (record { value = h; kinds = kinds-24 v.lines; checks = passed-taken (sheet_value_checks Rising v) v w.passed; bytes = sym w.bytes-there }) in
    record { outcome = r; answer = rw r; same = sheet_of-value v }

-- what is written does not depend on unused places
pub unused-places : (s t : Sheet) (buffer : List ℕ) → SameSheet s t → write_sheet (sheet_value s) buffer ≡ write_sheet (sheet_value t) buffer
unused-places s t buffer e = ap (λ (v : SheetValue). write_sheet v buffer) e
