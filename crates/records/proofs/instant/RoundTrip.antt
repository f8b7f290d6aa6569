-- Reading and writing an instant are inverse to each other: what is read is written as the same bytes, what is written is read as the same value, and a byte string is read exactly if it is what some value is written as. Assumes nothing.
use mathlib.Core.Path.{◌≡◌, refl, sym, ap, ◌∙◌}
use mathlib.Core.Logic.{◌↔◌}
use mathlib.Core.Bool.{true, not}
use mathlib.Core.List.{List, [], ◌∷◌, ◌++◌}
use Prim.Native.Nat.{ℕ, ◌≤◌, ◌<◌}
use lib.ListN.{length, get_or, take, drop}
use lib.IntN.{pos}
use borrow.Author.Tests.{not-false}
use Rattle.records.specs.declared.instant.Tick.TheVariants.{Idle}
use Rattle.records.specs.declared.instant.Instant.{Instant}
use Rattle.std.specs.Prelude.{Ok}
use Rattle.records.specs.Outcome.{taken, ◌⇒◌}
use Rattle.records.specs.Lists.{listed}
use Rattle.records.specs.Record.{pieces}
use Rattle.records.specs.Sheet.{clock_count}
use Rattle.records.specs.Instant.{Cell, InstantValue, one_instant_checks, read_instant, cell_at, instant_value, SameInstant, instant_of, instant_read, instant_bytes, write_instant}
use Rattle.records.specs.Store.{wrote}
use Rattle.records.specs.Types.{IsBytes, IsInstantValue}
use Rattle.records.proofs.Lists.{taken-passed, passed-taken, listed_of, length-listed, filled_at}
use Rattle.records.proofs.record.Inverse.{pieces-bodies, pieces-bytes}
use Rattle.records.proofs.record.Write.{writes, wrote-all}
use Rattle.records.proofs.instant.Read.{read_done}
use Rattle.records.proofs.instant.Pieces.{instant_pieces, instant-pieces, instant-passed, instant-back, instant-taken, pieces-instant}

-- a value of c clocks that may be written, and the byte string that it is written as
pub record Writes (c : ℕ) (b : List ℕ) (v : InstantValue) : Type 0 where
  pub value : IsInstantValue v
  pub size : length v.cells ≡ c
  pub clocks : clock_count c ≡ true
  pub bytes : instant_bytes v ≡ b

pub read-writes : (c : ℕ) (b : List ℕ) → IsBytes b → {v : InstantValue} → read_instant c b ≡ taken v → Writes c b v
unfolding read_instant
read-writes c b h {v} e =
    let t = taken-passed ((not (clock_count c) ⇒ 4) ∷ one_instant_checks c (pieces b)) e in
    let s = instant-taken c (pieces b) (pieces-bodies b h) t.0.1 in
    let p : pieces b ≡ instant_pieces v = sym s.same ∙ ap instant_pieces t.1 in
    record {
      value = rw t.1 at s.value;
      size = rw t.1 at s.size;
      clocks = not-false (clock_count c) t.0.0;
      bytes = sym (pieces-instant v) ∙ (rw p at (pieces-bytes b h (rw p (tt, tt))));
    }

pub writes-read : (c : ℕ) (b : List ℕ) {v : InstantValue} → Writes c b v → read_instant c b ≡ taken v
unfolding read_instant
writes-read c b {v} w =
    rw (← w.bytes, instant-pieces v, instant-back v w.value.1, w.clocks)
    (passed-taken (one_instant_checks c (instant_pieces v)) v (instant-passed c v w.size))

-- the byte strings that are read are those of an instant of c clocks
pub accepted-exactly : (c : ℕ) (b : List ℕ) → IsBytes b → ((v : InstantValue) × (read_instant c b ≡ taken v)) ↔ ((v : InstantValue) × Writes c b v)
accepted-exactly c b h = (λ r. (r.0, read-writes c b h r.1), λ w. (w.0, writes-read c b w.1))

-- the struct of a value has that value
pub instant_of-value : (c : ℕ) (v : InstantValue) → length v.cells ≡ c → instant_value c (instant_of v) ≡ v
instant_of-value c v n = let e : listed (cell_at (instant_of v)) c ≡ v.cells = rw (← n) (listed_of blank (cell_at (instant_of v)) v.cells same) in λ j. record { form = v.form; cells = e j }
  where
    blank : Cell
    blank = record { tick = Idle; tag = pos 0 }

    same : (i : ℕ) → i < length v.cells → cell_at (instant_of v) i ≡ get_or v.cells i blank
    same i l =
        let t = filled_at (λ (x : Cell). x.tick) 8 blank v.cells i l in
        let g = filled_at (λ (x : Cell). x.tag) 8 blank v.cells i l in
        λ j. record { tick = t j; tag = g j }

-- read, then written: the same bytes, and not refused
module _ (c : ℕ) (b buffer : List ℕ) (l : length b ≤ length buffer) where
  pub value_written : {v : InstantValue} → Writes c b v → write_instant c v buffer ≡ wrote (Ok (length b)) (b ++ drop (length b) buffer)
  unfolding write_instant
  value_written {v} w = writes ((not (clock_count c) ⇒ 4) ∷ []) (instant_bytes v) buffer w.bytes (rw w.clocks (refl, tt)) l

  pub read-written : IsBytes b → {i : Instant} → instant_read (read_instant c b) ≡ taken i → write_instant c (instant_value c i) buffer ≡ wrote (Ok (length b)) (b ++ drop (length b) buffer)
  read-written h {i} e =
      let r = read_done (read_instant c b) {x = Ok i} (sym e) refl in
      let w = read-writes c b h r.is in
      rw (r.struct, instant_of-value c r.value w.size) (value_written w)

-- written, then read: the same value, up to unused places
pub record ReadBack (c : ℕ) (i : Instant) (b : List ℕ) : Type 0 where
  pub outcome : read_instant c b ≡ taken (instant_value c i)
  pub read : Instant
  pub answer : instant_read (read_instant c b) ≡ taken read
  pub same : SameInstant c read i

pub written_read : (c : ℕ) (i : Instant) (buffer : List ℕ) {n : ℕ} → IsInstantValue (instant_value c i) → (write_instant c (instant_value c i) buffer).answer ≡ taken n
    → ReadBack c i (take n (write_instant c (instant_value c i) buffer).buffer)
unfolding write_instant
written_read c i buffer {n} h e =
    let v : InstantValue = instant_value c i in
    let k : length v.cells ≡ c = length-listed (cell_at i) c in
    let w = wrote-all ((not (clock_count c) ⇒ 4) ∷ []) (instant_bytes v) buffer e in
    let r : read_instant c (take n (write_instant c v buffer).buffer) ≡ taken v =
    writes-read c _ (record { value = h; size = k; clocks = not-false (clock_count c) w.passed.0; bytes = sym w.bytes-there }) in
    record { outcome = r; read = instant_of v; answer = rw r; same = instant_of-value c v k }

-- what is written does not depend on unused places
pub unused-places : (c : ℕ) (i j : Instant) (buffer : List ℕ) → SameInstant c i j → write_instant c (instant_value c i) buffer ≡ write_instant c (instant_value c j) buffer
unused-places c i j buffer e = ap (λ (v : InstantValue). write_instant c v buffer) e
