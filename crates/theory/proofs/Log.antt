-- The plain machine along a log: what it makes of the record at a place, and of the records behind it. Assumes nothing.
use mathlib.Core.List.{List, [], ◌∷◌, append-nil}
use mathlib.Core.Path.{◌≡◌, sym, ap, ◌∙◌}
use Prim.Native.Nat.{ℕ, ◌+◌}
use lib.ListN.{length, drop}
use Rattle.records.specs.Record.{Piece, whole, torn, front, pieces, TheRecord, record_bytes}
use Rattle.records.specs.Outcome.{Outcome}
use Rattle.records.specs.Sheet.{SheetValue}
use Rattle.records.specs.Instant.{InstantValue, read_instant}
use Rattle.records.specs.Next.{if_next, read_next}
use Rattle.records.proofs.record.Cut.{no_pieces}
use Rattle.records.proofs.record.Inverse.{pieces-record}
use Rattle.tesl.specs.Run.{Instant}
use Rattle.tesl.specs.Machine.{judged_part, accepts, list_after, reply, machine, list_after_calls, accepts_each, call_of, calls_of}

-- ---- a call

-- bytes that are one record are read as that record is when it is handed over
pub same_read : (c : ℕ) (p : List ℕ) (q : Piece) → pieces p ≡ q ∷ [] → read_instant c p ≡ read_instant c (call_of q)
unfolding read_instant
same_read c p torn e = rw (e, no_pieces)
same_read c p (whole kind body) e =
    let k : pieces (record_bytes kind body) ≡ whole kind body ∷ [] = ap pieces (sym (append-nil (record_bytes kind body))) ∙ pieces-record kind body [] ∙ rw no_pieces in
    rw (e, k)

pub same-call : (s : SheetValue) (run : List Instant) (p : List ℕ) (q : Piece) → pieces p ≡ q ∷ [] → accepts s run p ≡ accepts s run (call_of q)
unfolding accepts read_next
same-call s run p q e = ap (λ (o : Outcome InstantValue). judged_part (if_next (length run) o)) (same_read s.clocks p q e)

module _ {log : List ℕ} {at : ℕ} {p : List ℕ} (h : TheRecord log at p) where
  -- the machine's reply to the record, and the rest
  pub next-replies : (s : SheetValue) (run : List Instant)
      → machine s run (calls_of (drop at log)) ≡ reply s run (accepts s run p) ∷ machine s (list_after run (accepts s run p)) (calls_of (drop (at + length p) log))
  unfolding machine
  next-replies s run = rw (h.others, same-call s run p (front (drop at log)) h.one)

  pub next-held : (s : SheetValue) (run : List Instant) → list_after_calls s run (calls_of (drop at log)) ≡ list_after_calls s (list_after run (accepts s run p)) (calls_of (drop (at + length p) log))
  unfolding list_after_calls
  next-held s run = rw (h.others, same-call s run p (front (drop at log)) h.one)

  -- what the record is taken for, and the rest
  pub next-accepts : (s : SheetValue) (run : List Instant)
      → accepts_each s run (calls_of (drop at log)) ≡ accepts s run p ∷ accepts_each s (list_after run (accepts s run p)) (calls_of (drop (at + length p) log))
  unfolding accepts_each
  next-accepts s run = rw (h.others, same-call s run p (front (drop at log)) h.one)
