-- The machine's list: at most 4,000 instants, each with a cell for each clock and tags of 16 bits; and what a call is taken for. Assumes nothing.
use mathlib.Core.List.{List, [], ◌∷◌}
use mathlib.Core.Path.{◌≡◌, refl, sym}
use Prim.Native.Nat.{ℕ, ◌≤◌}
use native.Mathlib.Omega.{arith}
use lib.ListN.{length, length-append}
use Rattle.records.specs.Outcome.{Outcome, taken, refused}
use Rattle.records.specs.Sheet.{SheetValue}
use Rattle.records.specs.Instant.{InstantValue}
use Rattle.records.specs.Next.{read_next}
use Rattle.records.specs.Types.{All, IsBytes, IsInstant}
use Rattle.records.proofs.Lists.{refused-taken, taken-same, refused-same}
use Rattle.records.proofs.instant.RoundTrip.{read-writes}
use Rattle.records.proofs.next.Laws.{NextRead, next-read, next-refused}
use Rattle.tesl.specs.Run.{Instant}
use Rattle.tesl.specs.Machine.{judged_part, accepts, list_after, list_after_calls}
use Rattle.theory.specs.Limits.{ListLimits}
use Rattle.theory.proofs.Lists.{each_snoc}

-- ---- a call

-- what a call is taken for are the ticks and tags of the next instant
pub record TakenAs (s : SheetValue) (run : List Instant) (bytes : List ℕ) (i : Instant) : Type 0 where
  pub value : InstantValue
  pub cells : value.cells ≡ i
  pub next : NextRead s.clocks (length run) bytes value

pub taken_next : (s : SheetValue) (run : List Instant) (bytes : List ℕ) {i : Instant} → accepts s run bytes ≡ taken i → TakenAs s run bytes i
unfolding accepts
taken_next s run bytes {i} e = by-outcome (read_next s.clocks (length run) bytes) refl e
  where
    by-outcome : (o : Outcome InstantValue) → read_next s.clocks (length run) bytes ≡ o → judged_part o ≡ taken i → TakenAs s run bytes i
    by-outcome (refused n) r x = refused-taken x
    by-outcome (taken v) r x = record { value = v; cells = taken-same x; next = next-read s.clocks (length run) bytes r }

-- what is read as the next instant of as many clocks, where as many are held, is what a call is taken for
pub accepts-as : (s : SheetValue) (run : List Instant) (bytes : List ℕ) {c held : ℕ} → s.clocks ≡ c → length run ≡ held → {o : Outcome InstantValue} → read_next c held bytes ≡ o
    → accepts s run bytes ≡ judged_part o
unfolding accepts
accepts-as s run bytes e l q = rw (e, l, q)

-- a call is refused with a number up to 19
pub refused-number : (s : SheetValue) (run : List Instant) (bytes : List ℕ) {n : ℕ} → accepts s run bytes ≡ refused n → n ≤ 19
unfolding accepts
refused-number s run bytes {n} e = by-outcome (read_next s.clocks (length run) bytes) refl e
  where
    by-outcome : (o : Outcome InstantValue) → read_next s.clocks (length run) bytes ≡ o → judged_part o ≡ refused n → n ≤ 19
    by-outcome (taken v) r x = refused-taken (sym x)
    by-outcome (refused k) r x = let m : k ≡ n = refused-same x in omega (arith, next-refused s.clocks (length run) bytes r)

-- ---- the list

pub list-after : (s : SheetValue) (run : List Instant) (bytes : List ℕ) → IsBytes bytes → ListLimits s run → ListLimits s (list_after run (accepts s run bytes))
list-after s run bytes b h = by-outcome (accepts s run bytes) refl
  where
    by-outcome : (o : Outcome Instant) → accepts s run bytes ≡ o → ListLimits s (list_after run o)
    by-outcome (refused n) e = h
    by-outcome (taken i) e =
        let t = taken_next s run bytes e in
        let w = read-writes s.clocks bytes b t.next.read in
        record {
          instants-most = omega (arith, h.instants-most, t.next.room, length-append run (i ∷ []));
          sizes = each_snoc (λ (i : Instant). length i ≡ s.clocks) run h.sizes (rw t.cells at w.size);
          values = each_snoc IsInstant run h.values (rw t.cells at w.value.1);
        }

pub list_held : (s : SheetValue) (calls : List (List ℕ)) → All IsBytes calls → ListLimits s (list_after_calls s [] calls)
unfolding list_after_calls
list_held s calls b = from [] calls (record { instants-most = omega arith; sizes = tt; values = tt }) b
  where
    from : (run : List Instant) (calls : List (List ℕ)) → ListLimits s run → All IsBytes calls → ListLimits s (list_after_calls s run calls)
    from run [] h b = h
    from run (bytes ∷ calls) h b = from (list_after run (accepts s run bytes)) calls (list-after s run bytes b.0 h) b.1
