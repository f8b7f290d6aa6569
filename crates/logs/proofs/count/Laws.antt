-- A log's instants, read one by one: as many are taken as the machine of any sheet with these clocks takes. Assumes nothing.
use mathlib.Core.List.{List, [], ◌∷◌, ◌++◌}
use mathlib.Core.Path.{◌≡◌, refl}
use Prim.Native.Nat.{ℕ, suc, ◌+◌, ◌≤◌}
use native.Mathlib.Omega.{arith}
use lib.ListN.{length, drop, length-append, drop_of_length-le}
use mathlib.Core.Bool.{true, false, true≢false, false≢true}
use Rattle.std.specs.Prelude.{Result, Ok, Err}
use Rattle.std.specs.Result.{is_err}
use Rattle.records.specs.declared.instant.Instant as code
use Rattle.records.specs.declared.refusal.Refusal.{Refusal}
use Rattle.records.specs.Outcome.{outcome_of}
use Rattle.records.specs.Record.{TheRecord}
use Rattle.records.specs.Sheet.{SheetValue}
use Rattle.records.specs.Instant.{instant_read}
use Rattle.records.specs.Next.{read_next}
use Rattle.records.proofs.record.Cut.{no_pieces}
use Rattle.records.proofs.instant.Read.{read-refused, read_done}
use Rattle.records.proofs.next.Laws.{next-read}
use Rattle.tesl.specs.Run.{Instant}
use Rattle.tesl.specs.Machine.{machine}
use Rattle.theory.proofs.Accepted.{accepts-as}
use Rattle.theory.proofs.Log.{next-replies}
use Rattle.logs.specs.Entry.{answers_from}
use Rattle.logs.specs.Records.{Counted}

-- ---- what was read, or why not

module _ {A B : Type 0} where
  an-err : (x : Result A B) → is_err x ≡ true → (e : B) × (x ≡ Err e)
  an-err (Ok v) q = absurd (false≢true q)
  an-err (Err e) q = (e, refl)

  an-ok : (x : Result A B) → is_err x ≡ false → (v : A) × (x ≡ Ok v)
  an-ok (Ok v) q = (v, refl)
  an-ok (Err e) q = absurd (true≢false q)

-- ---- a turn

-- for every sheet with these clocks: a run of those counted, and those the machine takes after it
pub record Ahead (log : List ℕ) (n at : ℕ) (s : SheetValue) : Type 0 where
  pub run : List Instant
  pub counted : length run ≡ n
  pub all : length (answers_from s [] log) ≡ n + length (answers_from s run (drop at log))

pub record Counting (log : List ℕ) (clocks n at : ℕ) : Type 0 where
  pub most : n ≤ 4000
  pub ends : at ≤ length log
  pub same : (s : SheetValue) → s.clocks ≡ clocks → Ahead log n at s

pub counting-start : (log : List ℕ) (clocks : ℕ) → Counting log clocks 0 0
counting-start log clocks = record { most = omega arith; ends = omega arith; same = λ s e. record { run = []; counted = refl; all = omega arith } }

module _ {log : List ℕ} {clocks n at : ℕ} (w : Counting log clocks n at) where
  -- the machine takes no more
  counted : ((s : SheetValue) (run : List Instant) → s.clocks ≡ clocks → length run ≡ n → length (answers_from s run (drop at log)) ≡ 0) → Counted log clocks n
  counted none = record { most = w.most; same = λ s e. let a = w.same s e in omega (arith, a.all, none s a.run e a.counted) }

  pub counted-end : length log ≤ at → Counted log clocks n
  unfolding machine
  counted-end h = counted (λ s run e c. rw (drop_of_length-le log {i = at} h, no_pieces))

  module _ {p : List ℕ} (h : TheRecord log at p) (x : Result code.Instant Refusal) (r : outcome_of x ≡ instant_read (read_next clocks n p)) where
    pub counted-refused : is_err x ≡ true → Counted log clocks n
    counted-refused q = counted (λ s run e c. rw (next-replies h s run, accepts-as s run p e c (read-refused (read_next clocks n p) r (an-err x q).1)))

    pub counting_more : is_err x ≡ false → Counting log clocks (n + 1) (at + length p)
    counting_more q =
        let d = read_done (read_next clocks n p) r (an-ok x q).1 in
        let i : Instant = d.value.cells in
        record {
          most = omega (arith, (next-read clocks n p d.is).room);
          ends = h.within;
          same = λ s e.
              let a = w.same s e in
              let m : length (answers_from s a.run (drop at log)) ≡ suc (length (answers_from s (a.run ++ (i ∷ [])) (drop (at + length p) log))) =
              rw (next-replies h s a.run, accepts-as s a.run p e a.counted d.is) in
              record { run = a.run ++ (i ∷ []); counted = omega (arith, a.counted, length-append a.run (i ∷ [])); all = omega (arith, a.all, m) };
        }
