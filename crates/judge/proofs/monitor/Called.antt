-- A call of `observe`, by what it is taken for: 11; 12 to 15 as reading gives them; 16; 19; or an accepted instant. Assumes nothing.
use mathlib.Core.Bool.{Bool, true, false, not}
use mathlib.Core.List.{List, map}
use mathlib.Core.Path.{◌≡◌, sym, ap, ◌∙◌, subst}
use Prim.Native.Nat.{ℕ}
use native.Mathlib.Omega.{arith}
use lib.IntN.{pos}
use lib.ListN.{length, length-map}
use borrow.Author.Tests.{not-true, not-false}
use Rattle.std.specs.Prelude.{Result, Ok, Err}
use Rattle.records.specs.declared.instant.Instant as code
use Rattle.records.specs.declared.refusal.Refusal.{Refusal}
use Rattle.records.specs.declared.refusal.Refusal.TheVariants.{MonitorLimits}
use Rattle.records.specs.Refusal.{refusal_number}
use Rattle.records.specs.Outcome.{taken, refused, outcome_of}
use Rattle.records.specs.Instant.{Cell, instant_read}
use Rattle.records.specs.Types.{All, IsBytes}
use Rattle.records.specs.Next.{read_next}
use Rattle.records.proofs.Lists.{both, refused-taken, refused-same}
use Rattle.records.proofs.instant.Read.{Read, read-refused, read_done}
use Rattle.records.proofs.instant.RoundTrip.{read-writes}
use Rattle.records.proofs.next.Laws.{NextRead, next-read}
use Rattle.tesl.specs.Run.{Instant}
use Rattle.tesl.proofs.Tests.{≡→T}
use Rattle.tesl.specs.Answer.{most_live}
use Rattle.remainders.specs.declared.remainder.Remainder as arrays
use Rattle.judge.specs.declared.monitor.Monitor.{Monitor}
use Rattle.judge.specs.declared.monitor.CallResult.{CallResult}
use Rattle.remainders.specs.Unused.{BlankFrom}
use Rattle.judge.specs.Answer.{reply_of}
use Rattle.judge.specs.Limits.{sheet_within, monitor_within, Limited}
use Rattle.judge.specs.Monitor.{sheet_by, refused_call, Accepts}
use Rattle.judge.specs.Promises.{observes, Accepted, Called, Observed}
use Rattle.remainders.proofs.rows.Placing.{filled-past}
use Rattle.judge.proofs.monitor.Limits.{Limits, limits_of, held-shaped}
use Rattle.judge.proofs.monitor.Observed.{accepted}

-- ---- by the outcome

module _ (m : Monitor) (bytes : List ℕ) (r : CallResult Refusal) where
  called-refused : {why : Refusal} → observes m bytes ≡ refused (refusal_number why) → r ≡ refused_call why m → Called m bytes r
  called-refused {why} e q = record {
    refuses = λ k f. record { reply = ap (λ (c : CallResult Refusal). reply_of c.reply) q ∙ ap refused (refused-same (sym e ∙ f)); monitor = ap (λ (c : CallResult Refusal). c.monitor) q };
    accepts = λ i f. refused-taken (sym e ∙ f);
  }

  called-taken : {i : Instant} → observes m bytes ≡ taken i → Accepted m i r → Called m bytes r
  called-taken {i} e a = record {
    refuses = λ k f. refused-taken (sym f ∙ e);
    accepts = λ j f. let z : i ≡ j = cc in subst (λ (x : Instant). Accepted m x r) z a;
  }

  -- ---- by the tests

  -- 11
  pub observed-outside : {b : Bool} → Limited m b → not b ≡ true → r ≡ refused_call MonitorLimits m → Observed m bytes r
  unfolding observes
  observed-outside {b} l e q =
      let w : monitor_within m ≡ false = sym l.answer ∙ not-true b e in
      let f : observes m bytes ≡ refused 11 = rw w in
      record { called = called-refused f q; unused = λ i g. refused-taken (sym f ∙ g) }

module _ (m : Monitor) {b : Bool} (l : Limited m b) (e : not b ≡ false) where
  inside : monitor_within m ≡ true
  inside = sym l.answer ∙ not-false b e

  its-limits : Limits m
  its-limits = limits_of m (l.value (not-false b e)) inside

module _ (m : Monitor) (bytes : List ℕ) {b : Bool} (l : Limited m b) (e : not b ≡ false)
    {x : Result code.Instant Refusal} (h : outcome_of x ≡ instant_read (read_next m.sheet.clocks m.instants bytes)) where
  -- 12 to 16, 19
  pub called-unread : {r : CallResult Refusal} {why : Refusal} → x ≡ Err why → r ≡ refused_call why m → Called m bytes r
  unfolding observes
  called-unread {r} q g =
      let k = read-refused (read_next m.sheet.clocks m.instants bytes) h q in
      called-refused m bytes r (rw ((inside m l e), k)) g

  module _ {instant : code.Instant} (q : x ≡ Ok instant) where
    was_read : Read (read_next m.sheet.clocks m.instants bytes) instant
    was_read = read_done (read_next m.sheet.clocks m.instants bytes) h q

    is-next : NextRead m.sheet.clocks m.instants bytes was_read.value
    is-next = next-read m.sheet.clocks m.instants bytes was_read.is

    -- tags past those read
    pub blank-tags : IsBytes bytes → BlankFrom m.sheet.clocks (pos 0) instant.tags
    blank-tags u k l =
        let w = read-writes m.sheet.clocks bytes u is-next.read in
        let cells : List Cell = was_read.value.cells in
        rw (ap (λ (i : code.Instant). i.tags) was_read.struct)
        (filled-past (pos 0) 8 (map (λ (c : Cell). c.tag) cells) k (omega (arith, w.size, length-map cells (λ (c : Cell). c.tag))))

    pub called : {r : CallResult Refusal} → IsBytes bytes → All (λ (s : arrays.Remainder). length s.stopped ≡ 8) m.held.remainders
        → Accepts most_live m instant r → Called m bytes r
    unfolding observes monitor_within
    called {r} u stops a =
        let w = read-writes m.sheet.clocks bytes u is-next.read in
        called-taken m bytes r (rw ((inside m l e), was_read.is))
        (accepted m (its-limits m l e) (≡→T (both (sheet_within (sheet_by m)) (inside m l e)).0) is-next.room was_read.value w.value.1 w.size r
        (subst (λ (v : _). Accepts most_live m v r) was_read.struct a)
        (held-shaped (sheet_by m) (its-limits m l e).sheet.clocks-most m.held.count m.held.remainders stops (its-limits m l e).fits))
