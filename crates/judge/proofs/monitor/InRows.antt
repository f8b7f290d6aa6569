-- A monitor observed in rows, where its remainders were stored: refused as the rows are; and answered, read back, it goes on as the rows do. Assumes nothing.
use Rattle.std.specs.Prelude.{Result, Ok, Err}
use mathlib.Core.Bool.{Bool, true}
use mathlib.Core.List.{List}
use mathlib.Core.Option.{Option}
use mathlib.Core.Path.{subst, ◌≡◌, refl, sym, ap, ◌∙◌}
use Prim.Native.Nat.{ℕ}
use native.Mathlib.Omega.{arith}
use Rattle.records.specs.Outcome.{Outcome, taken, refused}
use Rattle.records.proofs.Lists.{refused-taken}
use Rattle.tesl.specs.Run.{Instant}
use Rattle.tesl.specs.Remainder.{Remainder}
use Rattle.tesl.specs.Answer.{Answer}
use Rattle.judge.specs.declared.answer.Answer as code
use Rattle.records.specs.declared.refusal.Refusal.{Refusal}
use Rattle.lines.specs.declared.plan.Plan.{Plan}
use Rattle.judge.specs.declared.progress.Progress.{Progress}
use Rattle.judge.specs.declared.progress.InstantResult.{InstantResult}
use Rattle.judge.specs.declared.monitor.Monitor.{Monitor}
use Rattle.judge.specs.declared.monitor.CallResult.{CallResult}
use Rattle.judge.specs.Answer.{reply_of, said_by}
use Rattle.judge.specs.Limits.{monitor_within, Limited}
use Rattle.lines.specs.Plan.{PlanOf}
use Rattle.judge.specs.Stored.{StoredHeld, FromRows}
use Rattle.judge.specs.Monitor.{refused_call}
use Rattle.judge.specs.Progress.{rows_monitor, progress_of, given, read_back, ReadBack, Ready, Takes}
use Rattle.judge.specs.Promises.{observes, Called, Observed}
use Rattle.judge.proofs.progress.Laws.{same_back, within-back, follows-back, nothing-back, within-stored, follows-stored, ready-stored}

-- an answer is no refusal
pub answered-refused : {X : Type 0} {a : code.Answer} {why : Refusal} → ◌≡◌ {A = Result code.Answer Refusal} (Ok a) (Err why) → X
answered-refused e = let z : ◌≡◌ {A = ℕ} 0 1 = cc in absurd (omega arith)

-- an answer leaves the monitor within its limits
pub answered-within : {m : Monitor} {bytes : List ℕ} {g : CallResult Refusal} → Called m bytes g → {a : Answer} → reply_of g.reply ≡ taken a → monitor_within g.monitor ≡ true
answered-within {m} {bytes} {g} o {a} p = by-outcome (observes m bytes) refl
  where
    by-outcome : (x : Outcome Instant) → observes m bytes ≡ x → monitor_within g.monitor ≡ true
    by-outcome (taken i) e = (o.accepts i e).limits
    by-outcome (refused n) e = refused-taken (sym (o.refuses n e).reply ∙ p)

module _ (m : Monitor) (l : Limited m true) {p : Plan} {lines : List ℕ} (plan : PlanOf m.sheet p lines) {blank rows : List ℕ} (storing : StoredHeld m.held.count m.held.remainders blank rows) where
  abbrev before : Monitor
  before = rows_monitor m.sheet (progress_of m) rows

  same-call : (bytes : List ℕ) → observes m bytes ≡ observes before bytes
  unfolding observes
  same-call bytes = rw (sym l.answer, within-stored m storing (sym l.answer))

  starts : Ready m.sheet (progress_of m) p lines rows
  starts = ready-stored m storing l plan

  module _ {bytes : List ℕ} {t : InstantResult} {out : List ℕ} {list : List Bool} (o : Takes (progress_of m) p bytes lines t rows out list) where
    abbrev next : Progress
    next = t.progress

    called : Called before bytes (given t.reply (rows_monitor m.sheet t.progress out))
    called = o.called m.sheet starts

    ready : Ready m.sheet t.progress p lines out
    ready = o.ready m.sheet starts

    replied : {n : ℕ} → observes m bytes ≡ refused n → reply_of t.reply ≡ refused n
    replied {n} f = (called.refuses n (sym (same-call bytes) ∙ f)).reply

    none-taken : {why : Refusal} → t.reply ≡ Err why → {X : Type 0} {i : Instant} → observes m bytes ≡ taken i → X
    none-taken p {i = i} f = refused-taken (ap reply_of (sym p) ∙ (called.accepts i (sym (same-call bytes) ∙ f)).answers)

    pub refused-rows : {g : CallResult Refusal} {why : Refusal} → t.reply ≡ Err why → g ≡ refused_call why m → Observed m bytes g
    refused-rows {g} p q = record {
      called = record {
        refuses = λ k f. record { reply = ap (λ (c : CallResult Refusal). reply_of c.reply) q ∙ (ap reply_of (sym p) ∙ replied f); monitor = ap (λ (c : CallResult Refusal). c.monitor) q };
        accepts = λ i f. none-taken p f;
      };
      unused = λ i f. none-taken p f;
    }

    -- read back
    module _ {a : code.Answer} (q : t.reply ≡ Ok a) {n : Monitor} (back : ReadBack m.sheet next p n out) where
      found : FromRows p next.count next.from n.held.remainders out
      found = back.found

      observed : Observed m bytes (given t.reply (read_back m.sheet next n.held.remainders))
      observed = record {
        called = record {
          refuses = λ n f. refused-taken (sym (replied f) ∙ ap reply_of q);
          accepts = λ i f.
              let w = called.accepts i (sym (same-call bytes) ∙ f) in
              record {
                answers = w.answers ∙ ap (λ (h : Option (List Remainder)). taken (said_by h)) (sym (same_back ready found));
                limits = within-back ready found;
                follows = λ s run g. let k = w.follows s run (follows-stored m storing g) in (k.0, follows-back ready found k.1);
              };
        };
        unused = λ i f. nothing-back ready found (o.tags m.sheet starts _ q);
      }

      pub answered-rows : Observed m bytes (given t.reply n)
      answered-rows = subst (λ (x : Monitor). Observed m bytes (given t.reply x)) (sym back.same) observed
