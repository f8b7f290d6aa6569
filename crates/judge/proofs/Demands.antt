-- Demands 2 and 3: `open`, `open_base` and `observe` meet their promises, so their calls follow the plain machine, call by call, and so does every list of calls. Assumes nothing.
use mathlib.Core.List.{List}
use mathlib.Core.Option.{Option}
use mathlib.Core.Path.{◌≡◌, refl, sym, ap, ◌∙◌, subst}
use Prim.Native.Nat.{ℕ}
use Rattle.records.specs.Outcome.{Outcome, taken, refused}
use Rattle.records.specs.Sheet.{SheetValue}
use Rattle.tesl.specs.Run.{Instant}
use Rattle.tesl.specs.Fits.{most_tag}
use Rattle.tesl.specs.Answer.{Answer, most_live, answer}
use Rattle.tesl.specs.Machine.{accepts, Session, Reader}
use Rattle.theory.specs.Session.{Opening, refuses, opens, Observing, FollowsMachine, SameSession, EachAnswer}
use Rattle.theory.specs.Session as machine
use Rattle.theory.specs.Limits.{OnScale}
use Rattle.theory.specs.Said.{Said}
use Rattle.theory.specs.Seen.{SeenJudged}
use Rattle.theory.proofs.Numbered.{runs-along}
use Rattle.theory.proofs.Machine.{same-session, each-answer}
use Rattle.theory.proofs.Said.{answer-said}
use Rattle.theory.proofs.Seen.{seen-judged}
use Rattle.judge.specs.declared.monitor.Monitor.{Monitor}
use Rattle.records.specs.declared.refusal.Refusal.{Refusal}
use Rattle.judge.specs.declared.monitor.CallResult.{CallResult}
use Rattle.judge.specs.Answer.{reply_of}
use Rattle.judge.specs.Promises.{Follows, observes, Called}
use Rattle.judge.specs.Demands.{opened_of, Opens, Observes, Demand3, Demand3Said, Demand2, NumberedRun}

-- ---- opening

opening-follows : (read : Reader) (sheet : List ℕ) (outcome : Outcome (machine.OpenedMonitor Monitor)) → Opens read sheet outcome → Opening read Follows sheet outcome
opening-follows read sheet outcome (r, h, e) = subst (Opening read Follows sheet) e (by_read (read sheet) refl)
  where
    by_read : (o : Outcome SheetValue) → read sheet ≡ o → Opening read Follows sheet (opened_of (reply_of r.reply) r.monitor)
    by_read (refused n) f = rw (h.refuses n f).reply (refuses f)
    by_read (taken s) f = rw (h.opens s f).0 (opens f refl (h.opens s f).1)

-- ---- observing

-- a monitor that follows the machine's list is within its limits, so the call is taken for what the machine takes it for
pub same-call : (s : SheetValue) (run : List Instant) (m : Monitor) (bytes : List ℕ) → Follows s run m → observes m bytes ≡ accepts s run bytes
unfolding observes accepts
same-call s run m bytes f = rw (f.limits, f.instants, ap (λ (v : SheetValue). v.clocks) f.sheet)

pub called-follows : (s : SheetValue) (run : List Instant) (m : Monitor) (bytes : List ℕ) (r : CallResult Refusal)
    → Follows s run m → Called m bytes r → Observing Follows s run bytes (reply_of r.reply) r.monitor
called-follows s run m bytes r f h = by-outcome (accepts s run bytes) refl
  where
    by-outcome : (o : Outcome Instant) → accepts s run bytes ≡ o → Observing Follows s run bytes (reply_of r.reply) r.monitor
    by-outcome (refused n) q =
        let g = h.refuses n (same-call s run m bytes f ∙ q) in
        record {
          same = rw q g.reply;
          follows = rw q (subst (Follows s run) (sym g.monitor) f);
        }
    by-outcome (taken i) q =
        let g = (h.accepts i (same-call s run m bytes f ∙ q)).follows s run f in
        record { same = rw q g.0; follows = rw q g.1 }

pub observing-follows : (s : SheetValue) (run : List Instant) (m after : Monitor) (bytes : List ℕ) (given : Outcome Answer)
    → Follows s run m → Observes m bytes given after → Observing Follows s run bytes given after
observing-follows s run m after bytes given f (r, h, e, k) =
    subst (λ (o : Outcome Answer). Observing Follows s run bytes o after) e
    (subst (Observing Follows s run bytes (reply_of r.reply)) k (called-follows s run m bytes r f h.called))

laws : (read : Reader) → FollowsMachine read (Opens read) Observes Follows
laws read = record { opening = opening-follows read; observing = observing-follows }

pub demand3 : (read : Reader) → Demand3 read
demand3 read sheet calls answered last ran = same-session read (Opens read) Observes Follows (laws read) ran

-- ---- each answer is the machine's, so what holds of the machine's answers holds of it, whatever kind of monitor answered

module _ {M : Type 0} {read : Reader} {F : SheetValue → List Instant → M → Type 0} {sheet : List ℕ} {calls : List (List ℕ)} {answered : Session} {last : Option M}
    (session : SameSession read F sheet calls answered last) where
  every-answer : (P : SheetValue → List Instant → Answer → Type 0) → ((s : SheetValue) (run : List Instant) → OnScale most_tag run → P s run (answer s run)) → EachAnswer P read sheet calls answered
  every-answer P holds = subst (EachAnswer P read sheet calls) (sym session.same) (each-answer P holds read sheet calls)

  pub each-said : EachAnswer (Said most_live) read sheet calls answered
  each-said = every-answer (Said most_live) (answer-said most_live)

  pub each_seen : EachAnswer SeenJudged read sheet calls answered
  each_seen = every-answer SeenJudged (seen-judged most_live)

pub demand3-said : (read : Reader) → Demand3Said read
demand3-said read sheet calls answered last ran = each-said (demand3 read sheet calls answered last ran)

pub demand2 : (read : Reader) → Demand2 read
demand2 read sheet calls answered last ran = each_seen (demand3 read sheet calls answered last ran)

-- ---- numbered instants

pub numbered-run : (read : Reader) → NumberedRun read
numbered-run read all sheet calls answered last ran = runs-along all (demand3 read sheet calls answered last ran)
