-- The calls on a state of words pack what `lent` replies: it has room in a result; the panel counts what the words hold; and so every list of calls returns what the plain machine replies, packed. Assumes nothing.
use mathlib.Core.Bool.{Bool, true, false, ◌&&◌}
use mathlib.Core.List.{List, [], ◌∷◌}
use mathlib.Core.Option.{Option}
use mathlib.Core.Path.{◌≡◌, refl, sym, ap, ap₂, ◌∙◌}
use Prim.Native.Nat.{ℕ, ◌≤◌}
use native.Mathlib.Omega.{arith}
use lib.ListN.{length}
use Rattle.records.specs.Outcome.{Outcome, taken, refused}
use Rattle.records.specs.Sheet.{SheetValue, read_sheet}
use Rattle.records.proofs.Lists.{both}
use Rattle.tesl.specs.Lists.{count}
use Rattle.tesl.specs.Remainder.{Remainder}
use Rattle.tesl.specs.Run.{Instant}
use Rattle.tesl.specs.Answer.{Answer, answer}
use Rattle.tesl.specs.Machine.{accepts, list_after, list_after_calls}
use Rattle.theory.specs.Session.{Observing}
use Rattle.work.specs.View.{held_list}
use Rattle.std.specs.Prelude.{Result}
use Rattle.records.specs.declared.refusal.Refusal.{Refusal}
use Rattle.judge.specs.declared.answer.Answer as code
use Rattle.lent.specs.declared.live.Replied.{Replied}
use Rattle.judge.specs.declared.monitor.Monitor.{Monitor}
use Rattle.judge.specs.declared.monitor.CallResult.{CallResult}
use Rattle.judge.specs.Answer.{reply_of, said_by}
use Rattle.logs.specs.Entry.{live_code}
use Rattle.judge.specs.Limits.{monitor_within}
use Rattle.judge.specs.Monitor.{held_by, no_monitor}
use Rattle.judge.specs.Progress.{given}
use Rattle.judge.specs.Promises.{Follows}
use Rattle.lent.specs.State.{is_state, state_monitor}
use Rattle.lent.specs.Live.{state_within, instants_in, observes_in, FollowsIn, OpenedIn, ObservedIn, SaidIn, GivenIn}
use Rattle.logs.proofs.log.Answers.{live_small}
use Rattle.lent.proofs.live.Observing.{instants-held, no-instants}
use Rattle.judge.proofs.monitor.Opened.{no-monitor-outside}
use Rattle.judge.proofs.Demands.{called-follows}
use Rattle.lent.proofs.LiveDemands.{called-in, state-in}
use Rattle.panel.specs.Panel.{owes_clock, panel_count}
use Rattle.panel.proofs.Run.{within_count}
use Rattle.gateway.specs.Result.{number_of, packed, shown_count, owing_in}
use Rattle.gateway.specs.Inner.{Packable}
use Rattle.gateway.specs.Live.{result_code, LiftObserved, last_reply, last_code, owing_by, owing_code, LiftCalls, no_call, call, packed_replies, LiftDemand3}
use Rattle.gateway.proofs.Held.{said-few, instants-few}
use Rattle.gateway.proofs.owing.Laws.{owing-shown}

-- ---- a state

module _ (w : List ℕ) where
  limits-in : state_within w ≡ true → monitor_within (state_monitor w) ≡ true
  unfolding state_within
  limits-in e = (both (is_state w) e).1

  state-within : is_state w ≡ true → monitor_within (state_monitor w) ≡ true → state_within w ≡ true
  unfolding state_within
  state-within s l = ap₂ ◌&&◌ s l

  few-instants : instants_in w ≤ 4000
  few-instants = by-limits (state_within w) refl
    where
      by-limits : (b : Bool) → state_within w ≡ b → instants_in w ≤ 4000
      by-limits true e = omega (arith, instants-held w e, instants-few (state_monitor w) (limits-in e))
      by-limits false e = omega (arith, no-instants w e)

  -- what those held say has room
  said_in : state_within w ≡ true → live_code (said_by (held_by (state_monitor w))) ≤ 32
  said_in e = said-few (state_monitor w) (limits-in e)

-- ---- lift_open
module _ {sheet : List ℕ} {r : Result code.Answer Refusal} {a b : List ℕ} (o : OpenedIn read_sheet sheet r a b) where
  pub opened-small : Packable (record { outcome = reply_of r; instants = 0 })
  opened-small = by_read (read_sheet sheet) refl
    where
      by_read : (x : Outcome SheetValue) → read_sheet sheet ≡ x → Packable (record { outcome = reply_of r; instants = 0 })
      by_read (refused n) e = rw (o.refuses n e).0 record { live = omega arith; count = omega arith }
      by_read (taken s) e = rw (o.opens s e).0 record { live = live_small s []; count = omega arith }

-- ---- lift_observe
module _ {bytes : List ℕ} {r : Replied} {a b : List ℕ} (o : ObservedIn bytes r a b) where
  pub observed-small : Packable (record { outcome = reply_of r.reply; instants = r.instants })
  observed-small = by-outcome (observes_in a bytes) refl
    where
      few : r.instants ≤ 4000
      few = omega (arith, o.instants, few-instants b)

      by-outcome : (x : Outcome Instant) → observes_in a bytes ≡ x → Packable (record { outcome = reply_of r.reply; instants = r.instants })
      by-outcome (refused n) e = rw (o.refuses n e).0 record { live = omega arith; count = few }
      by-outcome (taken i) e =
          let k = (o.accepts i e).1 in
          rw k.answers record { live = said-few (state_monitor b) k.limits; count = few }

-- ---- lift_last
module _ {r : Replied} {w : List ℕ} (said : SaidIn r w) where
  last-said : reply_of r.reply ≡ last_reply w
  unfolding last_reply
  last-said = by-limits (state_within w) refl
    where
      by-limits : (b : Bool) → state_within w ≡ b → reply_of r.reply ≡ last_reply w
      by-limits true e = said.inside e ∙ rw e
      by-limits false e = said.outside e ∙ rw e

  pub last-small : Packable (record { outcome = reply_of r.reply; instants = r.instants })
  last-small = by-limits (state_within w) refl
    where
      few : r.instants ≤ 4000
      few = omega (arith, said.instants, few-instants w)

      by-limits : (b : Bool) → state_within w ≡ b → Packable (record { outcome = reply_of r.reply; instants = r.instants })
      by-limits true e = rw (said.inside e) record { live = said_in w e; count = few }
      by-limits false e = rw (said.outside e) record { live = omega arith; count = few }

  pub last_code-law : {result : ℕ} → result ≡ result_code (reply_of r.reply) r.instants → result ≡ last_code w
  unfolding last_code
  last_code-law q = q ∙ ap₂ result_code last-said said.instants

-- ---- lift_owing
panel-outside : (clock : ℕ) (m : Monitor) → monitor_within m ≡ false → panel_count clock m ≡ refused 11
unfolding panel_count
panel-outside clock m e = rw e

-- the panel's count of what is held
abbrev counted : ℕ → Option (List Remainder) → Outcome ℕ
counted clock h = taken (count (owes_clock clock) (held_list h))

module _ (clock : ℕ) (w : List ℕ) where
  owing-inside : state_within w ≡ true → owing_by clock w ≡ counted clock (held_by (state_monitor w))
  unfolding owing_by
  owing-inside e = rw e (within_count clock (state_monitor w) (limits-in w e))

  owing-outside : state_within w ≡ false → owing_by clock w ≡ refused 11
  unfolding owing_by
  owing-outside e = rw e

module _ {g : CallResult Refusal} {w : List ℕ} (h : GivenIn g w) where
  given-instants : g.monitor.instants ≡ instants_in w
  unfolding no_monitor
  given-instants = by-limits (state_within w) refl
    where
      by-limits : (b : Bool) → state_within w ≡ b → g.monitor.instants ≡ instants_in w
      by-limits true e = ap (λ (m : Monitor). m.instants) (h.monitor e) ∙ sym (instants-held w e)
      by-limits false e = ap (λ (m : Monitor). m.instants) (h.outside e).monitor ∙ sym (no-instants w e)

  pub given-few : g.monitor.instants ≤ 4000
  given-few = omega (arith, given-instants, few-instants w)

  -- the reply refuses where the words do, and the panel of the struct is that of the words
  module _ (clock : ℕ) where
    given-number : number_of (reply_of g.reply) ≡ number_of (owing_by clock w)
    given-number = by-limits (state_within w) refl
      where
        by-limits : (b : Bool) → state_within w ≡ b → number_of (reply_of g.reply) ≡ number_of (owing_by clock w)
        by-limits true e = ap number_of (h.inside e).0 ∙ sym (ap number_of (owing-inside clock w e))
        by-limits false e = ap number_of (h.outside e).reply ∙ sym (ap number_of (owing-outside clock w e))

    given-count : shown_count (panel_count clock g.monitor) ≡ shown_count (owing_by clock w)
    given-count = by-limits (state_within w) refl
      where
        by-limits : (b : Bool) → state_within w ≡ b → shown_count (panel_count clock g.monitor) ≡ shown_count (owing_by clock w)
        by-limits true e = ap shown_count (within_count clock g.monitor (h.inside e).1 ∙ ap (counted clock) (h.held e) ∙ sym (owing-inside clock w e))
        by-limits false e =
            ap shown_count (ap (panel_count clock) (h.outside e).monitor ∙ panel-outside clock no_monitor no-monitor-outside ∙ sym (owing-outside clock w e))

    pub owing-code : {owing number result : ℕ} → owing ≡ shown_count (panel_count clock g.monitor) → number ≡ number_of (reply_of g.reply)
        → result ≡ packed number 0 owing 0 g.monitor.instants → result ≡ owing_code clock w
    unfolding owing_code
    owing-code o n q = q ∙ rw (n, o, given-number, given-count, given-instants)

-- ---- demand 3

-- words that follow a run
module _ {s : SheetValue} {run : List Instant} {w : List ℕ} (f : FollowsIn s run w) where
  follows-within : state_within w ≡ true
  follows-within = state-within w f.state f.follows.limits

  follows-instants : instants_in w ≡ length run
  follows-instants = instants-held w follows-within ∙ f.follows.instants

  follows-reply : last_reply w ≡ taken (answer s run)
  unfolding last_reply
  follows-reply = rw follows-within (ap taken f.follows.said)

  follows-last : last_code w ≡ result_code (taken (answer s run)) (length run)
  unfolding last_code
  follows-last = ap₂ result_code follows-reply follows-instants

  follows-owing : (clock : ℕ) → owing_code clock w ≡ packed 0 0 (owing_in clock s run) 0 (length run)
  unfolding owing_code owing_by
  follows-owing clock = rw (follows-within, owing-shown clock s run (state_monitor w) f.follows, follows-instants)

  called : {bytes : List ℕ} {r : ℕ} {b : List ℕ} (o : LiftObserved bytes r w b) → Observing Follows s run bytes (reply_of o.replied.reply) (state_monitor b)
  called {bytes} {r} {b} o = called-follows s run (state_monitor w) bytes (given o.replied.reply (state_monitor b)) f.follows (called-in o.observed f.state)

  next-follows : {bytes : List ℕ} {r : ℕ} {b : List ℕ} → LiftObserved bytes r w b → FollowsIn s (list_after run (accepts s run bytes)) b
  next-follows o = record { state = state-in o.observed f.state; follows = (called o).follows }

all-calls : {s : SheetValue} (run : List Instant) {w : List ℕ} → FollowsIn s run w → {calls : List (List ℕ)} {results last : List ℕ} → LiftCalls w calls results last
    → (results ≡ packed_replies s run calls) × FollowsIn s (list_after_calls s run calls) last
unfolding packed_replies list_after_calls
all-calls run f no_call = (refl, f)
all-calls {s} run f (call {bytes = bytes} o cs) =
    let g = next-follows f o in
    let k = all-calls (list_after run (accepts s run bytes)) g cs in
    (ap₂ ◌∷◌ (o.result ∙ ap₂ result_code (called f o).same (follows-instants g)) k.0, k.1)

pub lift-demand3 : LiftDemand3
lift-demand3 sheet calls r = record {
  refuses = λ n e. let k = r.opens.opened.refuses n e in (r.opens.result ∙ ap (λ (o : Outcome Answer). result_code o 0) k.0, k.1);
  reads = λ s e.
      let k = r.opens.opened.opens s e in
      let c = all-calls [] k.1 r.observes in
      record {
        opening = r.opens.result ∙ ap (λ (o : Outcome Answer). result_code o 0) k.0;
        results = c.0;
        follows = c.1;
        said = follows-last c.1;
        owing = follows-owing c.1;
      };
}
