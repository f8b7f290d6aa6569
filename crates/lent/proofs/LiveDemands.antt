-- Demands 2 and 3 over words: a call on a state is a call of the monitor that the words stand for, so it follows the plain machine, and so does every list of calls. Assumes nothing.
use mathlib.Core.Bool.{true}
use mathlib.Core.List.{List}
use mathlib.Core.Path.{◌≡◌, refl, sym, ap, ◌∙◌, subst}
use Prim.Native.Nat.{ℕ}
use Rattle.records.specs.Outcome.{Outcome, taken, refused}
use Rattle.records.specs.Sheet.{SheetValue}
use Rattle.tesl.specs.Run.{Instant}
use Rattle.tesl.specs.Answer.{Answer}
use Rattle.tesl.specs.Machine.{Reader}
use Rattle.theory.specs.Session.{Opening, refuses, opens, Observing, FollowsMachine}
use Rattle.theory.specs.Session as machine
use Rattle.theory.proofs.Numbered.{runs-along}
use Rattle.theory.proofs.Machine.{same-session}
use Rattle.lent.specs.declared.live.Replied.{Replied}
use Rattle.judge.specs.Answer.{reply_of}
use Rattle.judge.specs.Progress.{given}
use Rattle.judge.specs.Promises.{observes, Called}
use Rattle.lent.specs.State.{is_state, state_monitor}
use Rattle.lent.specs.Live.{observes_in, FollowsIn, ObservedIn, opened_as, OpensIn, ObservesIn, Demand3In, Demand3SaidIn, Demand2In, NumberedRunIn}
use Rattle.judge.proofs.Demands.{called-follows, each-said, each_seen}

-- ---- opening

opening-follows : (read : Reader) (sheet : List ℕ) (outcome : Outcome (machine.OpenedMonitor (List ℕ))) → OpensIn read sheet outcome → Opening read FollowsIn sheet outcome
opening-follows read sheet outcome (r, a, b, h, e) = subst (Opening read FollowsIn sheet) e (by_read (read sheet) refl)
  where
    by_read : (o : Outcome SheetValue) → read sheet ≡ o → Opening read FollowsIn sheet (opened_as (reply_of r) b)
    by_read (refused n) f = rw (h.refuses n f).0 (refuses f)
    by_read (taken s) f = rw (h.opens s f).0 (opens f refl (h.opens s f).1)

-- ---- observing
module _ {bytes : List ℕ} {r : Replied} {a b : List ℕ} (o : ObservedIn bytes r a b) (state : is_state a ≡ true) where
  taken-for : observes_in a bytes ≡ observes (state_monitor a) bytes
  unfolding observes_in
  taken-for = rw state

  -- a call on the words is a call of the monitor that they stand for
  pub called-in : Called (state_monitor a) bytes (given r.reply (state_monitor b))
  called-in = record {
    refuses = λ n f. let g = o.refuses n (taken-for ∙ f) in record { reply = g.0; monitor = ap state_monitor g.1 };
    accepts = λ i f. (o.accepts i (taken-for ∙ f)).1;
  }

  -- and leaves a state
  pub state-in : is_state b ≡ true
  state-in = by-outcome (observes_in a bytes) refl
    where
      by-outcome : (x : Outcome Instant) → observes_in a bytes ≡ x → is_state b ≡ true
      by-outcome (refused n) f = rw (o.refuses n f).1 state
      by-outcome (taken i) f = (o.accepts i f).0

observing-follows : (s : SheetValue) (run : List Instant) (a b : List ℕ) (bytes : List ℕ) (said : Outcome Answer)
    → FollowsIn s run a → ObservesIn a bytes said b → Observing FollowsIn s run bytes said b
observing-follows s run a b bytes said f (r, o, e) =
    let k = called-follows s run (state_monitor a) bytes (given r.reply (state_monitor b)) f.follows (called-in o f.state) in
    record { same = sym e ∙ k.same; follows = record { state = state-in o f.state; follows = k.follows } }

laws : (read : Reader) → FollowsMachine read (OpensIn read) ObservesIn FollowsIn
laws read = record { opening = opening-follows read; observing = observing-follows }

pub demand3-in : (read : Reader) → Demand3In read
demand3-in read sheet calls answered last ran = same-session read (OpensIn read) ObservesIn FollowsIn (laws read) ran

pub demand3-said-in : (read : Reader) → Demand3SaidIn read
demand3-said-in read sheet calls answered last ran = each-said (demand3-in read sheet calls answered last ran)

pub demand2-in : (read : Reader) → Demand2In read
demand2-in read sheet calls answered last ran = each_seen (demand3-in read sheet calls answered last ran)

pub numbered-run-in : (read : Reader) → NumberedRunIn read
numbered-run-in read all sheet calls answered last ran = runs-along all (demand3-in read sheet calls answered last ran)
