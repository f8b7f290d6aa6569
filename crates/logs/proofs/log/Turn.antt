-- The records of a log, observed one by one: each call follows the plain machine, so the replies said so far and those to come are the machine's. Assumes nothing.
use mathlib.Core.List.{List, [], ◌∷◌, ◌++◌, map, append_assoc, append-nil}
use mathlib.Core.Path.{◌≡◌, refl, sym, ap, ◌∙◌}
use Prim.Native.Nat.{ℕ, ◌+◌, ◌≤◌}
use native.Mathlib.Omega.{arith}
use lib.ListN.{length, drop, length-append, drop_of_length-le}
use Rattle.records.specs.Outcome.{Outcome, taken, refused}
use Rattle.records.specs.Record.{TheRecord}
use Rattle.records.specs.Sheet.{SheetValue}
use Rattle.records.proofs.Lists.{map-append}
use Rattle.records.proofs.record.Cut.{no_pieces}
use Rattle.tesl.specs.Run.{Instant}
use Rattle.tesl.specs.Answer.{Answer}
use Rattle.tesl.specs.Machine.{accepts, list_after, machine, accepts_each, concluded, calls_of}
use Rattle.theory.proofs.Log.{next-replies, next-accepts}
use Rattle.judge.specs.declared.monitor.Monitor.{Monitor}
use Rattle.judge.specs.declared.monitor.CallResult.{CallResult}
use Rattle.std.specs.Prelude.{Result}
use Rattle.judge.specs.declared.answer.Answer as code
use Rattle.records.specs.declared.refusal.Refusal.{Refusal}
use Rattle.judge.specs.Answer.{reply_of}
use Rattle.logs.specs.Entry.{before_refusal, answers_from, instants_from}
use Rattle.judge.specs.Promises.{Follows, Called}
use Rattle.judge.proofs.Demands.{called-follows}
use Rattle.logs.proofs.log.Answers.{last_said, last_snoc, instants-more, instants-refused, concluded-said, answers-said}

-- ---- the answers said so far

-- from a run on: those said, and the replies to the records from a place on; the instants taken, and those taken from that place on
pub record Remaining (log : List ℕ) (m : Monitor) (said : List Answer) (at : ℕ) (s : SheetValue) (run₀ : List Instant) : Type 0 where
  pub run : List Instant
  pub follows : Follows s run m
  pub replies : machine s run₀ (calls_of log) ≡ map taken said ++ machine s run (calls_of (drop at log))
  pub instants : run₀ ++ instants_from s run₀ log ≡ run ++ instants_from s run (drop at log)

-- for every run that the first monitor followed; each instant taken had a record
pub record Going (log : List ℕ) (m₀ m : Monitor) (said : List Answer) (at : ℕ) : Type 0 where
  pub few : length said ≤ at
  pub ends : at ≤ length log
  pub same : (s : SheetValue) (run : List Instant) → Follows s run m₀ → Remaining log m said at s run

pub going_start : (log : List ℕ) (m : Monitor) → Going log m m [] 0
going_start log m = record { few = omega arith; ends = omega arith; same = λ s run f. record { run = run; follows = f; replies = refl; instants = refl } }

module _ {log : List ℕ} {m₀ m : Monitor} {said : List Answer} {at : ℕ} (w : Going log m₀ m said at) where
  -- at the end the machine has said no more, and taken no more
  pub going_end : length log ≤ at → (s : SheetValue) (run : List Instant) (f : Follows s run m₀)
      → (machine s run (calls_of log) ≡ map taken said ++ []) × (run ++ instants_from s run log ≡ (w.same s run f).run)
  unfolding machine accepts_each
  going_end h s run f =
      let l = w.same s run f in
      (l.replies ∙ rw (drop_of_length-le log {i = at} h, no_pieces), l.instants ∙ rw (drop_of_length-le log {i = at} h, no_pieces) (append-nil l.run))

  module _ {p : List ℕ} (h : TheRecord log at p) {g : CallResult Refusal} (o : Called m p g) where
    -- what the machine takes the records behind this one for
    abbrev later : SheetValue → List Instant → List (Outcome Instant)
    later s run = accepts_each s (list_after run (accepts s run p)) (calls_of (drop (at + length p) log))

    -- the call follows the machine
    pub turn : (s : SheetValue) (run : List Instant) → Follows s run m₀ → (rest : List (Outcome Answer)) × (machine s run (calls_of log) ≡ map taken said ++ (reply_of g.reply ∷ rest))
    turn s run f =
        let l = w.same s run f in
        let k = called-follows s l.run m p g l.follows o in
        (machine s (list_after l.run (accepts s l.run p)) (calls_of (drop (at + length p) log)), l.replies ∙ rw (next-replies h s l.run, k.same))

    -- an answer is said, and the machine goes on after it
    pub going_more : {a : Answer} → reply_of g.reply ≡ taken a → Going log m₀ g.monitor (said ++ (a ∷ [])) (at + length p)
    going_more {a} e = record {
      few = omega (arith, w.few, h.some, length-append said (a ∷ []));
      ends = h.within;
      same = λ s run f.
          let l = w.same s run f in
          let k = called-follows s l.run m p g l.follows o in
          record {
            run = list_after l.run (accepts s l.run p);
            follows = k.follows;
            replies = l.replies ∙ rw (next-replies h s l.run, ← k.same, e, map-append, append_assoc);
            instants = l.instants ∙ rw (next-accepts h s l.run) (instants-more s l.run (accepts s l.run p) (sym k.same ∙ e) (later s l.run));
          };
    }

-- ---- the last reply and the count

pub record Watching (log : List ℕ) (m₀ : Monitor) (r₀ : Result code.Answer Refusal) (m : Monitor) (last : Result code.Answer Refusal) (n at : ℕ) (said : List Answer) : Type 0 where
  pub going : Going log m₀ m said at
  pub last-said : reply_of last ≡ last_said (reply_of r₀) said
  pub counted : n ≡ length said

pub watching-start : (log : List ℕ) (m : Monitor) (r : Result code.Answer Refusal) → Watching log m r m r 0 0 []
watching-start log m r = record { going = going_start log m; last-said = refl; counted = refl }

module _ {log : List ℕ} {m₀ m : Monitor} {r₀ last : Result code.Answer Refusal} {n at : ℕ} {said : List Answer} (w : Watching log m₀ r₀ m last n at said) where
  -- the machine's replies are those said, up to the end or to a refusal
  concludes : (r : Result code.Answer Refusal) (replies : List (Outcome Answer)) (s : SheetValue) (run : List Instant)
      → machine s run (calls_of log) ≡ map taken said ++ replies
      → concluded (last_said (reply_of r₀) said) n replies ≡ record { outcome = reply_of r; instants = n }
      → record { outcome = reply_of r; instants = n } ≡ concluded (reply_of r₀) 0 (machine s run (calls_of log))
  concludes r replies s run e k =
      let z : 0 + length said ≡ n = omega (arith, w.counted) in
      sym (ap (concluded (reply_of r₀) 0) e ∙ concluded-said (reply_of r₀) 0 said replies ∙ rw z k)

  module _ (h : length log ≤ at) where
    pub ended : (s : SheetValue) (run : List Instant) → Follows s run m₀ → record { outcome = reply_of last; instants = n } ≡ concluded (reply_of r₀) 0 (machine s run (calls_of log))
    ended s run f = concludes last [] s run (going_end w.going h s run f).0 (rw w.last-said)

    pub ended-follows : (s : SheetValue) (run : List Instant) → Follows s run m₀ → Follows s (run ++ instants_from s run log) m
    ended-follows s run f = rw (going_end w.going h s run f).1 (w.going.same s run f).follows

    pub ended-answers : (s : SheetValue) (run : List Instant) → Follows s run m₀ → answers_from s run log ≡ said
    ended-answers s run f = rw ((going_end w.going h s run f).0, answers-said) (append-nil said)

  module _ {p : List ℕ} (h : TheRecord log at p) {g : CallResult Refusal} (o : Called m p g) where
    module _ {k : ℕ} (e : reply_of g.reply ≡ refused k) where
      pub stopped : (s : SheetValue) (run : List Instant) → Follows s run m₀ → record { outcome = reply_of g.reply; instants = n } ≡ concluded (reply_of r₀) 0 (machine s run (calls_of log))
      stopped s run f = let t = turn w.going h o s run f in concludes g.reply _ s run t.1 (rw e)

      pub stopped-follows : (s : SheetValue) (run : List Instant) → Follows s run m₀ → Follows s (run ++ instants_from s run log) g.monitor
      stopped-follows s run f =
          let l = w.going.same s run f in
          let c = called-follows s l.run m p g l.follows o in
          let last : l.run ++ instants_from s l.run (drop at log) ≡ list_after l.run (accepts s l.run p) = rw (next-accepts h s l.run) (instants-refused s l.run (accepts s l.run p) (sym c.same ∙ e) (later w.going h o s l.run)) in
          rw (l.instants, last) c.follows

      pub stopped-answers : (s : SheetValue) (run : List Instant) → Follows s run m₀ → answers_from s run log ≡ said
      stopped-answers s run f = let t = turn w.going h o s run f in rw (t.1, answers-said, e) (append-nil said)

    module _ {a : Answer} (e : reply_of g.reply ≡ taken a) where
      pub watching-more : Watching log m₀ r₀ g.monitor g.reply (n + 1) (at + length p) (said ++ (a ∷ []))
      watching-more = record {
        going = going_more w.going h o e;
        last-said = e ∙ sym (last_snoc (reply_of r₀) said a);
        counted = omega (arith, w.counted, length-append said (a ∷ []));
      }

      pub more-answers : (s : SheetValue) (run : List Instant) → Follows s run m₀ → (later : List Answer) × (answers_from s run log ≡ said ++ (a ∷ later))
      more-answers s run f = let t = turn w.going h o s run f in (before_refusal t.0, rw (t.1, answers-said, e))
