-- The records of a log, observed one by one by a monitor in rows: what was said is what the machine says, and the bytes of it stand in the buffer, as long as there is room. Assumes nothing.
use mathlib.Core.Bool.{Bool}
use mathlib.Core.List.{List, [], ◌∷◌, ◌++◌}
use mathlib.Core.Path.{◌≡◌, refl, ap, ◌∙◌, subst}
use Prim.Native.Nat.{ℕ, ◌+◌, ◌*◌, ◌≤◌}
use native.Mathlib.Omega.{arith}
use lib.IntN.{pos}
use lib.ListN.{length, length-append}
use Rattle.records.specs.declared.sheet.Sheet.{Sheet}
use Rattle.records.specs.Record.{TheRecord}
use Rattle.records.specs.Sheet.{SheetValue}
use Rattle.records.specs.Store.{puts}
use Rattle.records.specs.Types.{All}
use Rattle.records.proofs.Store.{puts-both}
use Rattle.tesl.specs.Lists.{flat_map}
use Rattle.tesl.specs.Run.{Instant}
use Rattle.tesl.specs.Answer.{Answer}
use Rattle.tesl.specs.Machine.{calls_of}
use Rattle.judge.specs.declared.answer.Answer as code
use Rattle.std.specs.Prelude.{Result, Ok, Err}
use Rattle.records.specs.declared.refusal.Refusal.{Refusal}
use Rattle.judge.specs.declared.progress.Progress.{Progress}
use Rattle.judge.specs.declared.start.Begun.{Begun}
use Rattle.judge.specs.declared.monitor.Monitor.{Monitor}
use Rattle.judge.specs.declared.monitor.CallResult.{CallResult}
use Rattle.judge.specs.Answer.{answer_of, reply_of}
use Rattle.logs.specs.Entry.{live_code, entry, answers_from, PutEntry}
use Rattle.remainders.specs.Unused.{BlankFrom}
use Rattle.judge.specs.Promises.{Follows, Called}
use Rattle.step.specs.Fill.{Working}
use Rattle.judge.specs.Progress.{rows_monitor, given, Ready}
use Rattle.logs.specs.Records.{FollowsRecords}
use Rattle.logs.proofs.log.Answers.{answers-small, length-entries, entries-snoc, entry-fits}
use Rattle.logs.proofs.log.Turn.{Watching, watching-start, watching-more, more-answers, ended, ended-follows, ended-answers, stopped, stopped-follows, stopped-answers}

-- ---- a turn

-- where those said so far have room, their bytes stand in the buffer up to `end`
pub record Writing (log before : List ℕ) (m₀ : Monitor) (r₀ : Result code.Answer Refusal) (after : List ℕ) (m : Monitor) (last : Result code.Answer Refusal) (n at end : ℕ) : Type 0 where
  pub said : List Answer
  pub watching : Watching log m₀ r₀ m last n at said
  pub stored : (s : SheetValue) (run : List Instant) → Follows s run m₀ → 3 * length said ≤ length before → (end ≡ 3 * length said) × (after ≡ puts before 0 (flat_map entry said))

pub writing_start : (log before : List ℕ) (m : Monitor) (r : Result code.Answer Refusal) → Writing log before m r before m r 0 0 0
writing_start log before m r = record { said = []; watching = watching-start log m r; stored = λ s run f h. (refl, refl) }

-- one of those said
said-small : (said : List Answer) (a : Answer) (later : List Answer) → All (λ (b : Answer). live_code b ≤ 32) (said ++ (a ∷ later)) → live_code a ≤ 32
said-small [] a later h = h.0
said-small (b ∷ said) a later h = said-small said a later h.1

module _ {log before after : List ℕ} {m₀ m : Monitor} {r₀ last : Result code.Answer Refusal} {n at end : ℕ} (w : Writing log before m₀ r₀ after m last n at end) (size : length after ≡ length before) where
  -- all that the machine answers was said
  whole : (s : SheetValue) (run : List Instant) → Follows s run m₀ → answers_from s run log ≡ w.said → 3 * length (answers_from s run log) ≤ length before → after ≡ puts before 0 (flat_map entry (answers_from s run log))
  whole s run f e h = rw e (w.stored s run f (rw e at h)).1

  pub written-end : length log ≤ at → FollowsRecords (given r₀ m₀) log (record { outcome = reply_of last; instants = n }) m before after
  written-end h = record {
    concludes = ended w.watching h;
    follows = ended-follows w.watching h;
    buffer = λ s run f. whole s run f (ended-answers w.watching h s run f);
  }

  module _ {p : List ℕ} (h : TheRecord log at p) {g : CallResult Refusal} (o : Called m p g) where
    pub written-refused : {k : Refusal} → g.reply ≡ Err k → FollowsRecords (given r₀ m₀) log (record { outcome = reply_of g.reply; instants = n }) g.monitor before after
    written-refused e = record {
      concludes = stopped w.watching h o (ap reply_of e);
      follows = stopped-follows w.watching h o (ap reply_of e);
      buffer = λ s run f. whole s run f (stopped-answers w.watching h o (ap reply_of e) s run f);
    }

    module _ {a : code.Answer} (e : g.reply ≡ Ok a) where
      small : (s : SheetValue) (run : List Instant) → Follows s run m₀ → live_code (answer_of a) ≤ 32
      small s run f =
          let k = more-answers w.watching h o (ap reply_of e) s run f in
          said-small w.said (answer_of a) k.0 (subst (All (λ (b : Answer). live_code b ≤ 32)) k.1 (answers-small s run (calls_of log)))

      pub writing_more : {next : List ℕ} {to : ℕ} → PutEntry (answer_of a) end to after next → Writing log before m₀ r₀ next g.monitor g.reply (n + 1) (at + length p) to
      writing_more {next} {to} put =
          let said = w.said in
          let more = length-append said (answer_of a ∷ []) in
          record {
            said = said ++ (answer_of a ∷ []);
            watching = watching-more w.watching h o (ap reply_of e);
            stored = λ s run f room.
                let k = w.stored s run f (omega (arith, more)) in
                let b = put.room (omega (arith, more, k.0, size)) in
                let l : end ≡ 0 + length (flat_map entry said) = omega (arith, length-entries said, k.0) in
                (omega (arith, more, k.0, b.0), puts-both before 0 (flat_map entry said) (entry (answer_of a)) k.1 (b.1 ∙ ap (puts after end) (entry-fits (answer_of a) (small s run f)) ∙ ap (λ (i : ℕ). puts after i (entry (answer_of a))) l) ∙ rw entries-snoc);
          }

-- ---- the loop, for every sheet that the plan is of
pub record Turns (log before : List ℕ) (g : Begun) (rows₀ lines : List ℕ) (k : Progress) (last : Result code.Answer Refusal) (n at end : ℕ) (rows : List ℕ) (list : List Bool) (after : List ℕ)
    : Type 0 where
  pub few : n ≤ at
  pub ends : at ≤ length log
  pub most : end ≤ length after
  pub size : length after ≡ length before
  pub room : Working rows k.from k.count list
  pub writing : (s : Sheet) → Ready s g.progress g.plan lines rows₀ → Writing log before (rows_monitor s g.progress rows₀) (Ok g.said) after (rows_monitor s k rows) last n at end
  pub ready : (s : Sheet) → Ready s g.progress g.plan lines rows₀ → Ready s k g.plan lines rows
  pub tags : (s : Sheet) → Ready s g.progress g.plan lines rows₀ → BlankFrom s.clocks (pos 0) g.progress.tags → BlankFrom s.clocks (pos 0) k.tags
