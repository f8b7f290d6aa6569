-- What the panel of a monitor shows: at most 32, and of the monitor after a log what the machine's list says. Assumes nothing.
use mathlib.Core.Bool.{Bool, true, false, cond}
use mathlib.Core.List.{List, [], ◌∷◌}
use mathlib.Core.Path.{◌≡◌, refl, sym, ap, ◌∙◌}
use Prim.Native.Nat.{ℕ, suc, ◌≤◌}
use native.Mathlib.Omega.{arith}
use lib.ListN.{length}
use Rattle.records.specs.Outcome.{Outcome, taken, refused}
use Rattle.records.specs.Sheet.{SheetValue, read_sheet}
use Rattle.records.proofs.Lists.{refused-taken}
use Rattle.tesl.specs.Lists.{count}
use Rattle.tesl.specs.Run.{Instant}
use Rattle.tesl.specs.Answer.{Answer, exhausted, broken, holding, remainders, answer}
use Rattle.tesl.specs.Machine.{list_after_calls, session, LogResult, calls_of, judge_log}
use Rattle.work.specs.View.{held_list}
use Rattle.judge.specs.declared.answer.Answer as code
use Rattle.std.specs.Prelude.{Result, Ok, Err}
use Rattle.records.specs.declared.refusal.Refusal.{Refusal}
use Rattle.judge.specs.declared.monitor.Monitor.{Monitor}
use Rattle.judge.specs.Answer.{reply_of}
use Rattle.judge.specs.Limits.{monitor_within}
use Rattle.judge.specs.Monitor.{held_by}
use Rattle.judge.specs.Promises.{Follows}
use Rattle.logs.specs.Log.{FollowsLog}
use Rattle.logs.proofs.log.Opening.{follows-whole}
use Rattle.logs.specs.declared.log.LastMonitor.{LastMonitor}
use Rattle.records.specs.Outcome.{outcome_of}
use Rattle.panel.specs.Panel.{owes_clock, panel_count}
use Rattle.panel.proofs.Run.{within_count, panel-of-run}
use Rattle.gateway.specs.Result.{number_of, packed, unless_refused, shown_count, unless_exhausted, owing_in, owing_of, shown_code}
use Rattle.gateway.specs.Inner.{OwingAfter}
use Rattle.gateway.proofs.Held.{held-few}
use Rattle.gateway.proofs.Machine.{judged-small}

-- ---- the panel

count-few : {A : Type 0} (p : A → Bool) (xs : List A) → count p xs ≤ length xs
count-few p [] = omega arith
count-few p (x ∷ xs) = by-test (p x) (count-few p xs)
  where
    by-test : (b : Bool) → count p xs ≤ length xs → cond b (suc (count p xs)) (count p xs) ≤ suc (length xs)
    by-test true h = omega arith
    by-test false h = omega arith

-- what a monitor's panel shows
module _ (m : Monitor) (clock : ℕ) {x : Result ℕ Refusal} (p : outcome_of x ≡ panel_count clock m) where
  pub shown-small : {n : ℕ} → x ≡ Ok n → n ≤ 32
  unfolding panel_count
  shown-small {n} q = by-limits (monitor_within m) refl
    where
      same : taken n ≡ panel_count clock m
      same = sym (ap outcome_of q) ∙ p

      by-limits : (b : Bool) → monitor_within m ≡ b → n ≤ 32
      by-limits false e = let k : panel_count clock m ≡ refused 11 = rw e in refused-taken (sym k ∙ sym same)
      by-limits true e =
          let k = same ∙ within_count clock m e in
          let f : n ≡ count (owes_clock clock) (held_list (held_by m)) = cc in
          omega (arith, f, count-few (owes_clock clock) (held_list (held_by m)), held-few m e)

-- of a monitor that follows a run
pub owing-shown : (clock : ℕ) (s : SheetValue) (run : List Instant) (m : Monitor) → Follows s run m → panel_count clock m ≡ taken (owing_in clock s run)
unfolding owing_in
owing-shown clock s run m f = by_answer (answer s run) refl
  where
    by_answer : (a : Answer) → answer s run ≡ a → panel_count clock m ≡ taken (unless_exhausted a (count (owes_clock clock) (remainders s run)))
    by_answer exhausted e = (panel-of-run s run m clock f).none e
    by_answer broken e = (panel-of-run s run m clock f).distinct (λ x. let z : ◌≡◌ {A = ℕ} 0 1 = cc in absurd (omega arith))
    by_answer (holding held_list standing) e = (panel-of-run s run m clock f).distinct (λ x. let z : ◌≡◌ {A = ℕ} 0 1 = cc in absurd (omega arith))

-- ---- after a log
module _ (last : LastMonitor) (clock : ℕ) where
  pub owing-counted : {a : code.Answer} → last.reply ≡ Ok a → {n : ℕ} → n ≡ shown_count (panel_count clock last.monitor) → OwingAfter last clock n
  owing-counted e q = record {
    none = λ k r. refused-taken (sym r ∙ ap reply_of e);
    owing = λ b r s run f. q ∙ ap shown_count (owing-shown clock s run last.monitor f);
  }

-- ---- the exported calls

-- an answer as the code has it is refused with the same number
pub reply-number : (r : Result code.Answer Refusal) → number_of (outcome_of r) ≡ number_of (reply_of r)
reply-number (Ok a) = refl
reply-number (Err why) = refl

module _ (sheet log : List ℕ) (last : LastMonitor) (h : FollowsLog sheet log last) where
  -- a log that is judged to an answer has a sheet
  answered-sheet : {a : Answer} → reply_of last.reply ≡ taken a → (s : SheetValue) × (read_sheet sheet ≡ taken s)
  unfolding judge_log session
  answered-sheet {a} e = by_read (read_sheet sheet) refl
    where
      by_read : (o : Outcome SheetValue) → read_sheet sheet ≡ o → (s : SheetValue) × (read_sheet sheet ≡ taken s)
      by_read (taken s) f = (s, f)
      by_read (refused n) f = let k : reply_of last.reply ≡ refused n = ap (λ (r : LogResult). r.outcome) h.judged ∙ rw f in refused-taken (sym k ∙ e)

  pub log-few : last.instants ≤ 4000
  log-few = omega (arith, (judged-small sheet log).count, ap (λ (r : LogResult). r.instants) h.judged)

  pub shown-code : (clock owing number result : ℕ) → OwingAfter last clock owing → number ≡ number_of (reply_of last.reply)
      → result ≡ packed number 0 owing 0 last.instants
      → result ≡ shown_code sheet log clock
  unfolding shown_code
  shown-code clock owing number result o e q = q ∙ rw (e, ← h.judged) (by-reply (reply_of last.reply) refl)
    where
      by-reply : (r : Outcome Answer) → reply_of last.reply ≡ r
          → packed (number_of r) 0 owing 0 last.instants ≡ packed (number_of r) 0 (unless_refused (λ a. owing_of clock log (read_sheet sheet)) r) 0 last.instants
      by-reply (refused n) k = rw (o.none n k)
      by-reply (taken a) k = let s = answered-sheet k in rw (s.1, o.owing a k s.0 (list_after_calls s.0 [] (calls_of log)) (follows-whole h s.1 k))
