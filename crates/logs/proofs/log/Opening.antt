-- A sheet opened and a log observed: what was read decides, and what the records come to is what the machine's session comes to. Assumes nothing.
use mathlib.Core.Bool.{Bool}
use mathlib.Core.List.{List, [], ◌++◌}
use mathlib.Core.Path.{◌≡◌, refl, sym, ap, ◌∙◌, subst}
use Prim.Native.Nat.{ℕ, ◌*◌, ◌≤◌, ◌<◌}
use native.Mathlib.Omega.{arith}
use lib.ListN.{length, drop}
use borrow.Author.Tests.{lt-ltb, le-ltb}
use Rattle.records.specs.declared.order.Order.TheVariants.{Rising}
use Rattle.std.specs.Prelude.{Result, Ok, Err}
use Rattle.records.specs.declared.refusal.Refusal.{Refusal}
use Rattle.records.specs.declared.sheet.Sheet.{Sheet}
use Rattle.records.specs.Outcome.{taken, refused, outcome_of}
use Rattle.records.specs.Sheet.{SheetValue, read_sheet, sheet_of, sheet_read}
use Rattle.records.proofs.Lists.{refused-taken}
use Rattle.records.proofs.Store.{puts-front}
use Rattle.tesl.specs.Lists.{flat_map}
use Rattle.tesl.specs.Answer.{Answer, answer}
use Rattle.tesl.specs.Machine.{machine, list_after_calls, session, LogResult, concluded, calls_of, judge_log}
use Rattle.records.specs.Refusal.{refusal_number}
use Rattle.records.proofs.sheet.Read.{sheet-refused}
use Rattle.logs.specs.declared.log.LastMonitor.{LastMonitor}
use Rattle.logs.specs.declared.log.LastRows.{LastRows}
use Rattle.judge.specs.declared.monitor.Monitor.{Monitor}
use Rattle.judge.specs.declared.start.Begun.{Begun}
use Rattle.judge.specs.Answer.{reply_of}
use Rattle.logs.specs.Entry.{entry, answers_from}
use Rattle.judge.specs.Monitor.{KeepsNothing, blank_monitor, no_monitor}
use Rattle.judge.specs.Promises.{Follows}
use Rattle.judge.specs.Progress.{ReadBack}
use Rattle.logs.specs.Log.{FollowsLog, entries, watched_as, watch_log}
use Rattle.logs.specs.Records.{ObservedRecords, ObservedLog, Counted, CountedLog}
use Rattle.judge.proofs.progress.Laws.{follows-back, nothing-back}
use Rattle.logs.proofs.log.Answers.{concluded-count, instants-all, length-entries}
use Rattle.judge.proofs.monitor.Opened.{OpenedRows, sheet-taken}

-- ---- what was read

module _ (sheet log : List ℕ) {s : SheetValue} (e : read_sheet sheet ≡ taken s) where
  entries-of : entries sheet log ≡ flat_map entry (answers_from s [] log)
  unfolding entries session
  entries-of = rw e

  size_of : length (entries sheet log) ≡ 3 * length (answers_from s [] log)
  size_of = ap length entries-of ∙ length-entries (answers_from s [] log)

module _ (sheet log : List ℕ) {n : ℕ} (e : read_sheet sheet ≡ refused n) where
  judged-refused : record { outcome = refused n; instants = 0 } ≡ judge_log sheet log
  unfolding judge_log session
  judged-refused = rw e

  no-entries : entries sheet log ≡ []
  unfolding entries session
  no-entries = rw e

-- ---- the log observed

module _ (sheet log : List ℕ) {x : Result Sheet Refusal} (e : outcome_of x ≡ sheet_read (read_sheet sheet)) where
  module _ {why : Refusal} (a : x ≡ Err why) where
    is : read_sheet sheet ≡ refused (refusal_number why)
    is = sheet-refused (read_sheet sheet) x e a

    pub log-refused : {m : Monitor} → m ≡ blank_monitor (sheet_of (record { clocks = 0; lines = [] })) → (out : List ℕ) → ObservedLog sheet log (record { reply = Err why; instants = 0; monitor = m }) out out
    unfolding no_monitor
    log-refused q out = record {
      followed = record {
        judged = judged-refused sheet log is;
        refuses = λ n g. q;
        follows = λ s g. refused-taken (sym is ∙ g);
        unused = λ s g. refused-taken (sym is ∙ g);
      };
      size = refl;
      buffer = λ h. rw (no-entries sheet log is);
    }

    pub none-counted : CountedLog sheet log 0
    none-counted =
        record { most = omega arith; entries-size = sym (ap length (no-entries sheet log is)); judged = ap (λ (r : LogResult). r.instants) (judged-refused sheet log is) }

  module _ {value : Sheet} (a : x ≡ Ok value) where
    module _ {g : Begun} {lines rows : List ℕ} (o : OpenedRows Rising 24 sheet e a g lines rows) {r : LastRows} {out : List ℕ} {list : List Bool} {before after : List ℕ}
        (w : ObservedRecords log g lines r rows out list before after) where
      pub log-observed : {m : Monitor} → ReadBack value r.progress g.plan m out → ObservedLog sheet log (record { reply = r.reply; instants = r.instants; monitor = m }) before after
      unfolding judge_log session
      log-observed {m} back =
          let k = w.follows value o.ready in
          let left = w.ready value o.ready in
          record {
            followed = record {
              judged = k.concludes o.value [] o.follows ∙ rw (o.read, o.said);
              refuses = λ n g. refused-taken (sym g ∙ o.read);
              follows = λ s g.
                  let z : o.value ≡ s = cc in
                  subst (Follows s _) (sym back.same) (follows-back left back.found (rw z at (k.follows o.value [] o.follows)));
              unused = λ s g. subst KeepsNothing (sym back.same) (nothing-back left back.found (w.tags value o.ready o.tags));
            };
            size = w.size;
            buffer = λ h. k.buffer o.value [] o.follows (omega (arith, size_of sheet log o.read)) ∙ rw (entries-of sheet log o.read);
          }

    -- ---- counted

    pub log-counted : {n : ℕ} → Counted log value.clocks n → CountedLog sheet log n
    unfolding judge_log session
    log-counted {n} c =
        let t = sheet-taken Rising 24 sheet e a in
        let s = t.value in
        let h = t.read in
        let count = c.same s (ap (λ (v : Sheet). v.clocks) (sym t.is)) in
        record { most = c.most; entries-size = omega (arith, size_of sheet log h); judged = rw h (omega (arith, concluded-count (taken (answer s [])) 0 (machine s [] (calls_of log)), count)) }

-- ---- after an answer the monitor follows the machine's list, whole
module _ {sheet log : List ℕ} {r : LastMonitor} (l : FollowsLog sheet log r) {s : SheetValue} (e : read_sheet sheet ≡ taken s) where
  pub follows-whole : {a : Answer} → reply_of r.reply ≡ taken a → Follows s (list_after_calls s [] (calls_of log)) r.monitor
  unfolding judge_log session
  follows-whole {a} q =
      let k : reply_of r.reply ≡ (concluded (taken (answer s [])) 0 (machine s [] (calls_of log))).outcome = ap (λ (j : LogResult). j.outcome) l.judged ∙ rw e in
      rw (← instants-all s [] (calls_of log) (taken (answer s [])) 0 (sym k ∙ q)) (l.follows s e)

-- ---- every answer in a buffer

module _ (sheet log out : List ℕ) {n : ℕ} (c : CountedLog sheet log n) where
  pub watched-short : length out < 3 * n → watched_as (record { outcome = refused 10; instants = n }) out ≡ watch_log sheet log out
  unfolding watch_log
  watched-short h = rw (lt-ltb (length out) (length (entries sheet log)) (omega (arith, c.entries-size)), c.judged)

  pub watched-whole : 3 * n ≤ length out → {r : LastMonitor} {after : List ℕ} → ObservedLog sheet log r out after → watched_as (record { outcome = reply_of r.reply; instants = r.instants }) after ≡ watch_log sheet log out
  unfolding watch_log
  watched-whole h {r} {after} o =
      let room : length (entries sheet log) ≤ length out = omega (arith, c.entries-size) in
      let b : after ≡ entries sheet log ++ drop (length (entries sheet log)) out = o.buffer room ∙ puts-front out (entries sheet log) room in
      rw (le-ltb (length out) (length (entries sheet log)) room, o.followed.judged, b)
