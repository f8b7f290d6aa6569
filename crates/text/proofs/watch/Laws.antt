-- The replies to a log, a line each: every call follows the plain machine, so the lines put so far and those of its replies from here on are the lines of its replies to the log. Assumes nothing.
use mathlib.Core.List.{List, [], ◌∷◌}
use mathlib.Core.Path.{◌≡◌, refl, sym, ap, ◌∙◌, subst}
use Prim.Native.Nat.{ℕ, suc, ◌+◌, ◌≤◌}
use native.Mathlib.Omega.{arith}
use lib.ListN.{length, drop, length-append, drop_of_length-le}
use Rattle.records.specs.Outcome.{Outcome, taken, refused}
use Rattle.records.specs.Record.{TheRecord}
use Rattle.records.specs.Sheet.{SheetValue, read_sheet}
use Rattle.records.specs.Store.{puts}
use Rattle.records.proofs.Lists.{refused-taken, refused-same}
use Rattle.records.proofs.record.Cut.{no_pieces}
use Rattle.tesl.specs.Run.{Instant}
use Rattle.tesl.specs.Answer.{Answer}
use Rattle.tesl.specs.Machine.{accepts, list_after, reply, machine, session, calls_of}
use Rattle.theory.proofs.Log.{next-replies}
use Rattle.judge.specs.declared.answer.Answer as code
use Rattle.std.specs.Prelude.{Ok, Err}
use Rattle.records.specs.declared.refusal.Refusal.{Refusal}
use Rattle.records.specs.Refusal.{refusal_number}
use Rattle.judge.specs.declared.monitor.Monitor.{Monitor}
use Rattle.judge.specs.declared.monitor.CallResult.{CallResult}
use Rattle.judge.specs.Answer.{answer_of, reply_of}
use Rattle.judge.specs.Monitor.{sheet_by}
use Rattle.judge.specs.Promises.{Follows, Opened, Observed}
use Rattle.judge.proofs.Demands.{observing-follows}
use Rattle.text.specs.Text.{answer_line, refusal_line}
use Rattle.text.specs.Output.{watch_text, printed, printed_as}
use Rattle.text.specs.Built.{replies_text, RepliesReady}
use Rattle.text.proofs.put.Laws.{putting-start, Printing, printed-end, printed-refused, taken-room, printing-more}
use Rattle.text.proofs.put.Laws as put

-- ---- a turn; m₀ is the monitor at the start

pub record Telling (log out₀ : List ℕ) (m₀ : Monitor) (out : List ℕ) (m : Monitor) (end at : ℕ) : Type 0 where
  pub run : List Instant
  pub follows : Follows (sheet_by m₀) run m
  pub printing : Printing answer_line (replies_text m₀ log) out₀ out end (length run) (machine (sheet_by m₀) run (calls_of (drop at log)))

pub telling-start : (log out : List ℕ) (m : Monitor) → RepliesReady m log out → Telling log out m out m 0 0
telling-start log out m h = record { run = []; follows = h.follows; printing = record { putting = putting-start (replies_text m log) out } }

-- a reply that is an answer was given to one instant more
accepted-one : (s : SheetValue) (run : List Instant) (o : Outcome Instant) {a : Answer} → reply s run o ≡ taken a → length (list_after run o) ≡ suc (length run)
accepted-one s run (taken i) e = omega (arith, length-append run (i ∷ []))
accepted-one s run (refused n) e = refused-taken e

module _ {log out₀ out : List ℕ} {m₀ m : Monitor} {end at : ℕ} (w : Telling log out₀ m₀ out m end at) (ready : RepliesReady m₀ log out₀) where
  pub told-end : length log ≤ at → printed_as end out ≡ printed (replies_text m₀ log) out₀
  unfolding machine
  told-end h = printed-end w.printing ready.room (rw (drop_of_length-le log {i = at} h, no_pieces))

  module _ {p : List ℕ} (h : TheRecord log at p) {g : CallResult Refusal} (o : Observed m p g) where
    abbrev s : SheetValue
    s = sheet_by m₀

    abbrev after : List Instant
    after = list_after w.run (accepts s w.run p)

    -- the reply is the machine's
    same-reply : reply_of g.reply ≡ reply s w.run (accepts s w.run p)
    same-reply = (observing-follows s w.run m g.monitor p (reply_of g.reply) w.follows (g, o, refl, refl)).same

    follows-after : Follows s after g.monitor
    follows-after = (observing-follows s w.run m g.monitor p (reply_of g.reply) w.follows (g, o, refl, refl)).follows

    -- the replies from this record on
    replies : machine s w.run (calls_of (drop at log)) ≡ reply_of g.reply ∷ machine s after (calls_of (drop (at + length p) log))
    replies = rw (next-replies h s w.run, ← same-reply)

    module _ {n : Refusal} (e : g.reply ≡ Err n) where
      pub refused-room : end + length (refusal_line (refusal_number n)) ≤ length out
      refused-room = put.refused-room w.printing ready.room (rw e at replies)

      pub told-refused : {next : List ℕ} {last : ℕ} → next ≡ puts out end (refusal_line (refusal_number n)) → last ≡ end + length (refusal_line (refusal_number n)) → printed_as last next ≡ printed (replies_text m₀ log) out₀
      told-refused q f = printed-refused w.printing ready.room (rw e at replies) q f

    module _ {a : code.Answer} (e : g.reply ≡ Ok a) where
      one_more : length after ≡ suc (length w.run)
      one_more = accepted-one s w.run (accepts s w.run p) (sym same-reply ∙ ap reply_of e)

      -- the number is the monitor's count
      abbrev line : List ℕ
      line = answer_line g.monitor.instants (answer_of a)

      numbered : line ≡ answer_line (suc (length w.run)) (answer_of a)
      numbered = rw (← one_more, follows-after.instants)

      pub answered-room : end + length line ≤ length out
      answered-room = taken-room w.printing ready.room (rw e at replies) numbered

      pub told_more : {next : List ℕ} {last : ℕ} → next ≡ puts out end line → last ≡ end + length line → Telling log out₀ m₀ next g.monitor last (at + length p)
      told_more q f = record { run = after; follows = follows-after; printing = rw one_more (printing-more w.printing ready.room (rw e at replies) numbered q f) }

-- ---- the opening

module _ (sheet log : List ℕ) (g : CallResult Refusal) (h : Opened read_sheet sheet g) where
  pub text-refused : {n : Refusal} → g.reply ≡ Err n → watch_text sheet log ≡ refusal_line (refusal_number n)
  unfolding watch_text session
  text-refused {n} e = by_read (read_sheet sheet) refl
    where
      by_read : (o : Outcome SheetValue) → read_sheet sheet ≡ o → watch_text sheet log ≡ refusal_line (refusal_number n)
      by_read (taken s) f = refused-taken (ap reply_of (sym e) ∙ (h.opens s f).0)
      by_read (refused k) f =
          let z : k ≡ refusal_number n = refused-same (sym (h.refuses k f).reply ∙ ap reply_of e) in
          rw (f, z)

  module _ {a : code.Answer} (e : g.reply ≡ Ok a) where
    record Opens : Type 0 where
      pub text : watch_text sheet log ≡ replies_text g.monitor log
      pub follows : Follows (sheet_by g.monitor) [] g.monitor

    opens : Opens
    unfolding watch_text session
    opens = by_read (read_sheet sheet) refl
      where
        by_read : (o : Outcome SheetValue) → read_sheet sheet ≡ o → Opens
        by_read (refused k) f = refused-taken (sym (h.refuses k f).reply ∙ ap reply_of e)
        by_read (taken s) f =
            let q = (h.opens s f).1 in
            record {
              text = rw (f, q.sheet);
              follows = subst (λ (v : SheetValue). Follows v [] g.monitor) (sym q.sheet) q;
            }

    pub text-opened : watch_text sheet log ≡ replies_text g.monitor log
    text-opened = opens.text

    pub opened-ready : (out : List ℕ) → length (watch_text sheet log) ≤ length out → RepliesReady g.monitor log out
    opened-ready out room = record { follows = opens.follows; room = rw text-opened at room }
