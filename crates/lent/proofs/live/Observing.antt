-- A call on a state: where there is no monitor within its limits it is refused with 11; else the rows are observed where they stand, and what the words then stand for goes on as the rows do. Assumes nothing.
use Rattle.std.specs.Prelude.{Ok, Err}
use mathlib.Core.Bool.{Bool, true, false, ◌&&◌}
use mathlib.Core.List.{List}
use mathlib.Core.Option.{Option}
use mathlib.Core.Path.{◌≡◌, refl, sym, ap, ap₂, ◌∙◌, subst}
use Prim.Native.Nat.{ℕ, ◌+◌, ◌≤◌, ◌<◌}
use native.Mathlib.Omega.{arith}
use lib.Dec.{T}
use lib.IntN.{pos}
use lib.ListN.{length, get_or}
use Rattle.records.specs.declared.sheet.Sheet.{Sheet}
use Rattle.records.specs.Outcome.{taken, refused}
use Rattle.records.specs.Sheet.{sheet_value}
use Rattle.records.specs.Word.{raw_of}
use Rattle.records.proofs.Lists.{both, refused-taken}
use Rattle.tesl.specs.Run.{Instant}
use Rattle.tesl.specs.Remainder.{Remainder}
use Rattle.judge.specs.declared.answer.Answer as code
use Rattle.records.specs.declared.refusal.Refusal.{Refusal}
use Rattle.records.specs.declared.refusal.Refusal.TheVariants.{MonitorLimits}
use Rattle.remainders.specs.declared.held.Held.{Held}
use Rattle.judge.specs.declared.progress.Progress.{Progress}
use Rattle.judge.specs.declared.progress.InstantResult.{InstantResult}
use Rattle.lent.specs.declared.live.FoundState.{FoundState}
use Rattle.lent.specs.declared.live.Replied.{Replied}
use Rattle.judge.specs.declared.monitor.Monitor.{Monitor}
use Rattle.remainders.specs.View.{live_count, held_of, sized}
use Rattle.judge.specs.Answer.{reply_of, said_by}
use Rattle.judge.specs.Limits.{monitor_within}
use Rattle.lines.specs.Plan.{Planned}
use Rattle.remainders.specs.Word.{flag_of, flag_word}
use Rattle.remainders.specs.Rows.{stopped_part, word, row_stop, HeadStays}
use Rattle.lent.specs.UnusedWords.{NothingElse, NothingBeside}
use Rattle.step.specs.Apply.{Side, FewOwedIn}
use Rattle.step.specs.Fill.{Working}
use Rattle.judge.specs.Progress.{rows_held, rows_monitor, given, Ready, Takes}
use Rattle.judge.specs.Promises.{observes, Accepted, Called}
use Rattle.lent.specs.State.{is_state, state_sheet, state_count, state_progress, state_monitor}
use Rattle.lent.specs.StoredState.{top_words, kinds_row, numbers_row, RowIs, AsStored}
use Rattle.lent.specs.Live.{state_within, instants_in, observes_in, ObservedIn}
use Rattle.lent.specs.Found.{FoundOne, KeepingNext, KeptNext}
use Rattle.judge.proofs.progress.Laws.{held_rows, small-rows, sized_rows, within_same, follows_same}
use Rattle.judge.proofs.monitor.Limits.{limits_of}
use Rattle.lent.proofs.unused.Sides.{few-live}
use Rattle.lent.proofs.state.Laws.{side-of}
use Rattle.lent.proofs.state.Same.{sheet-stays, state-stays}
use Rattle.lent.proofs.live.Finding.{state-side}
use Rattle.lent.proofs.live.Stored.{top-past, top-stored, flags-in, nothing-else, stored-made}

abbrev pub replied : InstantResult → Replied
replied t = record { reply = t.reply; instants = t.progress.instants }

-- ---- what a state is
module _ (w : List ℕ) where
  pub is_state-law : state_within w ≡ true → is_state w ≡ true
  unfolding state_within
  is_state-law e = (both (is_state w) e).0

  pub instants-held : state_within w ≡ true → instants_in w ≡ (state_progress w).instants
  unfolding instants_in
  instants-held e = rw e

  pub no-instants : state_within w ≡ false → instants_in w ≡ 0
  unfolding instants_in
  no-instants e = rw e

  taken-for : is_state w ≡ true → (bytes : List ℕ) → observes_in w bytes ≡ observes (state_monitor w) bytes
  unfolding observes_in
  taken-for e bytes = rw e

  -- no monitor within its limits
  none-taken : state_within w ≡ false → (bytes : List ℕ) → observes_in w bytes ≡ refused 11
  unfolding observes_in observes state_within
  none-taken f bytes = by_state (is_state w) refl
    where
      by_state : (b : Bool) → is_state w ≡ b → observes_in w bytes ≡ refused 11
      by_state false e = rw e
      by_state true e = let o : monitor_within (state_monitor w) ≡ false = ap (λ (x : Bool). x && monitor_within (state_monitor w)) (sym e) ∙ f in rw (e, o)

-- ---- none is found
pub observed-none : {w : List ℕ} → state_within w ≡ false → (bytes : List ℕ) → ObservedIn bytes (record { reply = Err MonitorLimits; instants = 0 }) w w
observed-none {w} out bytes =
    let o = none-taken w out bytes in
    record {
      refuses = λ n e. let z : 11 ≡ n = cc in (ap refused z, refl);
      accepts = λ i e. refused-taken (sym o ∙ e);
      instants = sym (no-instants w out);
      stored = λ i e n. refused-taken (sym o ∙ e);
    }

-- ---- one is found
module _ {w : List ℕ} {f : FoundState} {lines : List ℕ} (found : FoundOne w f lines) where
  pub side : Side (state_progress w).from
  side = side-of (word w 0 4) (state-side w (is_state-law w found.within))

  pub small : FewOwedIn (state_progress w).count w (state_progress w).from
  small = small-rows w (word w 0 4) (state_count w) (limits_of (state_monitor w) found.ready.value found.ready.limits).fits

  pub room : {list : List Bool} → length list ≡ 2048 → Working w f.progress.from f.progress.count list
  room {list} lists = subst (λ (k : Progress). Working w k.from k.count list) (sym found.progress) (record { size = found.size; side = side; small = small; lists = lists })

  module _ {bytes : List ℕ} {t : InstantResult} {m : List ℕ} {list : List Bool} (takes : Takes f.progress f.plan bytes lines t w m list) where
    abbrev s : Sheet
    s = state_sheet w

    abbrev next : Progress
    next = t.progress

    ready-kept : Ready (state_sheet w) f.progress f.plan lines w
    ready-kept = subst (λ (k : Progress). Ready (state_sheet w) k f.plan lines w) (sym found.progress) found.ready

    called : Called (state_monitor w) bytes (given t.reply (rows_monitor (state_sheet w) t.progress m))
    called = subst (λ (k : Progress). Called (rows_monitor (state_sheet w) k w) bytes (given t.reply (rows_monitor (state_sheet w) t.progress m))) found.progress (takes.called (state_sheet w) ready-kept)

    call : observes_in w bytes ≡ observes (state_monitor w) bytes
    call = taken-for w (is_state-law w found.within) bytes

    refuses : {n : ℕ} → observes_in w bytes ≡ refused n → reply_of t.reply ≡ refused n
    refuses {n} e = (called.refuses n (sym call ∙ e)).reply

    -- refused, no word changes
    pub observed-refused : {why : Refusal} → t.reply ≡ Err why → ObservedIn bytes (replied t) w m
    observed-refused {why} p =
        let k = takes.refused why p in
        record {
          refuses = λ j e. (refuses e, k.1);
          accepts = λ i e. refused-taken (ap reply_of (sym p) ∙ (called.accepts i (sym call ∙ e)).answers);
          stored = λ i e n. refused-taken (ap reply_of (sym p) ∙ (called.accepts i (sym call ∙ e)).answers);
          instants = ap (λ (x : Progress). x.instants) (k.0 ∙ found.progress) ∙ sym (instants-held w found.within) ∙ ap instants_in (sym k.1);
        }

    -- answered, the monitor after it is stored
    module _ {x : code.Answer} (q : t.reply ≡ Ok x) where
      after : Ready (state_sheet w) t.progress f.plan lines m
      after = takes.ready (state_sheet w) ready-kept

      pub keeping : KeepingNext m f.progress t.progress
      keeping = record {
        size = takes.room.size;
        side = subst (λ (k : Progress). Side k.from) (sym found.progress) side;
        to = (takes.moved x q).to;
        held = subst (λ (k : Progress). live_count k.count ≤ 32) (sym found.progress) (few-live (state_count w) w (word w 0 4) small);
        small = takes.room.small;
        instants = (limits_of (rows_monitor (state_sheet w) t.progress m) after.value after.limits).instants;
      }

      head : HeadStays w m
      head h j l k = (takes.moved x q).stays.same h j k (λ y z. omega (arith, keeping.side.past))

      module _ {b : List ℕ} (kept : KeptNext f.plan f.progress t.progress m b) where
        sheet-after : state_sheet b ≡ state_sheet w
        sheet-after = kept.sheet ∙ sheet-stays w m head

        state-after : is_state b ≡ true
        state-after = kept.state (state-stays w m head ∙ is_state-law w found.within)

        abbrev in_rows : List ℕ → Held
        in_rows rows = rows_held t.progress.count rows t.progress.from

        same : held_of (sheet_value (state_sheet w)) (in_rows b) ≡ held_of (sheet_value (state_sheet w)) (in_rows m)
        same =
            held_rows b next.from (sheet_value s) next.count
            ∙ kept.found (sheet_value s) lines after.planned
            ∙ sym (held_rows m next.from (sheet_value s) next.count)

        fits : T (sized (in_rows b))
        fits = sized_rows b next.from next.count kept.small

        monitor-after : state_monitor b ≡ rows_monitor (state_sheet w) t.progress b
        monitor-after = ap₂ (λ (y : Sheet) (k : Progress). rows_monitor y k b) sheet-after kept.progress

        limits-after : monitor_within (rows_monitor (state_sheet w) t.progress b) ≡ true
        limits-after = within_same s next.instants next.tags (in_rows m) (in_rows b) same fits after.limits

        accepted : {i : Instant} → Accepted (state_monitor w) i (given t.reply (rows_monitor (state_sheet w) t.progress m)) → Accepted (state_monitor w) i (given t.reply (rows_monitor (state_sheet w) t.progress b))
        accepted a = record {
          answers = a.answers ∙ ap (λ (h : Option (List Remainder)). taken (said_by h)) (sym same);
          limits = limits-after;
          follows = λ v run g. let k = a.follows v run g in (k.0, follows_same s next.instants next.tags (in_rows m) (in_rows b) same fits k.1);
        }

        within-after : state_within b ≡ true
        unfolding state_within
        within-after = ap₂ ◌&&◌ state-after (ap monitor_within monitor-after ∙ limits-after)

        planned-after : Planned (sheet_value (state_sheet b)) f.plan lines
        planned-after = subst (λ (y : Sheet). Planned (sheet_value y) f.plan lines) (sym sheet-after) after.planned

        -- the words of the head but for the monitor beside the sheet
        same_head : (h j : ℕ) → h < 6 → j < 64 → (h ≡ 0 → 3 ≤ j → j < 16 → ⊥) → word b h j ≡ word w h j
        same_head h j l m g = kept.head h j l m g ∙ head h j l m

        few-clocks : (state_sheet b).clocks ≤ 8
        few-clocks = planned-after.few-clocks

        top-after : AsStored w → RowIs b 0 (top_words (state_sheet b) (state_progress b))
        top-after n =
            top-stored b few-clocks state-after
            (same_head 0 1 (omega arith) (omega arith) (λ e x y. omega arith) ∙ n.top 1 (omega arith) ∙ ap (λ (y : Sheet). y.clocks) (sym sheet-after))
            (kept.live ∙ ap (λ (k : Progress). live_count k.count) (sym kept.progress))
            (λ j l. kept.raw j l ∙ ap (λ (k : Progress). raw_of (get_or k.tags j (pos 0))) (sym kept.progress))
            (λ j l. ap (λ (k : Progress). get_or k.tags j (pos 0)) kept.progress ∙ takes.tags (state_sheet w) ready-kept x q j (subst (λ (y : Sheet). y.clocks ≤ j) sheet-after l))
            (kept.gap ∙ head 0 7 (omega arith) (omega arith) ∙ n.top 7 (omega arith))
            (λ j l m. same_head 0 j (omega arith) m (λ e x y. omega arith) ∙ n.top j m ∙ top-past w found.ready.planned.few-clocks j l)

        -- the stopped clocks of those found
        flags-after : AsStored w → (j k : ℕ) → j < live_count t.progress.count → k < f.plan.clocks → word b (t.progress.from + j) (stopped_part + k) ≡ flag_word (row_stop b (t.progress.from + j) k)
        flags-after n j k l m =
            let e = kept.stops j l k m in
            let s = ((takes.moved x q).flags (flags-in w found.ready.planned n)).flag (t.progress.from + j) k (omega (arith, keeping.to, keeping.side.past)) (omega (arith, keeping.to, keeping.side.other, few-live t.progress.count b t.progress.from kept.small)) (omega (arith, f.plan.few_clocks)) in
            e ∙ s ∙ ap (λ (v : ℕ). flag_word (flag_of v)) (sym e)

        stored-after : AsStored w → AsStored b
        stored-after n =
            stored-made b planned-after
            (subst (λ (k : Progress). FewOwedIn k.count b k.from) (sym kept.progress) kept.small)
            (subst (λ (k : Progress). NothingBeside f.plan k.count k.from b) (sym kept.progress)
            (kept.nothing w (subst (λ (k : Progress). NothingElse k.count k.from w) (sym found.progress) (nothing-else w found.ready.planned n)) (takes.moved x q).stays))
            (subst (λ (p : Progress). (j k : ℕ) → j < live_count p.count → k < f.plan.clocks → word b (p.from + j) (stopped_part + k) ≡ flag_word (row_stop b (p.from + j) k)) (sym kept.progress) (flags-after n))
            (top-after n)
            (λ j l. same_head 1 j (omega arith) l (λ e. absurd (omega arith)) ∙ n.kinds j l ∙ ap (λ (y : Sheet). get_or (kinds_row y) j 0) (sym sheet-after))
            (λ j l. same_head 2 j (omega arith) l (λ e. absurd (omega arith)) ∙ n.numbers j l ∙ ap (λ (y : Sheet). get_or (numbers_row y) j 0) (sym sheet-after))
            (λ h j l m k. same_head h j m k (λ e x y. omega arith) ∙ n.others h l (omega arith) (λ x y. omega (arith, side.other)) j k)

        pub observed-answered : ObservedIn bytes (replied t) w b
        observed-answered = record {
          refuses = λ n e. refused-taken (sym (refuses e) ∙ ap reply_of q);
          accepts = λ i e. (state-after, subst (λ (y : Monitor). Accepted (state_monitor w) i (given t.reply y)) (sym monitor-after) (accepted (called.accepts i (sym call ∙ e))));
          stored = λ i e n. stored-after n;
          instants = ap (λ (k : Progress). k.instants) (sym kept.progress) ∙ sym (instants-held b within-after);
        }
