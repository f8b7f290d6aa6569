-- A state opened: the head and one row are cleared, the remainder of no instant is begun there, every word that it doesn't use is cleared; then the format, the sheet and the monitor beside it are stored, each where the others are not; so it follows the sheet that was read. Assumes nothing.
use Rattle.std.specs.Prelude.{Some, Ok}
use mathlib.Core.Bool.{false}
use mathlib.Core.List.{List, []}
use mathlib.Core.Path.{◌≡◌, sym, ap, ◌∙◌, subst}
use Prim.Native.Nat.{ℕ, ◌+◌, ◌≤◌, ◌<◌}
use native.Mathlib.Omega.{arith}
use lib.IntN.{pos}
use lib.ListN.{length, get_or}
use Rattle.records.specs.declared.order.Order.TheVariants.{Rising}
use Rattle.records.specs.declared.sheet.Sheet.{Sheet}
use Rattle.records.specs.Outcome.{taken}
use Rattle.records.specs.Sheet.{SheetValue, sheet_value, read_sheet}
use Rattle.records.specs.Types.{IsBytes}
use Rattle.records.specs.Word.{raw_of}
use Rattle.records.proofs.Lists.{refused-taken, taken-same}
use Rattle.records.proofs.sheet.RoundTrip.{sheet_of-value}
use Rattle.judge.specs.declared.answer.Answer as code
use Rattle.remainders.specs.declared.held.Held.{Held}
use Rattle.judge.specs.declared.progress.Progress.{Progress}
use Rattle.lines.specs.declared.plan.Plan.{Plan}
use Rattle.remainders.specs.View.{live_count, held_of}
use Rattle.judge.specs.Answer.{answer_of, said_by}
use Rattle.lines.specs.Plan.{Planned, PlanOf}
use Rattle.remainders.specs.Word.{flag_word}
use Rattle.remainders.specs.Rows.{width, all_words, head_rows, stopped_part, word, row_stop}
use Rattle.remainders.proofs.rows.Flags.{flag-stored}
use Rattle.step.specs.Apply.{found_in, FewOwedIn}
use Rattle.judge.specs.Start.{BlankRow, BegunRows}
use Rattle.lent.specs.UnusedWords.{NothingBeside}
use Rattle.lent.specs.Cleared.{ClearedRows, ClearedBeside}
use Rattle.judge.specs.Progress.{first_progress, rows_held, rows_monitor}
use Rattle.judge.specs.Promises.{Follows}
use Rattle.lent.specs.State.{state_words, state_sheet, state_progress, slot_words, PutFormat, PutProgress, PutSheet}
use Rattle.lent.specs.StoredState.{AsStored}
use Rattle.lent.specs.Live.{FollowsIn, OpenedIn}
use Rattle.remainders.proofs.rows.Placing.{blank-at}
use Rattle.judge.proofs.progress.Laws.{held_rows, sized_rows, follows_same}
use Rattle.judge.proofs.monitor.Opened.{SheetTaken, follows-begun}
use Rattle.lent.proofs.unused.Sides.{SameRows, small_same, found-same}
use Rattle.lent.proofs.state.Words.{words_same}
use Rattle.lent.proofs.state.Same.{sheet-beside, state-made, value_made}
use Rattle.lent.proofs.live.Stored.{kinds-stored, numbers-stored, top-stored, stored-made}
use Rattle.lent.proofs.live.Keeping.{beside_same}

-- ---- room for each part

pub blank-row : {a z : List ℕ} → length a ≡ all_words → ClearedRows 0 7 a z → BlankRow z head_rows
blank-row size zero = record { size = zero.stays.size ∙ size; blank = λ p h. zero.zero 6 p (omega arith) (omega arith) h }

-- ---- a sheet read
module _ {bytes : List ℕ} {sheet : Sheet} (read : SheetTaken Rising 24 bytes sheet) where
  sheet-read : {v : SheetValue} → read_sheet bytes ≡ taken v → sheet_value sheet ≡ v
  sheet-read r = ap sheet_value read.is ∙ sheet_of-value read.value ∙ taken-same (sym read.read ∙ r)

  -- ---- stored in turn
  module _ {p : Plan} {lines a z g d f h b : List ℕ} (plan : PlanOf sheet p lines) (zero : ClearedRows 0 7 a z) (begun : BegunRows (sheet_value sheet) z g) (cleared : ClearedBeside p head_rows (Some 1) g d) (format : PutFormat d f) (lined : PutSheet sheet f h) {k : Progress} (first : k ≡ first_progress) (put : PutProgress k h b) where
    -- the rows behind the head
    behind : (i j : ℕ) → 6 ≤ i → j < width → word b i j ≡ word d i j
    behind i j l m =
        put.stays.same i j m (λ y u w. omega arith)
        ∙ lined.rows i j (omega arith) m
        ∙ format.stays.same i j m (λ y u w. omega arith)

    same_rows : SameRows d b head_rows 1
    same_rows i j l m = behind (6 + i) j (omega arith) m

    small-opened : FewOwedIn (Some 1) b head_rows
    small-opened = small_same d b head_rows (Some 1) same_rows cleared.small

    abbrev first-in : List ℕ → Held
    first-in rows = rows_held (Some 1) rows head_rows

    value : sheet_value (state_sheet b) ≡ sheet_value sheet
    value = value_made lined put

    planned : Planned (sheet_value (state_sheet b)) p lines
    planned = subst (λ (y : SheetValue). Planned y p lines) (sym value) plan.planned

    same : held_of (sheet_value (state_sheet b)) (first-in b) ≡ held_of (sheet_value (state_sheet b)) (first-in g)
    same =
        let v = sheet_value (state_sheet b) in
        held_rows b head_rows v (Some 1) ∙ found-same d b head_rows (Some 1) same_rows cleared.small v ∙ cleared.held v lines planned ∙ sym (held_rows g head_rows v (Some 1))

    kept-first : state_progress b ≡ first_progress
    kept-first = put.progress ∙ first

    module _ (is : IsBytes bytes) {v : SheetValue} (r : read_sheet bytes ≡ taken v) where
      follows : Follows v [] (rows_monitor (state_sheet b) first_progress b)
      follows =
          follows_same (state_sheet b) 0 first_progress.tags (first-in g) (first-in b) same (sized_rows b head_rows (Some 1) small-opened)
          (follows-begun Rising 24 bytes is v r (state_sheet b) (value ∙ sheet-read r) (subst (λ (y : SheetValue). BegunRows y z g) (sym value) begun))

      follows-opened : FollowsIn v [] b
      follows-opened = record {
        state = state-made lined put format;
        follows = subst (λ (y : Progress). Follows v [] (rows_monitor (state_sheet b) y b)) (sym kept-first) follows;
      }

    -- the words of the head before the format, the sheet and the monitor were stored
    blank : (i j : ℕ) → i < 6 → j < width → word d i j ≡ 0
    blank i j l m = cleared.head i j l m ∙ begun.stays.same i j m (λ y u w. omega arith) ∙ zero.zero i j (omega arith) (omega arith) m

    -- a word of row 0 behind the format and the sheet's
    blank-top : (j : ℕ) → 2 < j → j < width → word h 0 j ≡ 0
    blank-top j l m = lined.top j m (λ y. omega arith) (λ y. omega arith) ∙ format.stays.same 0 j m (λ y u w. omega arith) ∙ blank 0 j (omega arith) m

    -- the stopped clocks of the remainder of no instant: none
    unstopped : (j k : ℕ) → j < 1 → k < p.clocks → word b (head_rows + j) (stopped_part + k) ≡ 0
    unstopped j k l m =
        let e : head_rows + j ≡ 6 = omega arith in
        let f = p.few_clocks in
        behind (head_rows + j) (stopped_part + k) (omega arith) (omega arith)
        ∙ cleared.stops j l k m
        ∙ begun.stays.same (head_rows + j) (stopped_part + k) (omega arith) (λ y u w. omega arith)
        ∙ zero.zero (head_rows + j) (stopped_part + k) (omega arith) (omega arith) (omega arith)

    sheet-opened : state_sheet b ≡ state_sheet h
    sheet-opened = sheet-beside h b put.stays

    places : (j : ℕ) → j < 16 → state_words b j ≡ slot_words (state_sheet b) j
    places j m = words_same h b (λ i q u w y. put.stays.same i q y (λ n s t. omega arith)) j m ∙ lined.words j m ∙ ap (λ (y : Sheet). slot_words y j) (sym sheet-opened)

    stored : AsStored b
    stored =
        stored-made b planned
        (subst (λ (y : Progress). FewOwedIn y.count b y.from) (sym kept-first) small-opened)
        (subst (λ (y : Progress). NothingBeside p y.count y.from b) (sym kept-first) (beside_same (Some 1) head_rows d b (omega arith) behind cleared.nothing))
        (subst (λ (y : Progress). (j k : ℕ) → j < live_count y.count → k < p.clocks → word b (y.from + j) (stopped_part + k) ≡ flag_word (row_stop b (y.from + j) k)) (sym kept-first) (λ j k l m. flag-stored false (unstopped j k l m)))
        (top-stored b planned.few-clocks (state-made lined put format)
        (put.stays.same 0 1 (omega arith) (λ y u w. omega arith) ∙ lined.clocks ∙ ap (λ (y : Sheet). y.clocks) (sym sheet-opened))
        (put.live ∙ ap (λ (y : Progress). live_count y.count) (sym put.progress))
        (λ j l. put.raw j l ∙ ap (λ (y : Progress). raw_of (get_or y.tags j (pos 0))) (sym put.progress))
        (λ j l. ap (λ (y : Progress). get_or y.tags j (pos 0)) kept-first ∙ blank-at (pos 0) 8 j)
        (put.gap ∙ blank-top 7 (omega arith) (omega arith))
        (λ j l m. put.stays.same 0 j m (λ y u w. omega arith) ∙ blank-top j (omega arith) m))
        (kinds-stored b (state_sheet b) places)
        (numbers-stored b (state_sheet b) places (λ j l m. put.stays.same 2 j m (λ y u w. omega arith) ∙ lined.free j l m ∙ format.stays.same 2 j m (λ y u w. omega arith) ∙ blank 2 j (omega arith) m))
        (λ i j l m n. put.stays.same i j n (λ y u w. omega arith) ∙ lined.rows i j l n ∙ format.stays.same i j n (λ y u w. omega arith) ∙ blank i j m n)

    pub opened-state : IsBytes bytes → {y : code.Answer} → ((v : SheetValue) → answer_of y ≡ said_by (found_in v (Some 1) g head_rows)) → OpenedIn read_sheet bytes (Ok y) a b
    opened-state is {y} says = record {
      refuses = λ n r. refused-taken (sym r ∙ read.read);
      opens = λ v r. (ap taken (says (sheet_value (state_sheet b)) ∙ ap said_by (sym (held_rows g head_rows (sheet_value (state_sheet b)) (Some 1)) ∙ sym same) ∙ (follows is r).said), follows-opened is r);
      stored = λ v r. stored;
    }
