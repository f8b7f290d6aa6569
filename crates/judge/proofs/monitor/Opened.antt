-- A monitor of no instant: its one remainder is that of no filled instant, so it follows the sheet that was read. Beside a refusal there is none: what stands there has no clock, and is outside its limits. Assumes nothing.
use Rattle.std.specs.Prelude.{Some, Result, Ok, Err}
use mathlib.Core.Bool.{true, false}
use mathlib.Core.List.{List, [], ◌∷◌, append-nil}
use mathlib.Core.Option.{Option, some}
use mathlib.Core.Path.{◌≡◌, refl, sym, ap, ◌∙◌, subst}
use Prim.Native.Nat.{ℕ, ◌+◌, ◌*◌}
use native.Mathlib.Omega.{arith}
use lib.Dec.{T}
use lib.IntN.{pos}
use lib.ListN.{length, get_or, replicate, length-replicate}
use Rattle.records.specs.declared.order.Order.{Order}
use Rattle.records.specs.declared.order.Order.TheVariants.{Any}
use Rattle.records.specs.declared.refusal.Refusal.{Refusal}
use Rattle.records.specs.declared.sheet.Sheet.{Sheet}
use Rattle.records.specs.Outcome.{Outcome, taken, refused, outcome_of}
use Rattle.records.specs.Sheet.{SheetValue, sheet_value, sheet_of, sheet_read, read_by, sheet_value_checks}
use Rattle.records.specs.Types.{IsBytes, IsSheet}
use Rattle.records.proofs.Lists.{refused-taken, refused-same, taken-passed, passed-taken}
use Rattle.records.proofs.sheet.Passed.{passed-any}
use Rattle.records.proofs.sheet.Read.{sheet-refused, sheet-done_as}
use Rattle.records.proofs.sheet.RoundTrip.{read-writes, sheet_of-value}
use Rattle.tesl.specs.Lists.{all, any, flat_map}
use Rattle.tesl.specs.Fits.{most_tag, Obligation, owed_at_start, unmet}
use Rattle.tesl.specs.Remainder.{Remainder, remainder, same_obligation, same_remainder, owes}
use Rattle.tesl.specs.Answer.{answer, most_live}
use Rattle.tesl.proofs.Tests.{and_i}
use Rattle.theory.specs.Sets.{apart, SameSet}
use Rattle.theory.specs.Limits.{SheetLimits, within_limits}
use Rattle.theory.proofs.Lists.{filter-true}
use Rattle.theory.proofs.Respect.{same_of, owed-equivalence}
use Rattle.theory.proofs.Adding.{Adding, room, full, added-all}
use Rattle.theory.proofs.Sets.{number_more}
use Rattle.theory.proofs.Held.{held_start}
use Rattle.theory.proofs.Limits.{same-within, start-within}
use Rattle.theory.proofs.Opened.{read-limits, opening-owes, opening-answer}
use Rattle.work.specs.View.{held_list}
use Rattle.work.specs.Owed.{owing, added_all}
use Rattle.lines.specs.declared.plan.Plan.{Plan}
use Rattle.judge.specs.declared.progress.Progress.{Progress}
use Rattle.judge.specs.declared.start.Begun.{Begun}
use Rattle.judge.specs.declared.monitor.Monitor.{Monitor}
use Rattle.judge.specs.declared.monitor.CallResult.{CallResult}
use Rattle.remainders.specs.View.{sized}
use Rattle.judge.specs.Answer.{answer_of, reply_of, said_by}
use Rattle.judge.specs.Limits.{is_taken, sheet_within, monitor_within}
use Rattle.lines.specs.Plan.{numbers, Preparing, PlanOf}
use Rattle.remainders.specs.Rows.{width, all_words, head_rows, rows_of}
use Rattle.remainders.specs.Unused.{BlankFrom}
use Rattle.judge.specs.Start.{BlankRow, BegunRows, BegunMonitor}
use Rattle.judge.specs.Monitor.{sheet_by, held_by, blank_monitor, no_monitor, refused_call}
use Rattle.judge.specs.Progress.{rows_monitor, first_progress, given, ReadBack, Ready}
use Rattle.judge.specs.Promises.{Follows, Opened}
use Rattle.remainders.proofs.rows.Placing.{blank-at}
use Rattle.judge.proofs.monitor.Limits.{within-limits}
use Rattle.judge.proofs.progress.Laws.{held_rows, sized_rows, follows-back, nothing-back}

-- ---- what is owed from the start has room, and is what no filled instant leaves

module _ (s : SheetValue) (l : SheetLimits s) where
  abbrev start : List Obligation
  start = flat_map owed_at_start s.lines

  start-unmet : unmet most_tag s.lines [] ≡ start
  start-unmet = append-nil _ ∙ filter-true start

  record First : Type 0 where
    pub owed : List Obligation
    pub found : added_all start [] ≡ some owed
    pub these : SameSet same_obligation owed start
    pub once : T (apart same_obligation owed)

  first_of : {x : Option (List Obligation)} → Adding same_obligation 8 [] start x → added_all start [] ≡ x → First
  unfolding remainder owes
  first_of (room {xs = xs} h) e = record { owed = xs; found = e; these = h.set; once = h.once tt }
  first_of (full h) e =
      let many = number_more same_obligation owed-equivalence 8 h.among (unmet most_tag s.lines []) (h.once tt) (λ o t. subst (λ (os : List Obligation). T (any (same_obligation o) os)) (sym start-unmet) (h.covered o t)) h.many in
      absurd (omega (arith, opening-owes s l))

  first : First
  first = first_of (added-all same_obligation owed-equivalence 8 start []) refl

  -- as the monitor holds it
  held : Remainder
  held = owing (record { owed = first.owed; countdowns = [] }) (remainder s [])

  held_same : T (same_remainder held (remainder s []))
  unfolding remainder held
  held_same = same_of held (remainder s []) (record { leads = refl; stopped = refl; owed = λ o. first.these o ∙ ap (any (same_obligation o)) (sym start-unmet); countdowns = λ c. refl })

-- ---- a sheet that was read

module _ (order : Order) (last : ℕ) (b : List ℕ) (bytes : IsBytes b) (s : SheetValue) (e : read_by order last b ≡ taken s) where
  l : SheetLimits s
  l = read-limits order last b bytes e

  -- a monitor that holds the remainder of no instant
  module _ (m : Monitor) (same : sheet_by m ≡ s) (none : m.instants ≡ 0) (holds : held_by m ≡ some (held s l ∷ [])) (fits : T (sized m.held)) where
    said : said_by (held_by m) ≡ answer s []
    said = rw holds (sym (opening-answer most_live (omega arith) s l (held s l) (held_same s l)))

    sheet-within : T (sheet_within (sheet_by m))
    unfolding sheet_within
    sheet-within =
        subst (λ (v : SheetValue). T (sheet_within v)) (sym same)
        (subst (λ (o : Outcome SheetValue). T (is_taken o)) (sym (passed-taken (sheet_value_checks Any s) s (passed-any order s (taken-passed (sheet_value_checks order s) (read-writes order last b bytes e).checks).0))) tt)

    views : T (all (within_limits most_tag m.sheet.clocks m.instants) (held_list (held_by m)))
    views = rw (holds, ap (λ (v : SheetValue). v.clocks) same, none)
        (and_i (within_limits most_tag s.clocks 0 (held s l)) true
        (subst T (sym (same-within most_tag s.clocks 0 (held s l) (remainder s []) (held_same s l))) (start-within s l.clocks-below l.values)) tt)

    follows : Follows s [] m
    unfolding held
    follows = record {
      sheet = same;
      instants = none;
      last = rw none;
      said = said;
      held = λ n. rw holds (held_start s (held_same s l));
      once-each = rw holds (((first s l).once, tt), tt);
      limits = within-limits m sheet-within (omega (arith, none)) fits views;
    }

  -- begun in rows
  module _ (sheet : Sheet) (same : sheet_value sheet ≡ s) {blank rows : List ℕ} (begun : BegunRows (sheet_value sheet) blank rows) where
    holds-begun : held_by (rows_monitor sheet first_progress rows) ≡ some (held s l ∷ [])
    unfolding held
    holds-begun =
        held_rows rows head_rows (sheet_value sheet) (Some 1)
        ∙ ap some (subst (λ (v : SheetValue). BegunRows v blank rows → rows_of v rows head_rows 1 ≡ owing (record { owed = (first s l).owed; countdowns = [] }) (remainder s []) ∷ []) (sym same) (λ b. b.first l.clocks-most (first s l).owed (first s l).found) begun)

    pub follows-begun : Follows s [] (rows_monitor sheet first_progress rows)
    follows-begun = follows (rows_monitor sheet first_progress rows) same refl holds-begun (sized_rows rows head_rows (Some 1) begun.small)

    pub ready-begun : {p : Plan} {lines : List ℕ} → PlanOf sheet p lines → Ready sheet first_progress p lines rows
    ready-begun plan = record { value = subst IsSheet (sym same) (read-writes order last b bytes e).value; planned = plan.planned; limits = follows-begun.limits }

-- ---- a refused one: no clock is within the limits

pub no-monitor-outside : monitor_within no_monitor ≡ false
unfolding monitor_within sheet_within no_monitor
no-monitor-outside = refl

-- ---- as the code has them: what was read, and the monitor begun

-- a sheet was read, and is the one that the code has
pub record SheetTaken (order : Order) (last : ℕ) (b : List ℕ) (sheet : Sheet) : Type 0 where
  pub value : SheetValue
  pub read : read_by order last b ≡ taken value
  pub is : sheet ≡ sheet_of value

module _ (order : Order) (last : ℕ) (b : List ℕ) {x : Result Sheet Refusal} (e : outcome_of x ≡ sheet_read (read_by order last b)) where
  pub opened-refused : {why : Refusal} → x ≡ Err why → (r : CallResult Refusal) → r ≡ refused_call why (blank_monitor (sheet_of (record { clocks = 0; lines = [] }))) → Opened (read_by order last) b r
  unfolding no_monitor
  opened-refused {why} a r q =
      let h = sheet-refused (read_by order last b) x e a in
      record {
        refuses = λ j f. record { reply = ap (λ (c : CallResult Refusal). reply_of c.reply) q ∙ ap refused (refused-same (sym h ∙ f)); monitor = ap (λ (c : CallResult Refusal). c.monitor) q };
        opens = λ s f. refused-taken (sym h ∙ f);
        unused = λ s f. refused-taken (sym h ∙ f);
      }

  module _ {sheet : Sheet} (a : x ≡ Ok sheet) where
    pub sheet-taken : SheetTaken order last b sheet
    sheet-taken = let d = sheet-done_as (read_by order last b) x e a in record { value = d.0; read = d.1; is = d.2 }

    pub prepares-read : IsBytes b → {lines : List ℕ} → length lines ≡ numbers → Preparing sheet lines
    prepares-read bytes size =
        let t = sheet-taken in
        let l = read-limits order last b bytes t.read in
        rw t.is (record { few-lines = l.lines-most; few-clocks = l.clocks-most; size = size })

    -- ---- begun in rows: what was opened, the answer, and the monitor in rows
    pub record OpenedRows (r : Begun) (lines rows : List ℕ) : Type 0 where
      pub value : SheetValue
      pub read : read_by order last b ≡ taken value
      pub said : answer_of r.said ≡ answer value []
      pub follows : Follows value [] (rows_monitor sheet r.progress rows)
      pub ready : Ready sheet r.progress r.plan lines rows
      pub tags : BlankFrom sheet.clocks (pos 0) r.progress.tags

    pub opened_rows : IsBytes b → {r : Begun} {lines blank rows : List ℕ} → BegunMonitor sheet r lines blank rows → OpenedRows r lines rows
    opened_rows bytes {r} {lines} {blank} {rows} begun =
        let t = sheet-taken in
        let s = t.value in
        let h = t.read in
        let same : sheet_value sheet ≡ s = ap sheet_value t.is ∙ sheet_of-value s in
        let follows = follows-begun order last b bytes s h sheet same begun.rows in
        record {
          value = s;
          read = h;
          said = begun.said (sheet_value sheet) ∙ ap said_by (sym (held_rows rows head_rows (sheet_value sheet) (Some 1))) ∙ follows.said;
          follows = subst (λ (k : Progress). Follows s [] (rows_monitor sheet k rows)) (sym begun.progress) follows;
          ready = subst (λ (k : Progress). Ready sheet k r.plan lines rows) (sym begun.progress) (ready-begun order last b bytes s h sheet same begun.rows begun.plan);
          tags = λ j l. ap (λ (k : Progress). get_or k.tags j (pos 0)) begun.progress ∙ blank-at (pos 0) 8 j;
        }

    -- and read back
    pub opened-done : {r : Begun} {lines rows : List ℕ} → OpenedRows r lines rows → {m : Monitor} → ReadBack sheet r.progress r.plan m rows → Opened (read_by order last) b (given (Ok r.said) m)
    opened-done {r} o {m} back =
        let f = back.found in
        subst (λ (n : Monitor). Opened (read_by order last) b (given (Ok r.said) n)) (sym back.same)
        (record {
          refuses = λ n h. refused-taken (sym h ∙ o.read);
          opens = λ v h. let z : o.value ≡ v = cc in rw (← z) (ap taken o.said, follows-back o.ready f o.follows);
          unused = λ v h. nothing-back o.ready f o.tags;
        })

-- ---- rows of a new array are blank
pub fresh-rows : BlankRow (replicate all_words 0) head_rows
fresh-rows = record { size = length-replicate {A = ℕ} all_words 0; blank = λ p h. blank-at {A = ℕ} 0 all_words (width * head_rows + p) }
