-- A monitor kept in rows: what it holds is what the rows hold, counts that the arrays have room for are the same, and it follows what the monitor followed whose remainders were stored, as monitors do that hold the same. Assumes nothing.
use Rattle.std.specs.Prelude.{None, Some, Ok}
use Rattle.std.specs.declared.option.Option as option
use mathlib.Core.Bool.{Bool, true, false, not}
use mathlib.Core.List.{List, map}
use mathlib.Core.Option.{Option, some}
use mathlib.Core.Path.{◌≡◌, refl, sym, ap, ◌∙◌, subst, fun_ext}
use Prim.Native.Nat.{ℕ, zero, suc, ◌+◌, ◌-◌, ◌≤◌}
use native.Mathlib.Omega.{arith}
use native.Mathlib.Numerals.{add-one}
use lib.Dec.{T, eqb, leb, leb→le, le→leb}
use lib.IntN.{ℤ, pos}
use lib.ListN.{length, take}
use lib.Seq.{take-length}
use borrow.Author.Tests.{not-false}
use Rattle.records.specs.declared.sheet.Sheet.{Sheet}
use Rattle.records.specs.declared.instant.Instant.{Instant}
use Rattle.records.specs.Lists.{listed_from, listed}
use Rattle.records.specs.Outcome.{taken}
use Rattle.records.specs.Sheet.{SheetValue, sheet_value, line_at}
use Rattle.records.specs.Types.{All, IsSheet}
use Rattle.records.proofs.Lists.{both, length-listed}
use Rattle.tesl.specs.Lists.{all}
use Rattle.tesl.specs.Fits.{most_tag}
use Rattle.tesl.specs.Remainder.{Remainder}
use Rattle.tesl.specs.Run as tesl
use Rattle.tesl.proofs.Tests.{and_l, and_r, and_i, ≡→T}
use Rattle.theory.specs.Limits.{within_limits}
use Rattle.work.specs.View.{used_part, held_list, seen_of, tags_before}
use Rattle.work.specs.Lines.{small_leads}
use Rattle.work.specs.Work.{worked}
use Rattle.work.proofs.Listing.{map-listed, one_of, all_of}
use Rattle.judge.specs.declared.answer.Answer as code
use Rattle.remainders.specs.declared.remainder.Remainder as arrays
use Rattle.remainders.specs.declared.held.Held.{Held}
use Rattle.lines.specs.declared.plan.Plan.{Plan}
use Rattle.judge.specs.declared.progress.Progress.{Progress}
use Rattle.judge.specs.declared.monitor.Monitor.{Monitor}
use Rattle.remainders.specs.View.{obligation_of, countdown_of, owed_of, countdowns_of, view_of, held_of, live_count, few_owed, sized}
use Rattle.remainders.specs.Unused.{BlankFrom}
use Rattle.judge.specs.Answer.{answer_of, said_by}
use Rattle.judge.specs.Limits.{sheet_within, monitor_within, Limited}
use Rattle.lines.specs.Plan.{numbers, Preparing, PlanOf}
use Rattle.remainders.specs.Rows.{all_words, row_count, row_obligation, row_owed, row_countdowns, row_leads, row_stopped, row_of, FewInRow}
use Rattle.step.specs.Apply.{Side, found_in, FewOwedIn}
use Rattle.judge.specs.Stored.{StoringHeld, StoredHeld, FromRows}
use Rattle.judge.specs.Monitor.{KeepsNothing, sheet_by, held_by, Accepts}
use Rattle.judge.specs.Progress.{row_remainder, rows_held, rows_monitor, progress_of, given, read_back, Ready}
use Rattle.judge.specs.Promises.{Follows}
use Rattle.judge.proofs.monitor.Limits.{held-limits, limits_of, within-limits, leads-small}

-- ---- places listed
module _ {A : Type 0} (f : ℕ → A) where
  take_all : (n : ℕ) → take n (listed f n) ≡ listed f n
  take_all n = ap (λ k. take k (listed f n)) (sym (length-listed f n)) ∙ take-length (listed f n)

  map-all : {B : Type 0} (g : A → B) (n : ℕ) → map g (take n (listed f n)) ≡ listed (λ j. g (f j)) n
  map-all g n = ap (map g) (take_all n) ∙ map-listed f g n

  each_from : (P : A → Type 0) → ((j : ℕ) → P (f j)) → (i n : ℕ) → All P (listed_from f i n)
  unfolding listed_from
  each_from P h i zero = tt
  each_from P h i (suc n) = (h i, each_from P h (i + 1) n)

-- ---- those held
owed-row : (rows : List ℕ) (i : ℕ) → owed_of (row_remainder rows i) ≡ row_owed rows i
owed-row rows i = ap (map obligation_of) (take_all (row_obligation rows i 0) (row_count rows i 0))

countdowns-row : (rows : List ℕ) (i : ℕ) → countdowns_of (row_remainder rows i) ≡ row_countdowns rows i
countdowns-row rows i = ap (map countdown_of) (take_all (row_obligation rows i 1) (row_count rows i 1))

view-row : (v : SheetValue) (rows : List ℕ) (i : ℕ) → view_of v (row_remainder rows i) ≡ used_part v (row_of rows i)
view-row v rows i = λ k. used_part v (record { owed = owed-row rows i k; countdowns = countdowns-row rows i k; leads = row_leads rows i; stopped = row_stopped rows i })

-- at most eight in each set
few-row : (rows : List ℕ) (i : ℕ) → T (few_owed (row_remainder rows i)) → FewInRow rows i
few-row rows i t part h = by_part part (omega arith)
  where
    by_part : (part : ℕ) → part ≤ 1 → row_count rows i part ≤ 8
    by_part zero h = leb→le (row_count rows i 0) 8 (and_l (leb (row_count rows i 0) 8) (leb (row_count rows i 1) 8) t)
    by_part (suc zero) h = leb→le (row_count rows i 1) 8 (and_r (leb (row_count rows i 0) 8) (leb (row_count rows i 1) 8) t)
    by_part (suc (suc part)) h = absurd (omega arith)

row-few : (rows : List ℕ) (i : ℕ) → FewInRow rows i → T (few_owed (row_remainder rows i))
row-few rows i h = and_i (leb (row_count rows i 0) 8) (leb (row_count rows i 1) 8) (le→leb (row_count rows i 0) 8 (h 0 (omega arith))) (le→leb (row_count rows i 1) 8 (h 1 (omega arith)))

module _ (rows : List ℕ) (from : ℕ) where
  abbrev one : ℕ → arrays.Remainder
  one k = row_remainder rows (from + k)

  pub held_rows : (v : SheetValue) (count : option.Option ℕ) → held_of v (rows_held count rows from) ≡ found_in v count rows from
  held_rows v None = refl
  held_rows v (Some n) = ap some (map-all one (view_of v) n ∙ ap (λ (f : ℕ → Remainder). listed f n) (fun_ext (λ k. view-row v rows (from + k))))

  pub small-rows : (count : option.Option ℕ) → T (sized (rows_held count rows from)) → FewOwedIn count rows from
  small-rows None t = tt
  small-rows (Some n) t =
      let u = rw (take_all one n) at (and_r (leb n 32) (all few_owed (take n (listed one n))) t) in
      (leb→le n 32 (and_l (leb n 32) (all few_owed (take n (listed one n))) t), λ k h. few-row rows (from + k) (one_of one few_owed n u k h))

  pub sized_rows : (count : option.Option ℕ) → FewOwedIn count rows from → T (sized (rows_held count rows from))
  sized_rows None h = tt
  sized_rows (Some n) h =
      and_i (leb n 32) (all few_owed (take n (listed one n))) (le→leb n 32 h.0)
      (rw (take_all one n) (all_of one few_owed n (λ k l. row-few rows (from + k) (h.1 k l))))

  pub eight-rows : (count : option.Option ℕ) → All (λ (q : arrays.Remainder). length q.stopped ≡ 8) (rows_held count rows from).remainders
  eight-rows count = each_from one (λ (q : arrays.Remainder). length q.stopped ≡ 8) (λ k. length-listed _ 8) 0 (live_count count)

-- ---- a monitor in rows
module _ (s : Sheet) (k : Progress) (rows : List ℕ) where
  abbrev m : Monitor
  m = rows_monitor s k rows

  abbrev v : SheetValue
  v = sheet_value s

  pub limited : IsSheet v → monitor_within m ≡ true → Limited m true
  limited h e = record { answer = sym e; value = λ t. h }

  -- what work asks of the rows
  pub leads-rows : T (all small_leads (held_list (held_by m))) → T (all small_leads (held_list (found_in v k.count rows k.from)))
  leads-rows t = subst (λ (o : Option (List Remainder)). T (all small_leads (held_list o))) (held_rows rows k.from v k.count) t

  pub accepts-rows : (room : ℕ) (i : Instant) (next : option.Option ℕ) (out : List ℕ) (to : ℕ) {said : code.Answer}
      → found_in v next out to ≡ worked room v (tags_before (eqb k.instants 0) k.tags) (seen_of s.clocks i.ticks) i.tags (found_in v k.count rows k.from)
      → FewOwedIn next out to → answer_of said ≡ said_by (found_in v next out to)
      → Accepts room m i (given (Ok said) (rows_monitor s (record { instants = k.instants + 1; tags = i.tags; count = next; from = to }) out))
  accepts-rows room i next out to w small q = record {
    sheet = refl;
    instants = add-one k.instants;
    tags = refl;
    held = held_rows out to v next ∙ w ∙ ap (worked room v (tags_before (eqb k.instants 0) k.tags) (seen_of s.clocks i.ticks) i.tags) (sym (held_rows rows k.from v k.count));
    fits = sized_rows out to next small;
    said = ap taken (q ∙ ap said_by (sym (held_rows out to v next)));
  }

-- the sides change places
pub other-side : {from : ℕ} → Side from → Side (45 - from)
other-side s = record {
  one = s.other;
  other = omega (arith, s.one);
  past = omega (arith, s.one, s.other);
  apart = λ k l h j e. s.apart l k j h (omega (arith, s.one, s.other));
}

-- ---- monitors of the same sheet, instants and tags that hold the same: they are within the same limits, and follow the same runs
module _ (s : Sheet) (n : ℕ) (tags : List ℤ) (h k : Held) (same : held_of (sheet_value s) k ≡ held_of (sheet_value s) h) (fits : T (sized k)) where
  abbrev holding : Held → Monitor
  holding x = record { sheet = s; instants = n; tags = tags; held = x }

  pub within_same : monitor_within (holding h) ≡ true → monitor_within (holding k) ≡ true
  unfolding monitor_within
  within_same e =
      let v = sheet_value s in
      let a = both (sheet_within v) e in
      let b = both (leb n 4000) a.1 in
      let c = both (sized h) (sym (held-limits v n h.count h.remainders) ∙ b.1) in
      within-limits (holding k) (≡→T a.0) (leb→le n 4000 (≡→T b.0)) fits
      (subst (λ (o : Option (List Remainder)). T (all (within_limits most_tag s.clocks n) (held_list o))) (sym same) (≡→T c.1))

  pub follows_same : {v : SheetValue} {run : List tesl.Instant} → Follows v run (holding h) → Follows v run (holding k)
  follows_same f = record {
    sheet = f.sheet;
    instants = f.instants;
    last = f.last;
    said = ap said_by same ∙ f.said;
    held = rw same f.held;
    once-each = rw same f.once-each;
    limits = within_same f.limits;
  }

-- ---- a monitor in rows, read back
module _ {s : Sheet} {k : Progress} {p : Plan} {lines rows : List ℕ} (ready : Ready s k p lines rows) {rs : List arrays.Remainder} (back : FromRows p k.count k.from rs rows) where
  abbrev after : Monitor
  after = read_back s k rs

  pub same_back : held_by after ≡ held_by (rows_monitor s k rows)
  same_back =
      back.held (sheet_value s) lines ready.planned (leads-rows s k rows (leads-small (rows_monitor s k rows) (limits_of (rows_monitor s k rows) ready.value ready.limits)))
      ∙ sym (held_rows rows k.from (sheet_value s) k.count)

  pub within-back : monitor_within after ≡ true
  within-back = within_same s k.instants k.tags (rows_held k.count rows k.from) after.held same_back back.fits ready.limits

  pub follows-back : {v : SheetValue} {run : List tesl.Instant} → Follows v run (rows_monitor s k rows) → Follows v run after
  follows-back f = follows_same s k.instants k.tags (rows_held k.count rows k.from) after.held same_back back.fits f

  pub nothing-back : BlankFrom s.clocks (pos 0) k.tags → KeepsNothing after
  nothing-back tags = record { rest = back.rest; each = back.unused (sheet_value s) lines ready.planned; tags = tags }

-- ---- a monitor whose remainders are stored
module _ (m : Monitor) {blank rows : List ℕ} (storing : StoredHeld m.held.count m.held.remainders blank rows) where
  abbrev stored : Monitor
  stored = rows_monitor m.sheet (progress_of m) rows

  same-held : held_by stored ≡ held_by m
  same-held = held_rows rows 6 (sheet_by m) m.held.count ∙ storing.held (sheet_by m)

  pub within-stored : monitor_within m ≡ true → monitor_within stored ≡ true
  within-stored e = within_same m.sheet m.instants m.tags m.held stored.held same-held (sized_rows rows 6 m.held.count storing.small) e

  pub follows-stored : {s : SheetValue} {run : List tesl.Instant} → Follows s run m → Follows s run stored
  follows-stored f = follows_same m.sheet m.instants m.tags m.held stored.held same-held (sized_rows rows 6 m.held.count storing.small) f

  pub ready-stored : Limited m true → {p : Plan} {lines : List ℕ} → PlanOf m.sheet p lines → Ready m.sheet (progress_of m) p lines rows
  ready-stored l plan = record { value = l.value refl; planned = plan.planned; limits = within-stored (sym l.answer) }

-- ---- what is within the limits of a monitor
pub inside : {m : Monitor} {b : Bool} → Limited m b → not b ≡ false → Limited m true
inside {m} {b} l e = subst (Limited m) (not-false b e) l

module _ (m : Monitor) (l : Limited m true) where
  few-lines : m.sheet.count ≤ 16
  few-lines = subst (λ (k : ℕ). k ≤ 16) (length-listed (line_at m.sheet) m.sheet.count) (limits_of m (l.value refl) (sym l.answer)).sheet.lines-most

  pub has_room : {rows : List ℕ} → length rows ≡ all_words → StoringHeld rows m.held.count m.held.remainders
  has_room size = record { size = size; fits = (limits_of m (l.value refl) (sym l.answer)).fits }

  pub prepares : {lines : List ℕ} → length lines ≡ numbers → Preparing m.sheet lines
  prepares size = record { few-lines = few-lines; few-clocks = (limits_of m (l.value refl) (sym l.answer)).sheet.clocks-most; size = size }
