-- The fillings listed of an instant, and what the rows held become by it.
use Rattle.std.specs.Prelude.{Bool, cond, List, ◌++◌, ◌≡◌, ℕ, ◌+◌, ◌-◌, ◌≤◌, T, eqb, length, Option}
use Rattle.records.specs.declared.instant.Tick.{Tick}
use Rattle.records.specs.declared.instant.Instant.{Instant}
use Rattle.records.specs.Sheet.{SheetValue}
use Rattle.tesl.specs.Lists.{all, filter}
use Rattle.work.specs.Relevant.{fillings_left}
use Rattle.work.specs.View.{held_list, seen_of, tags_before}
use Rattle.work.specs.Lines.{small_leads}
use Rattle.work.specs.Fillings.{most_fillings, list_size, fillings_in}
use Rattle.work.specs.Work.{worked}
use Rattle.step.specs.declared.fill.Before.{Before}
use Rattle.step.specs.declared.fill.Extent.{Extent}
use Rattle.lines.specs.declared.plan.Plan.{Plan}
use Rattle.remainders.specs.View.{live_count}
use Rattle.lines.specs.Plan.{Planned}
use Rattle.remainders.specs.Rows.{sides, all_words, FlagsKept, RowsStay}
use Rattle.step.specs.Apply.{Side, FewOwedIn, found_in, built_rows}

-- room for the fillings left, after the first n
pub record Listing (list : List Bool) (x : Extent) (flags : List Bool) (k : ℕ) (seen : List Tick) (ticks : List Bool) (n : ℕ) : Type 0 where
  pub size : length list ≡ list_size
  pub few-clocks : x.clocks ≤ 8
  pub few-rules : x.rules ≤ 16
  pub clock : k ≤ x.clocks
  pub room : n + length (fillings_left flags seen x.clocks k ticks) ≤ most_fillings

-- after the first n, those that the rules allow
pub record Listed (rules : List Bool → Bool) (left : List (List Bool)) (n r : ℕ) (a b : List Bool) : Type 0 where
  pub size : length b ≡ list_size
  pub fewer : r ≤ n + length left
  pub listed : fillings_in b r ≡ fillings_in a n ++ filter rules left

-- ---- an instant

-- those held on a side, and a list to work in
pub record Working (rows : List ℕ) (from : ℕ) (count : Option ℕ) (list : List Bool) : Type 0 where
  pub size : length rows ≡ all_words
  pub side : Side from
  pub small : FewOwedIn count rows from
  pub lists : length list ≡ list_size

-- the rows of the other side that an instant may have built in: none where none is held, since then nothing is worked
abbrev pub worked_rows : Option ℕ → Option ℕ → ℕ
worked_rows count r = cond (eqb (live_count count) 0) 0 (built_rows r)

-- those held after an instant, on the other side; the rows that nothing was built in stay
pub record Worked (lines : List ℕ) (p : Plan) (before : Before) (instant : Instant) (from : ℕ) (count : Option ℕ) (r : Option ℕ) (a b : List ℕ) (list : List Bool) : Type 0 where
  pub stays : RowsStay (sides - from) (worked_rows count r) a b
  pub small : FewOwedIn r b (sides - from)
  pub flags : FlagsKept a b
  pub lists : length list ≡ list_size
  pub works : (v : SheetValue) → Planned v p lines → T (all small_leads (held_list (found_in v count a from)))
      → found_in v r b (sides - from) ≡ worked before.room v (tags_before before.first before.tags) (seen_of v.clocks instant.ticks) instant.tags (found_in v count a from)
