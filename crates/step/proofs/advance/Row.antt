-- What a filling makes of a row, by what depends on the filling alone: what is known of the row that is built, question by question. Assumes nothing.
use mathlib.Core.Bool.{Bool, true, false}
use mathlib.Core.List.{List, map}
use mathlib.Core.Option
use mathlib.Core.Option.{Option, some}
use mathlib.Core.Path.{◌≡◌, sym, ap, ◌∙◌}
use Prim.Native.Nat.{ℕ, ◌≤◌}
use native.Mathlib.Omega.{arith}
use lib.ListN.{drop, take}
use Rattle.records.specs.Sheet.{SheetValue}
use Rattle.tesl.specs.Run.{Filled}
use Rattle.tesl.specs.Fits.{Obligation, Countdown}
use Rattle.tesl.specs.Remainder.{Remainder, same_obligation, same_countdown}
use Rattle.work.specs.Advanced.{Advanced, fails, over}
use Rattle.work.specs.View.{used_part}
use Rattle.work.specs.Owed.{added_all, added_countdowns, still_owed, still_counting, together}
use Rattle.work.specs.Work.{with_begun, with_still_owed, advanced}
use Rattle.lines.specs.declared.plan.Plan.{Plan}
use Rattle.remainders.specs.View.{obligation_of, countdown_of}
use Rattle.remainders.specs.Rows.{leads_part, width, row_count, row_set, row_owed, row_countdowns, row_of, provided, FewInRow, Stays, BegunRow}
use Rattle.remainders.proofs.obligation.Laws.{same_read, same-counted}
use Rattle.remainders.proofs.rows.Flags.{flags-stay}
use Rattle.remainders.proofs.rows.Laws.{stays_on, stays_wide}
use Rattle.remainders.proofs.rows.Reading.{provided-read, begun-row-read}
use Rattle.step.specs.declared.advance.Next.TheVariants.{Fails, Over, Onto}
use Rattle.step.specs.declared.filling.Filling.{Filling}
use Rattle.step.specs.Left.{LeftRow}
use Rattle.step.specs.Filling.{filled_instant, begun_in, GatheredFor, AdvancedRow}
use Rattle.step.proofs.left.Laws.{left-owed, left-counting}
use Rattle.step.proofs.advance.Built.{row_stays, other-set, few-owed, few-counting, set-stays}

pub same-remainder : {o o' : List Obligation} {c c' : List Countdown} {l l' : List ℕ} {s s' : List Bool} → o ≡ o' → c ≡ c' → l ≡ l' → s ≡ s'
    → ◌≡◌ {A = Remainder} (record { owed = o; countdowns = c; leads = l; stopped = s }) (record { owed = o'; countdowns = c'; leads = l'; stopped = s' })
same-remainder a b c d = λ i. record { owed = a i; countdowns = b i; leads = c i; stopped = d i }

-- ---- what row i becomes

-- as a remainder of the sheet
abbrev pub row : SheetValue → List ℕ → ℕ → Remainder
row v rows i = used_part v (row_of rows i)

-- what is said of it, in every sheet that the plan and the filling are of
abbrev pub Becomes : Plan → Filling → List ℕ → ℕ → (SheetValue → Advanced) → Type 0
Becomes p f rows i said = (v : SheetValue) → GatheredFor v p f → advanced v (filled_instant f) (begun_in f) (row v rows i) ≡ said v

-- by what is left of its obligations and of its countdowns; by those with what is begun
abbrev pub by_left : Filling → List ℕ → ℕ → Option (List Obligation) → Option (List Countdown) → SheetValue → Advanced
by_left f rows i os cs v = with_still_owed v f.ticks (begun_in f) (row v rows i) (together os cs)

abbrev pub by_begun : Filling → List ℕ → ℕ → Option (List Obligation) → Option (List Countdown) → SheetValue → Advanced
by_begun f rows i os cs v = with_begun v f.ticks (row v rows i) (together os cs)

-- ---- what is known once a question was passed; `to` is the row built, from rows a to rows b

-- leads and stopped clocks
pub record LinesAsked (p : Plan) (f : Filling) (i : ℕ) (a : List ℕ) : Type 0 where
  pub becomes : Becomes p f a i (by_left f a i (still_owed (filled_instant f) (row_owed a i)) (still_counting (filled_instant f) (row_countdowns a i)))

-- no obligation is late
pub record OwedLeft (p : Plan) (f : Filling) (i to : ℕ) (a b : List ℕ) : Type 0 where
  pub stays : Stays to 0 leads_part a b
  pub few : row_count b to 0 ≤ 8
  pub becomes : Becomes p f a i (by_left f a i (some (row_owed b to)) (still_counting (filled_instant f) (row_countdowns a i)))

-- both sets are stored, and this is said of row i
pub record BothStored (p : Plan) (f : Filling) (i to : ℕ) (a b : List ℕ) (said : SheetValue → Advanced) : Type 0 where
  pub stays : Stays to 0 leads_part a b
  pub few : FewInRow b to
  pub becomes : Becomes p f a i said

-- no countdown is missed
abbrev pub BothLeft : Plan → Filling → ℕ → ℕ → List ℕ → List ℕ → Type 0
BothLeft p f i to a b = BothStored p f i to a b (by_begun f a i (added_all (begun_in f).owed (row_owed b to)) (added_countdowns (begun_in f).countdowns (row_countdowns b to)))

-- there is room for the obligations begun
abbrev pub OwedBegun : Plan → Filling → ℕ → ℕ → List ℕ → List ℕ → Type 0
OwedBegun p f i to a b = BothStored p f i to a b (by_begun f a i (some (row_owed b to)) (added_countdowns (begun_in f).countdowns (row_countdowns b to)))

-- and for the countdowns
abbrev pub BothBegun : Plan → Filling → ℕ → ℕ → List ℕ → List ℕ → Type 0
BothBegun p f i to a b = BothStored p f i to a b (by_begun f a i (some (row_owed b to)) (some (row_countdowns b to)))

-- a row that doesn't go on
module _ {p : Plan} {f : Filling} {i to : ℕ} {a b : List ℕ} (s : Stays to 0 leads_part a b) where
  pub fails-row : Becomes p f a i (λ v. fails) → AdvancedRow p f i to Fails a b
  fails-row w = record { stays = stays_wide s 0 width (omega arith) (omega arith); flags = flags-stay s (omega arith); few = λ t. absurd (not-failed t); row = λ v asked small. sym (w v asked) }
    where
      not-failed : Fails ≡ Onto → ⊥
      not-failed t = let z : ◌≡◌ {A = ℕ} 0 1 = cc in omega arith

  pub over-row : Becomes p f a i (λ v. over) → AdvancedRow p f i to Over a b
  over-row w = record { stays = stays_wide s 0 width (omega arith) (omega arith); flags = flags-stay s (omega arith); few = λ t. absurd (not-over t); row = λ v asked small. sym (w v asked) }
    where
      not-over : Over ≡ Onto → ⊥
      not-over t = let z : ◌≡◌ {A = ℕ} 0 1 = cc in omega arith

-- what is left of a set, read
module _ {f : Filled} {i to : ℕ} {k : Bool} {a b : List ℕ} where
  left-owed-row : LeftRow f 0 i to k a b → provided k (row_owed b to) ≡ still_owed f (row_owed a i)
  left-owed-row m = sym (provided-read (map obligation_of) k (row_set b to 0)) ∙ ap (Option.map (map obligation_of)) m.set ∙ left-owed f (row_set a i 0)

  left-counting-row : LeftRow f 1 i to k a b → provided k (row_countdowns b to) ≡ still_counting f (row_countdowns a i)
  left-counting-row m = sym (provided-read (map countdown_of) k (row_set b to 1)) ∙ ap (Option.map (map countdown_of)) m.set ∙ left-counting f (row_set a i 1)

-- ---- what is left of each set

module _ {p : Plan} {f : Filling} {i to : ℕ} {a b : List ℕ} {k : Bool} (w : LinesAsked p f i a) (m : LeftRow (filled_instant f) 0 i to k a b) where
  late-stays : Stays to 0 leads_part a b
  late-stays = row_stays 0 m.stays (omega arith)

  by-owed : Becomes p f a i (by_left f a i (provided k (row_owed b to)) (still_counting (filled_instant f) (row_countdowns a i)))
  by-owed v g = w.becomes v g ∙ rw (left-owed-row m)

  -- an obligation is late
  pub row-late : k ≡ false → AdvancedRow p f i to Fails a b
  row-late l = fails-row late-stays (λ v g. by-owed v g ∙ rw l)

  pub owed-left : k ≡ true → OwedLeft p f i to a b
  owed-left l = record { stays = late-stays; few = m.few l; becomes = λ v g. by-owed v g ∙ rw l }

-- the countdowns of row i are read after its obligations; row `to` still owes what was left
module _ {p : Plan} {f : Filling} {i to : ℕ} {a b c : List ℕ} {k : Bool} (w : OwedLeft p f i to a b) (apart : i ≡ to → ⊥) (few : row_count a i 1 ≤ 8) (m : LeftRow (filled_instant f) 1 i to k b c) where
  missed-stays : Stays to 0 leads_part a c
  missed-stays = stays_on w.stays (row_stays 1 m.stays (omega arith))

  read-after : row_countdowns b i ≡ row_countdowns a i
  read-after = ap (map countdown_of) (set-stays apart w.stays 1 (omega arith) few)

  left-kept : row_owed c to ≡ row_owed b to
  left-kept = ap (map obligation_of) (other-set 1 m.stays (omega arith) 0 (omega arith) (λ e. omega arith) w.few)

  by_left-law : Becomes p f a i (by_left f a i (some (row_owed c to)) (provided k (row_countdowns c to)))
  by_left-law v g = w.becomes v g ∙ rw (sym left-kept, left-counting-row m, read-after)

  -- a countdown is missed
  pub row-missed : k ≡ false → AdvancedRow p f i to Fails a c
  row-missed l = fails-row missed-stays (λ v g. by_left-law v g ∙ rw l)

  pub both_left : k ≡ true → BothLeft p f i to a c
  both_left l = record { stays = missed-stays; few = few-counting m.stays (m.few l) w.few; becomes = λ v g. by_left-law v g ∙ rw l }

-- ---- what is begun in each set

module _ {p : Plan} {f : Filling} {i to : ℕ} {a b c : List ℕ} {o : Bool} (w : BothLeft p f i to a b) (n : BegunRow to 0 (take f.owed f.begun) o b c) where
  over-stays : Stays to 0 leads_part a c
  over-stays = stays_on w.stays (row_stays 0 n.stays (omega arith))

  begun_kept : row_countdowns c to ≡ row_countdowns b to
  begun_kept = ap (map countdown_of) (other-set 0 n.stays (omega arith) 1 (omega arith) (λ e. omega arith) (w.few 1 (omega arith)))

  by-added : Becomes p f a i (by_begun f a i (provided o (row_owed c to)) (added_countdowns (begun_in f).countdowns (row_countdowns c to)))
  by-added v g = w.becomes v g ∙ rw (begun-row-read obligation_of same_obligation same_read n, begun_kept)

  -- there is no room for an obligation
  pub row-over : o ≡ false → AdvancedRow p f i to Over a c
  row-over q = over-row over-stays (λ v g. by-added v g ∙ rw q)

  pub owed-begun : o ≡ true → OwedBegun p f i to a c
  owed-begun q = record { stays = over-stays; few = few-owed n.stays n.few (w.few 1 (omega arith)); becomes = λ v g. by-added v g ∙ rw q }

module _ {p : Plan} {f : Filling} {i to : ℕ} {a b c : List ℕ} {o : Bool} (w : OwedBegun p f i to a b) (n : BegunRow to 1 (drop f.owed (take f.count f.begun)) o b c) where
  full-stays : Stays to 0 leads_part a c
  full-stays = stays_on w.stays (row_stays 1 n.stays (omega arith))

  counted-kept : row_owed c to ≡ row_owed b to
  counted-kept = ap (map obligation_of) (other-set 1 n.stays (omega arith) 0 (omega arith) (λ e. omega arith) (w.few 0 (omega arith)))

  by-counted : Becomes p f a i (by_begun f a i (some (row_owed c to)) (provided o (row_countdowns c to)))
  by-counted v g = w.becomes v g ∙ rw (sym counted-kept, begun-row-read countdown_of same_countdown same-counted n)

  -- there is no room for a countdown
  pub row-full : o ≡ false → AdvancedRow p f i to Over a c
  row-full q = over-row full-stays (λ v g. by-counted v g ∙ rw q)

  pub both-begun : o ≡ true → BothBegun p f i to a c
  both-begun q = record { stays = full-stays; few = few-counting n.stays n.few (w.few 0 (omega arith)); becomes = λ v g. by-counted v g ∙ rw q }
