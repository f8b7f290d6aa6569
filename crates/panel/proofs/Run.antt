-- For a monitor that follows a run the panel counts the run's distinct remainders: those held are each of them once, a clock's debt can't tell apart what is the same, and two lists without repeats that are the same set are as long. Assumes nothing.
use Rattle.std.specs.Prelude.{None, Some}
use Rattle.std.specs.declared.option.Option as option
use mathlib.Core.Bool.{Bool, true, false, cond, ◌||◌}
use mathlib.Core.List.{List, [], ◌∷◌, map}
use mathlib.Core.Option.{Option, none, some}
use mathlib.Core.Path.{◌≡◌, refl, sym, ap, ap₂, ◌∙◌, subst}
use Prim.Native.Nat.{ℕ, suc}
use native.Mathlib.Omega.{arith}
use lib.Dec.{T, eqb, leb}
use lib.ListN.{length, take}
use Rattle.records.specs.Outcome.{taken}
use Rattle.records.specs.Sheet.{SheetValue}
use Rattle.records.proofs.Lists.{both}
use Rattle.tesl.specs.Lists.{all, filter, count}
use Rattle.tesl.specs.Run.{Instant, run_fillings}
use Rattle.tesl.specs.Fits.{Obligation, Countdown, fits}
use Rattle.tesl.specs.Remainder.{Remainder, remainder, same_remainder}
use Rattle.tesl.specs.Answer.{exhausted, remainders, judged}
use Rattle.tesl.proofs.Tests.{and_l, and_r, T→≡, ≡→T}
use Rattle.theory.specs.Sets.{apart, EachOnce}
use Rattle.theory.proofs.Sets.{distinct_apart, length-same, filter-once}
use Rattle.theory.proofs.Respect.{alike, owed-equality, count-equality, any-equal, remainder-equivalence}
use Rattle.work.specs.View.{held_list}
use Rattle.remainders.specs.declared.remainder.Remainder as arrays
use Rattle.judge.specs.declared.monitor.Monitor.{Monitor}
use Rattle.remainders.specs.View.{view_of, held_in, few_owed, sized_in}
use Rattle.judge.specs.Answer.{said_by}
use Rattle.judge.specs.Limits.{monitor_within}
use Rattle.judge.specs.Monitor.{sheet_by, held_by}
use Rattle.judge.proofs.monitor.Limits.{held-limits}
use Rattle.panel.specs.Panel.{owes_clock, entry_owes, owing_count, live_entries, panel_count}
use Rattle.panel.specs.Run.{PanelOfRun}
use Rattle.panel.proofs.Laws.{within_held}

-- ---- lists without repeats

count-filter : {A : Type 0} (p : A → Bool) (xs : List A) → count p xs ≡ length (filter p xs)
count-filter p [] = refl
count-filter p (x ∷ xs) = by-test (p x) (count-filter p xs)
  where
    by-test : (b : Bool) → count p xs ≡ length (filter p xs) → cond b (suc (count p xs)) (count p xs) ≡ length (cond b (x ∷ filter p xs) (filter p xs))
    by-test true e = ap suc e
    by-test false e = e

owes_same : (clock : ℕ) (a b : Remainder) → T (same_remainder a b) → T (owes_clock clock a) → T (owes_clock clock b)
owes_same clock a b s t =
    let h = alike a b s in
    let o = any-equal owed-equality (λ (o : Obligation). eqb o.clock clock) a.owed b.owed h.owed in
    let c = any-equal count-equality (λ (c : Countdown). eqb c.clock clock) a.countdowns b.countdowns h.countdowns in
    subst T (ap₂ ◌||◌ o c) t

count-once : (clock : ℕ) {xs ys : List Remainder} → EachOnce same_remainder xs ys → T (apart same_remainder ys) → count (owes_clock clock) xs ≡ count (owes_clock clock) ys
count-once clock {xs} {ys} h a =
    let p = owes_clock clock in
    let f = filter-once same_remainder remainder-equivalence p (owes_same clock) h in
    let self : EachOnce same_remainder ys ys = record { each-once = a; these = λ x. refl } in
    let g = filter-once same_remainder remainder-equivalence p (owes_same clock) self in
    count-filter p xs ∙ length-same same_remainder remainder-equivalence (filter p xs) (filter p ys) f.each-once g.each-once f.these ∙ sym (count-filter p ys)

apart-remainders : (s : SheetValue) (run : List Instant) → T (apart same_remainder (remainders s run))
unfolding remainders
apart-remainders s run = distinct_apart same_remainder remainder-equivalence (map (remainder s) (filter (fits s) (run_fillings run)))

-- ---- those held

-- an entry within its limits owes what its view owes
entries-count : (clock : ℕ) (v : SheetValue) (rs : List arrays.Remainder) → T (all few_owed rs) → count (entry_owes clock) rs ≡ count (owes_clock clock) (map (view_of v) rs)
entries-count clock v [] t = refl
entries-count clock v (r ∷ rs) t = rw (T→≡ (few_owed r) (and_l (few_owed r) (all few_owed rs) t), entries-count clock v rs (and_r (few_owed r) (all few_owed rs) t))

held-count : (clock : ℕ) (v : SheetValue) (c : option.Option ℕ) (rs : List arrays.Remainder) → T (sized_in c rs) → owing_count clock (live_entries c rs) ≡ count (owes_clock clock) (held_list (held_in v c rs))
unfolding owing_count
held-count clock v None rs t = refl
held-count clock v (Some n) rs t = entries-count clock v (take n rs) (and_r (leb n 32) (all few_owed (take n rs)) t)

pub within_count : (clock : ℕ) (m : Monitor) → monitor_within m ≡ true → panel_count clock m ≡ taken (count (owes_clock clock) (held_list (held_by m)))
unfolding panel_count
within_count clock m e =
    let c = m.held.count in
    let rs = m.held.remainders in
    let t = (both (sized_in c rs) (sym (held-limits (sheet_by m) m.instants c rs) ∙ within_held m e)).0 in
    rw e (ap taken (held-count clock (sheet_by m) c rs (≡→T t)))

-- ---- the run

exhausted-none : (h : Option (List Remainder)) → said_by h ≡ exhausted → held_list h ≡ []
unfolding judged
exhausted-none none e = refl
exhausted-none (some []) e = refl
exhausted-none (some (r ∷ rs)) e = let z : ◌≡◌ {A = ℕ} 0 1 = cc in absurd (omega arith)

pub panel-of-run : PanelOfRun
panel-of-run s run m clock f = record {
  distinct = λ n. within_count clock m f.limits ∙ ap taken (count-once clock (f.held (λ e. n (sym f.said ∙ e))) (apart-remainders s run));
  none = λ e. within_count clock m f.limits ∙ ap (λ (rs : List Remainder). taken (count (owes_clock clock) rs)) (exhausted-none (held_by m) (f.said ∙ e));
}
