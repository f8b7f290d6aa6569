-- Limits of a monitor (11) as theory has them: of its sheet and of those held; what within them the work asks; and the shape of those held. Assumes nothing.
use Rattle.std.specs.Prelude.{None, Option, Some}
use mathlib.Core.Bool.{Bool, true, false, ◌&&◌, and-false, and_assoc}
use mathlib.Core.List.{List, [], ◌∷◌, map}
use mathlib.Core.Path.{◌≡◌, refl, sym, ap, ◌∙◌, subst}
use Prim.Native.Nat.{ℕ, zero, suc, ◌≤◌, ◌<◌}
use native.Mathlib.Omega.{arith}
use lib.Dec.{T, leb, ltb, leb→le, le→leb, lt→ltb}
use lib.ListN.{length, take, length-map}
use lib.Seq.{length-take-le}
use Rattle.records.specs.declared.order.Order.TheVariants.{Any}
use Rattle.records.specs.Outcome.{Outcome, taken, refused, decide}
use Rattle.records.specs.Sheet.{SheetValue, line_at, sheet_value_checks}
use Rattle.records.specs.Types.{All, IsSheet}
use Rattle.records.proofs.Lists.{both, taken-passed, length-listed}
use Rattle.tesl.specs.Lists.{all}
use Rattle.tesl.specs.Fits.{most_tag}
use Rattle.tesl.specs.Remainder.{Remainder}
use Rattle.tesl.proofs.Tests.{and_l, and_r, ≡→T, T→≡}
use Rattle.theory.specs.Limits.{SheetLimits, obligation_ok, countdown_ok, within_limits}
use Rattle.theory.proofs.Lists.{all-imp}
use Rattle.theory.proofs.Opened.{checked-limits}
use Rattle.work.specs.View.{held_list}
use Rattle.work.specs.Lines.{small_leads}
use Rattle.work.proofs.Found.{Shaped}
use Rattle.remainders.specs.declared.remainder.Remainder as arrays
use Rattle.judge.specs.declared.monitor.Monitor.{Monitor}
use Rattle.remainders.specs.View.{obligation_of, countdown_of, view_of, held_in, few_owed, sized_in, sized}
use Rattle.judge.specs.Limits.{is_taken, sheet_within, remainder_within, held_within, monitor_within}
use Rattle.judge.specs.Monitor.{sheet_by, held_by, Workable}

-- ---- tests of a list

regroup : (a b c d : Bool) → ((a && b) && (c && d)) ≡ ((a && c) && (b && d))
regroup false b c d = refl
regroup true b false d = and-false b
regroup true b true d = refl

module _ {A : Type 0} where
  all-parts : (p q : A → Bool) (xs : List A) → all (λ x. p x && q x) xs ≡ (all p xs && all q xs)
  all-parts p q [] = refl
  all-parts p q (x ∷ xs) = ap (λ (b : Bool). (p x && q x) && b) (all-parts p q xs) ∙ regroup (p x) (q x) (all p xs) (all q xs)

all_map : {A B : Type 0} (p : B → Bool) (f : A → B) (xs : List A) → all p (map f xs) ≡ all (λ (x : A). p (f x)) xs
all_map p f [] = refl
all_map p f (x ∷ xs) = ap (λ (b : Bool). p (f x) && b) (all_map p f xs)

-- ---- the sheet

passed : (v : SheetValue) (o : Outcome SheetValue) → decide (sheet_value_checks Any v) v ≡ o → is_taken o ≡ true → IsSheet v → SheetLimits v
passed v (taken w) e t h = checked-limits Any v h (taken-passed (sheet_value_checks Any v) e).0
passed v (refused n) e t h = absurd (≡→T t)

pub sheet-limits : (v : SheetValue) → IsSheet v → T (sheet_within v) → SheetLimits v
unfolding sheet_within
sheet-limits v h t = passed v (decide (sheet_value_checks Any v) v) refl (T→≡ _ t) h

-- ---- those held

-- of the first ones of an array: how many each owes, and the limits of each view
each-limits : (v : SheetValue) (n : ℕ) (rs : List arrays.Remainder)
    → all (remainder_within v n) rs ≡ (all few_owed rs && all (within_limits most_tag v.clocks n) (map (view_of v) rs))
unfolding remainder_within
each-limits v n rs =
    all-parts few_owed (λ r. within_limits most_tag v.clocks n (view_of v r)) rs
    ∙ ap (λ (b : Bool). all few_owed rs && b) (sym (all_map (within_limits most_tag v.clocks n) (view_of v) rs))

-- within the limits: room for what is counted, and each view within them
pub held-limits : (v : SheetValue) (n : ℕ) (count : Option ℕ) (rs : List arrays.Remainder)
    → held_within v n count rs ≡ (sized_in count rs && all (within_limits most_tag v.clocks n) (held_list (held_in v count rs)))
unfolding held_within
held-limits v n None rs = refl
held-limits v n (Some k) rs = ap (λ (b : Bool). leb k 32 && b) (each-limits v n (take k rs)) ∙ sym (and_assoc (leb k 32) _ _)

-- ---- the monitor

pub record Limits (m : Monitor) : Type 0 where
  pub sheet : SheetLimits (sheet_by m)
  pub instants : m.instants ≤ 4000
  pub fits : T (sized m.held)
  pub views : T (all (within_limits most_tag m.sheet.clocks m.instants) (held_list (held_by m)))

pub limits_of : (m : Monitor) → IsSheet (sheet_by m) → monitor_within m ≡ true → Limits m
unfolding monitor_within
limits_of m h e =
    let v = sheet_by m in
    let a = both (sheet_within v) e in
    let b = both (leb m.instants 4000) a.1 in
    let c = both (sized m.held) (sym (held-limits v m.instants m.held.count m.held.remainders) ∙ b.1) in
    record { sheet = sheet-limits v h (≡→T a.0); instants = leb→le m.instants 4000 (≡→T b.0); fits = ≡→T c.0; views = ≡→T c.1 }

pub within-limits : (m : Monitor) → T (sheet_within (sheet_by m)) → m.instants ≤ 4000 → T (sized m.held)
    → T (all (within_limits most_tag m.sheet.clocks m.instants) (held_list (held_by m))) → monitor_within m ≡ true
unfolding monitor_within
within-limits m s i f w =
    let v = sheet_by m in
    rw (T→≡ (sheet_within v) s, T→≡ (leb m.instants 4000) (le→leb m.instants 4000 i), held-limits v m.instants m.held.count m.held.remainders, T→≡ (sized m.held) f, T→≡ (all (within_limits most_tag m.sheet.clocks m.instants) (held_list (held_by m))) w)

-- ---- what within the limits the work asks

small-leads : (c n : ℕ) → n ≤ 4000 → (r : Remainder) → T (within_limits most_tag c n r) → T (small_leads r)
unfolding within_limits
small-leads c n h r t = all-imp (λ (k : ℕ). leb k n) (λ (k : ℕ). ltb k 65535) r.leads (λ k u. let b = leb→le k n u in lt→ltb k 65535 (omega arith))
    (and_r (all (countdown_ok c) r.countdowns) (all (λ (k : ℕ). leb k n) r.leads)
    (and_r (all (obligation_ok most_tag c) r.owed) (all (countdown_ok c) r.countdowns && all (λ (k : ℕ). leb k n) r.leads) t))

pub leads-small : (m : Monitor) → Limits m → T (all small_leads (held_list (held_by m)))
leads-small m l = all-imp (within_limits most_tag m.sheet.clocks m.instants) small_leads (held_list (held_by m)) (small-leads m.sheet.clocks m.instants l.instants) l.views

pub workable : (m : Monitor) → Limits m → m.instants < 4000 → Workable m
workable m l h = record {
  lines = subst (λ (k : ℕ). k ≤ 16) (length-listed (line_at m.sheet) m.sheet.count) l.sheet.lines-most;
  clocks = l.sheet.clocks-most;
  room = h;
  leads = leads-small m l;
  fits = l.fits;
}

-- ---- the shape of those held

take-most : {A : Type 0} (n : ℕ) (xs : List A) → length (take n xs) ≤ n
take-most zero xs = omega arith
take-most (suc n) [] = omega arith
take-most (suc n) (x ∷ xs) = let h = take-most n xs in omega arith

module _ (v : SheetValue) (c-most : v.clocks ≤ 8) where
  shaped : (r : arrays.Remainder) → length r.stopped ≡ 8 → T (few_owed r) → Shaped v.clocks (view_of v r)
  shaped r s t =
      let n = leb→le r.owed 8 (and_l (leb r.owed 8) (leb r.counting 8) t) in
      let m = leb→le r.counting 8 (and_r (leb r.owed 8) (leb r.counting 8) t) in
      let k = take-most r.owed r.obligations in
      let j = take-most r.counting r.countdowns in
      record {
        clocks = length-take-le v.clocks r.stopped (omega arith);
        owed = omega (arith, length-map (take r.owed r.obligations) obligation_of);
        countdowns = omega (arith, length-map (take r.counting r.countdowns) countdown_of);
      }

  all-shaped : (rs : List arrays.Remainder) → All (λ (r : arrays.Remainder). length r.stopped ≡ 8) rs → T (all few_owed rs)
      → All (Shaped v.clocks) (map (view_of v) rs)
  all-shaped [] s t = tt
  all-shaped (r ∷ rs) s t =
      (shaped r s.0 (and_l (few_owed r) (all few_owed rs) t), all-shaped rs s.1 (and_r (few_owed r) (all few_owed rs) t))

  all_take : {A : Type 0} (P : A → Type 0) (n : ℕ) (xs : List A) → All P xs → All P (take n xs)
  all_take P zero xs h = tt
  all_take P (suc n) [] h = tt
  all_take P (suc n) (x ∷ xs) h = (h.0, all_take P n xs h.1)

  pub held-shaped : (count : Option ℕ) (rs : List arrays.Remainder) → All (λ (r : arrays.Remainder). length r.stopped ≡ 8) rs → T (sized_in count rs)
      → All (Shaped v.clocks) (held_list (held_in v count rs))
  held-shaped None rs s t = tt
  held-shaped (Some n) rs s t = all-shaped (take n rs) (all_take _ n rs s) (and_r (leb n 32) (all few_owed (take n rs)) t)
