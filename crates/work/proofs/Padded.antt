-- A filled instant of a sheet's clocks and the same one of eight clocks, those from C on idle at tag 0, are one to every question. Assumes nothing.
use mathlib.Core.Bool.{Bool, true, false, not, cond, ◌&&◌, ◌||◌, and-true, and-false, and_comm}
use mathlib.Core.List.Memᴰ
use mathlib.Core.List.{List, [], ◌∷◌, ◌++◌, Memᴰ}
use mathlib.Core.Option.{Option, none, some}
use mathlib.Core.Path.{◌≡◌, refl, sym, ap, ap₂, ◌∙◌}
use Prim.Native.Nat.{ℕ, ◌-◌, ◌≤◌}
use native.Mathlib.Omega.{arith}
use lib.IntN.{ℤ, pos}
use lib.ListN.{length, get_or, take, replicate, length-map}
use lib.Seq.{get_or-take}
use lib.Signed.{le_z}
use Rattle.records.specs.declared.line.Line.{Line}
use Rattle.records.specs.Instant.{Cell}
use Rattle.records.specs.Lists.{filled}
use Rattle.records.specs.Sheet.{SheetValue}
use Rattle.tesl.specs.Lists.{all, any, flat_map, table}
use Rattle.tesl.specs.Run.{Instant, ticks_of, tags_of, Filled, tag_in, tag_at, fill_ticks, fillings}
use Rattle.tesl.specs.Fits.{Obligation, none_falls, most_tag, owed_from, not_late}
use Rattle.tesl.specs.Remainder.{Remainder, stops}
use Rattle.tesl.proofs.FormulaLists.{all_append}
use Rattle.theory.specs.Step.{overlap, lines_ok, next_owed, none_missed, next_countdowns, next, step_ok}
use Rattle.theory.proofs.Lists.{table-ext}
use Rattle.theory.proofs.Fill.{settled, fillings-settled, foldl, fill_fold-is}
use Rattle.work.specs.View.{filled_of, tags_before}
use Rattle.work.specs.Questions.{tags_hold, ticks_hold, carried_holds}
use Rattle.work.specs.Lines.{all_stopped}
use Rattle.work.specs.Owed.{Owings, owing, left}
use Rattle.work.specs.Work.{carried, fill_from}
use Rattle.work.proofs.Questions.{lines_ok-law}
use Rattle.work.proofs.Lines.{leads-after, all-as-many, all-stopped}
use Rattle.work.proofs.Below.{below-ext}
use Rattle.work.proofs.PaddedLaws.{Alike, filled-reads, table-reads, fills, foldl-map, all-begun-later, same-overlap, same_lines, same-leads, same-begun, same-stops, same_left-law, same-late, same-counted, same-counting, same-missed}

abbrev pub padded : Filled → Filled
padded f = filled_of (filled 8 false f.ticks) (filled 8 (pos 0) f.tags)

-- the last tags of a sheet's clocks; none before the first instant
abbrev pub last_in : SheetValue → Bool → List ℤ → Option (List ℤ)
last_in v first was = cond first none (some (take v.clocks was))

-- what is asked of the tags alone, and of a remainder by a filled instant
abbrev pub tags_fit : SheetValue → Option (List ℤ) → List ℤ → Bool
tags_fit v last tags = none_falls v.clocks last tags && all (tags_hold tags) v.lines

abbrev pub goes_on : SheetValue → Filled → Remainder → Bool
goes_on v f r =
    (not (overlap f.ticks r.stopped) && lines_ok (carried_holds f.ticks) v.lines r.leads)
    && (not_late (some f.tags) (left f r.owed) && none_missed f r.countdowns)

-- ---- alike at each clock

alike : (f : Filled) → Alike f (padded f)
alike f = record {
  ticks = λ k. sym (filled-reads false (8 - length f.ticks) f.ticks k);
  tags = λ k. sym (filled-reads (pos 0) (8 - length f.tags) f.tags k);
}

falls : (c : ℕ) (first : Bool) (was : List ℤ) (f : Filled) → none_falls c (cond first none (some (take c was))) f.tags ≡ none_falls c (tags_before first was) (padded f).tags
falls c true was f = refl
falls c false was f =
    below-ext c (λ k. le_z (tag_in (take c was) k) (tag_at f k)) (λ k. le_z (tag_in was k) (tag_at (padded f) k))
    (λ k h. ap₂ le_z (get_or-take c was k (pos 0) h) ((alike f).tags k))

-- those that f begins are not late
late : (most : ℤ) (ls : List Line) (f : Filled) (os : List Obligation) → not_late (some f.tags) (next_owed most ls f os) ≡ not_late (some (padded f).tags) (left (padded f) os)
late most ls f os =
    all_append _ (left f os) (flat_map (owed_from most f) ls)
    ∙ rw (all-begun-later most f ls) (and-true _)
    ∙ same-late (alike f) (left f os)
    ∙ ap (not_late (some (padded f).tags)) (same_left-law (alike f) os)

regroup : (n m q a b c d : Bool) → (n && (m && (q && (a && (b && c)))) && d) ≡ (n && a && (b && (q && c && (d && m))))
regroup false m q a b c d = refl
regroup true m false false b c d = ap (λ (x : Bool). x && d) (and-false m)
regroup true m false true false c d = ap (λ (x : Bool). x && d) (and-false m)
regroup true m false true true c d = ap (λ (x : Bool). x && d) (and-false m)
regroup true m true false b c d = ap (λ (x : Bool). x && d) (and-false m)
regroup true m true true false c d = ap (λ (x : Bool). x && d) (and-false m)
regroup true m true true true false d = ap (λ (x : Bool). x && d) (and-false m)
regroup true m true true true true d = ap (λ (x : Bool). x && d) (and-true m) ∙ and_comm m d

pub step_ok-law : (v : SheetValue) (first : Bool) (was : List ℤ) (f : Filled) (r : Remainder)
    → step_ok v (last_in v first was) f r ≡ (tags_fit v (tags_before first was) (padded f).tags && (all (ticks_hold (padded f).ticks) v.lines && goes_on v (padded f) r))
unfolding step_ok
step_ok-law v first was f r =
    let g = padded f in
    rw (
      falls v.clocks first was f,
      same-missed (alike f) r.countdowns,
      same-overlap f.ticks g.ticks r.stopped (alike f).ticks,
      same_lines (alike f) v.lines r.leads,
      lines_ok-law g.ticks g.tags v.lines r.leads,
      late most_tag v.lines f r.owed,
    )
    (regroup (none_falls v.clocks (tags_before first was) g.tags) (none_missed g r.countdowns) (not (overlap g.ticks r.stopped)) (all (tags_hold g.tags) v.lines) (all (ticks_hold g.ticks) v.lines)
    (lines_ok (carried_holds g.ticks) v.lines r.leads) (not_late (some g.tags) (left g r.owed)))

stopped-next : (c : ℕ) (ls : List Line) (f : Filled) (stopped : List Bool) → length stopped ≡ c
    → table c (λ k. get_or stopped k false || any (stops (f ∷ []) k) ls) ≡ all_stopped (padded f).ticks ls stopped
stopped-next c ls f stopped e =
    let g = padded f in
    let after = all_stopped g.ticks ls stopped in
    table-ext c (λ k. get_or stopped k false || any (stops (f ∷ []) k) ls) (λ k. get_or after k false)
    (λ k h. ap (λ (b : Bool). get_or stopped k false || b) (same-stops (alike f) k ls) ∙ sym (all-stopped g.ticks g.tags ls stopped k (omega (arith, h, e))))
    ∙ ap (λ (n : ℕ). table n (λ k. get_or after k false)) (sym (all-as-many g.ticks ls stopped ∙ e))
    ∙ table-reads false after

-- what r owes after f, repeats and all
abbrev pub afterwards : SheetValue → Filled → Remainder → Owings
afterwards v f r = record { owed = left f r.owed ++ flat_map (owed_from most_tag f) v.lines; countdowns = next_countdowns v.lines f r.countdowns }

pub step-next : (v : SheetValue) (f : Filled) (r : Remainder) → length r.stopped ≡ v.clocks
    → next v f r ≡ carried v (padded f).ticks (owing (afterwards v (padded f) r) r)
unfolding next
step-next v f r h =
    let g = padded f in
    λ i. record {
      owed = same_left-law (alike f) r.owed i ++ same-begun (alike f) most_tag v.lines i;
      countdowns = same-counting (alike f) r.countdowns i ++ same-counted (alike f) v.lines i;
      leads = (same-leads (alike f) v.lines r.leads ∙ leads-after g.ticks g.tags v.lines r.leads) i;
      stopped = stopped-next v.clocks v.lines f r.stopped h i;
    }

-- ---- the recursion over the clocks left is a fold over the fillings
pub fill_is : {R : Type 0} (g : R → List Bool → R) (i : Instant) → length i ≤ 8 → (r : R)
    → fill_from g 0 (ticks_of i) (replicate 8 false) r ≡ foldl (λ (q : R) (f : Filled). g q (padded f).ticks) r (fillings i)
fill_is {R} g i h r =
    let at : R → List Bool → R = λ q b. g q (filled 8 false b) in
    let of : R → Filled → R = λ q f. g q (padded f).ticks in
    fills g (ticks_of i) 0 [] r refl (omega (arith, h, length-map i (λ (c : Cell). c.tick)))
    ∙ fill_fold-is at [] (ticks_of i) r
    ∙ sym (foldl-map of (λ (b : List Bool). filled_of b (tags_of i)) r (settled [] (ticks_of i)))
    ∙ ap (foldl of r) (sym (fillings-settled i))

pub filling-tags : (i : Instant) {f : Filled} → Memᴰ f (fillings i) → f.tags ≡ tags_of i
unfolding fillings
filling-tags i m = ap (λ (f : Filled). f.tags) (sym (Memᴰ.of_map (λ (b : List Bool). filled_of b (tags_of i)) (fill_ticks (ticks_of i)) m).2)
