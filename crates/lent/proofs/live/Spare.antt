-- No bit of a state is spare: what its words read as decides each of them. Assumes nothing.
use Rattle.std.specs.Prelude.{None, Some}
use Rattle.std.specs.declared.option.Option as option
use mathlib.Core.List.{List}
use mathlib.Core.Option.{Option}
use mathlib.Core.Path.{◌≡◌, sym, ap, ap₂, ◌∙◌}
use Prim.Native.Nat.{ℕ, zero, suc, ◌+◌, ◌*◌, ◌-◌, ◌/◌, ◌%◌, ◌≤◌, ◌<◌}
use native.Mathlib.Omega.{arith}
use lib.ListN.{get_or}
use lib.Seq.{ext_get_or}
use Rattle.records.specs.declared.sheet.Sheet.{Sheet}
use Rattle.records.specs.Sheet.{SheetValue, sheet_value}
use Rattle.tesl.specs.Remainder.{Remainder}
use Rattle.work.specs.View.{used_part, held_list}
use Rattle.work.proofs.Listing.{listed_at}
use Rattle.judge.specs.declared.progress.Progress.{Progress}
use Rattle.remainders.specs.View.{live_count}
use Rattle.remainders.specs.Rows.{width, height, word, row_of}
use Rattle.step.specs.Apply.{found_in}
use Rattle.judge.specs.Monitor.{held_by}
use Rattle.judge.proofs.progress.Laws.{held_rows}
use Rattle.lent.specs.State.{state_sheet, state_progress, state_monitor}
use Rattle.lent.specs.StoredState.{top_words, kinds_row, numbers_row, remainder_words, AsStored, NoneSpare}
use Rattle.lent.proofs.unused.Sides.{among-rows}

-- the j-th of those held
found_at : (v : SheetValue) (c : option.Option ℕ) (rows : List ℕ) (from : ℕ) (d : Remainder) (j : ℕ) → j < live_count c → get_or (held_list (found_in v c rows from)) j d ≡ used_part v (row_of rows (from + j))
found_at v None rows from d j h = absurd (omega arith)
found_at v (Some n) rows from d j h = listed_at (λ k. used_part v (row_of rows (from + k))) d n j h

module _ (w : List ℕ) (d : Remainder) where
  abbrev one : ℕ → Remainder
  one j = used_part (sheet_value (state_sheet w)) (row_of w ((state_progress w).from + j))

  held_at : (j : ℕ) → j < live_count (state_progress w).count → get_or (held_list (held_by (state_monitor w))) j d ≡ one j
  held_at j h =
      let v = sheet_value (state_sheet w) in
      let k = state_progress w in
      ap (λ (rs : Option (List Remainder)). get_or (held_list rs) j d) (held_rows w k.from v k.count) ∙ found_at v k.count w k.from d j h

module _ (a b : List ℕ) (x : AsStored a) (y : AsStored b) (sheet : state_sheet a ≡ state_sheet b) (progress : state_progress a ≡ state_progress b) (held : held_by (state_monitor a) ≡ held_by (state_monitor b)) where
  from : (state_progress a).from ≡ (state_progress b).from
  from = ap (λ (k : Progress). k.from) progress

  live : live_count (state_progress a).count ≡ live_count (state_progress b).count
  live = ap (λ (k : Progress). live_count k.count) progress

  same-held : (h q : ℕ) → q < width → (state_progress a).from ≤ h → h < (state_progress a).from + live_count (state_progress a).count → word a h q ≡ word b h q
  same-held h q m l n =
      let j = h - (state_progress a).from in
      let d = one a (used_part (sheet_value (state_sheet a)) (row_of a 0)) 0 in
      let f : j < live_count (state_progress a).count = omega arith in
      let g : j < live_count (state_progress b).count = omega (arith, live) in
      let e : (state_progress a).from + j ≡ h = omega arith in
      let e' : (state_progress b).from + j ≡ h = omega (arith, from) in
      ap (λ (i : ℕ). word a i q) (sym e)
      ∙ x.held j f q m
      ∙ ap (λ (r : Remainder). get_or (remainder_words r) q 0) (sym (held_at a d j f) ∙ ap (λ (rs : Option (List Remainder)). get_or (held_list rs) j d) held ∙ held_at b d j g)
      ∙ sym (y.held j g q m)
      ∙ ap (λ (i : ℕ). word b i q) e'

  same_word : (h q : ℕ) → h < height → q < width → word a h q ≡ word b h q
  same_word zero q l m = x.top q m ∙ ap₂ (λ (s : Sheet) (k : Progress). get_or (top_words s k) q 0) sheet progress ∙ sym (y.top q m)
  same_word (suc zero) q l m = x.kinds q m ∙ ap (λ (s : Sheet). get_or (kinds_row s) q 0) sheet ∙ sym (y.kinds q m)
  same_word (suc (suc zero)) q l m = x.numbers q m ∙ ap (λ (s : Sheet). get_or (numbers_row s) q 0) sheet ∙ sym (y.numbers q m)
  same_word (suc (suc (suc h))) q l m =
      let i = suc (suc (suc h)) in
      among-rows i (state_progress a).from (live_count (state_progress a).count) (same-held i q m)
      (λ f. x.others i (omega arith) l f q m ∙ sym (y.others i (omega arith) l (λ u v. f (omega (arith, from)) (omega (arith, from, live))) q m))

pub none-spare : NoneSpare
none-spare a b size-a size-b x y sheet progress held =
    ext_get_or 0 a b (size-a ∙ sym size-b)
    (λ i l.
    let e : width * (i / 64) + i % 64 ≡ i = omega arith in
    ap (λ (n : ℕ). get_or a n 0) (sym e) ∙ same_word a b x y sheet progress held (i / 64) (i % 64) (omega arith) (omega arith) ∙ ap (λ (n : ℕ). get_or b n 0) e)
