-- The leads and stopped clocks of a row: what a filling asks of them, and those of the row that is built. Assumes nothing.
use mathlib.Core.Bool.{Bool, true, false, not, cond, ◌&&◌, and-true, and-false}
use mathlib.Core.List.{List, map}
use mathlib.Core.Path.{◌≡◌, sym, ap, ap₂, ◌∙◌}
use Prim.Native.Nat.{ℕ, ◌+◌, ◌-◌, ◌<◌, ◌≤◌}
use native.Mathlib.Omega.{arith}
use lib.Dec.{T, leb}
use lib.ListN.{get_or, take}
use Rattle.records.specs.Lists.{listed}
use Rattle.records.specs.Sheet.{SheetValue}
use Rattle.records.proofs.Lists.{listed-take, length-listed}
use Rattle.tesl.specs.Lists.{below}
use Rattle.theory.specs.Step.{overlap, lines_ok, next_leads}
use Rattle.work.specs.Advanced.{fails, onto}
use Rattle.work.specs.View.{in_use}
use Rattle.work.specs.Questions.{carried_holds, lead_after}
use Rattle.work.specs.Lines.{all_stopped, small_leads}
use Rattle.work.specs.Owed.{still_owed, still_counting}
use Rattle.work.specs.Carried.{either}
use Rattle.work.specs.Parts.{is_precedes}
use Rattle.work.specs.Work.{advanced}
use Rattle.work.proofs.Below.{below-ext}
use Rattle.work.proofs.Listing.{listed_at, listed_same}
use Rattle.work.proofs.Carried.{sheet_line, small-lead, carried-holds, carried-stopped, carried-leads}
use Rattle.lines.specs.declared.plan.Plan.{Plan}
use Rattle.remainders.specs.Word.{half_values, flag_of}
use Rattle.remainders.specs.View.{obligation_of, countdown_of}
use Rattle.remainders.specs.Rows.{parts, leads_part, stopped_part, width, word, row_set, row_owed, row_countdowns, row_lead, row_leads, row_stop, row_stopped, row_of, LeadsOn, StoppedOn}
use Rattle.remainders.proofs.rows.Flags.{flags-stay, flags-on}
use Rattle.remainders.proofs.rows.Laws.{stays_all, stays_wide, stays_on, set_words-law, few_words}
use Rattle.step.specs.declared.advance.Next.TheVariants.{Fails, Onto}
use Rattle.step.specs.declared.filling.Filling.{Filling}
use Rattle.step.specs.Filling.{filled_instant, GatheredFor, AdvancedRow}
use Rattle.step.proofs.advance.Row.{same-remainder, row, Becomes, by_left, LinesAsked, BothBegun, fails-row}

-- ---- leads and stopped clocks

module _ (p : Plan) (f : Filling) (rows : List ℕ) (i : ℕ) where
  abbrev enough : Bool
  enough = below p.leaders (λ (k : ℕ). leb (get_or f.needs k 0) (row_lead rows i k))

  -- a clock that ticks is stopped in the row
  abbrev barred : Bool
  barred = overlap f.ticks (listed (row_stop rows i) p.clocks)

  module _ {v : SheetValue} (a : GatheredFor v p f) where
    lead-at : (k : ℕ) → k < p.leaders → get_or (row_leads rows i) k 0 ≡ row_lead rows i k
    lead-at k h = let r = a.leading.0 in listed_at (row_lead rows i) 0 16 k (omega arith)

    row-stopped : (row v rows i).stopped ≡ listed (row_stop rows i) p.clocks
    row-stopped =
        sym (listed-take false (row_stop rows i) v.clocks (row_stopped rows i) (omega (arith, a.few-clocks, length-listed (row_stop rows i) 8)) (λ k h. sym (listed_at (row_stop rows i) false 8 k (omega (arith, a.few-clocks)))))
        ∙ ap (listed (row_stop rows i)) (sym a.as_many)

    holds : (not (overlap f.ticks (row v rows i).stopped) && lines_ok (carried_holds f.ticks) v.lines (row v rows i).leads) ≡ (not barred && enough)
    holds = ap₂ (λ (bs : List Bool) (b : Bool). not (overlap f.ticks bs) && b) row-stopped
        (carried-holds v f.ticks p.leaders p.precede a.leading (row_leads rows i) ∙ below-ext p.leaders _ _ (λ k h. ap₂ leb (sym (a.needed k h)) (lead-at k h)))

  module _ {h : Bool} (g : h ≡ enough) where
    by-leads : h ≡ false → Becomes p f rows i (λ v. fails)
    unfolding advanced
    by-leads u v a = rw (holds a, sym g, u, and-false (not barred))

    -- a lead is too short
    pub row-short : {to : ℕ} → h ≡ false → AdvancedRow p f i to Fails rows rows
    row-short u = fails-row (stays_all _ _ _ _) (by-leads u)

    module _ (u : h ≡ true) {b : Bool} (e : b ≡ barred) where
      by-stopped : Becomes p f rows i (λ v. cond (not b) (by_left f rows i (still_owed (filled_instant f) (row_owed rows i)) (still_counting (filled_instant f) (row_countdowns rows i)) v) fails)
      unfolding advanced
      by-stopped v a = rw (holds a, sym g, u, and-true (not barred), sym e)

      -- a stopped clock ticks
      pub row-barred : {to : ℕ} → b ≡ true → AdvancedRow p f i to Fails rows rows
      row-barred t = fails-row (stays_all _ _ _ _) (λ v a. by-stopped v a ∙ rw t)

      pub lines-asked : b ≡ false → LinesAsked p f i rows
      lines-asked t = record { becomes = λ v a. by-stopped v a ∙ rw t }

-- ---- the row goes on, with its leads and stopped clocks

module _ {p : Plan} {f : Filling} {i to : ℕ} {a b c d : List ℕ} (w : BothBegun p f i to a b) (apart : i ≡ to → ⊥) (few : p.leaders ≤ 16) (led : LeadsOn p.leaders f.gains f.losses i to b c) (stopped : StoppedOn f.stops i to c d) where
  -- the words before its leads stay
  same : (q : ℕ) → q < leads_part → word d to q ≡ word b to q
  same q h = stopped.stays.same to q (omega arith) (λ e x y. omega arith) ∙ led.stays.same to q (omega arith) (λ e x y. omega arith)

  of_row : (q : ℕ) → q < width → word b i q ≡ word a i q
  of_row q h = w.stays.same i q h (λ e. absurd (apart e))

  built-leads : (j : ℕ) → j < p.leaders → row_lead a i j < half_values → row_lead d to j ≡ row_lead a i j + get_or f.gains j 0 - get_or f.losses j 0
  built-leads j h s =
      let e = of_row (leads_part + j) (omega arith) in
      stopped.stays.same to (leads_part + j) (omega arith) (λ e x y. omega arith) ∙ led.leads j h (rw e s) ∙ rw e

  built-stopped : row_stopped d to ≡ either (row_stopped a i) f.stops
  built-stopped =
      stopped.stopped
      ∙ ap (λ (xs : List Bool). either xs f.stops) (listed_same 8 (λ j h. ap flag_of (led.stays.same i (stopped_part + j) (omega arith) (λ e. absurd (apart e)) ∙ of_row (stopped_part + j) (omega arith))))

  module _ {v : SheetValue} (g : GatheredFor v p f) (small : T (small_leads (row v a i))) where
    moved : (k : ℕ) → k < p.leaders → is_precedes (sheet_line v k) ≡ true → get_or (row_leads d to) k 0 ≡ get_or (row_leads a i) k 0 + get_or f.gains k 0 - get_or f.losses k 0
    moved k h e =
        let at = lead-at p f a i g k h in
        lead-at p f d to g k h ∙ built-leads k h (omega (arith, at, small-lead v f.ticks (row_of a i) small k e)) ∙ rw at

    on-leads : next_leads in_use v.lines (row_leads d to) ≡ next_leads (lead_after f.ticks) v.lines (row v a i).leads
    on-leads = carried-leads v f.ticks p.leaders p.precede g.leading (row_leads a i) (row_leads d to) (λ k h e. rw (sym (g.gained k h), sym (g.lost k h)) (moved k h e))

    on-stopped : take v.clocks (row_stopped d to) ≡ all_stopped f.ticks v.lines (row v a i).stopped
    on-stopped =
        ap (take v.clocks) (built-stopped ∙ ap (either (row_stopped a i)) g.ends)
        ∙ carried-stopped v f.ticks (row_stopped a i) (length-listed (row_stop a i) 8)

  -- a set of it
  set-built : (part : ℕ) → part < parts → row_set d to part ≡ row_set b to part
  set-built part h = set_words-law b d to same part h (w.few part h)

  pub row-onto : AdvancedRow p f i to Onto a d
  row-onto =
      record {
        stays = stays_on (stays_wide w.stays 0 width (omega arith) (omega arith)) (stays_on (stays_wide led.stays 0 width (omega arith) (omega arith)) (stays_wide stopped.stays 0 width (omega arith) (omega arith)));
        flags = λ s. flags-on stopped (flags-stay led.stays (omega arith) (flags-stay w.stays (omega arith) s));
        few = λ t. few_words b d to same w.few;
        row = λ v g small. ap onto (same-remainder (ap (map obligation_of) (set-built 0 (omega arith))) (ap (map countdown_of) (set-built 1 (omega arith))) (on-leads g small) (on-stopped g small)) ∙ sym (w.becomes v g);
      }
