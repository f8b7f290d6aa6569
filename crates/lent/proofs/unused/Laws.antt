-- Words of a row cleared part by part: what is used is read as before, and the rest is zero. Assumes nothing.
use mathlib.Core.Bool.{Bool, true, false, cond}
use mathlib.Core.List.{List, map}
use mathlib.Core.Logic.{⊎_elim}
use mathlib.Core.Path.{◌≡◌, refl, sym, ap, ◌∙◌}
use Prim.Native.Nat.{ℕ, ◌+◌, ◌*◌, ◌≤◌, ◌<◌}
use native.Mathlib.Nat.{eq-or-lt_of_le}
use native.Mathlib.Omega.{arith}
use lib.Dec.{ltb}
use lib.ListN.{length, get_or, take}
use borrow.Author.Tests.{ltb-true}
use Rattle.records.specs.Lists.{listed}
use Rattle.records.specs.Sheet.{SheetValue}
use Rattle.records.proofs.Lists.{both, length-listed}
use Rattle.theory.specs.Step.{next_leads}
use Rattle.theory.proofs.Lists.{table-ext}
use Rattle.work.specs.View.{in_use}
use Rattle.work.specs.Parts.{is_precedes}
use Rattle.work.proofs.Listing.{listed_at, listed_same}
use Rattle.work.proofs.Carried.{sheet_line, next-places, used-by}
use Rattle.lines.specs.declared.plan.Plan.{Plan}
use Rattle.remainders.specs.Word.{flag_of}
use Rattle.remainders.specs.View.{obligation_of, countdown_of}
use Rattle.lines.specs.Plan.{Planned}
use Rattle.remainders.specs.Rows.{parts, part_words, leads_part, stopped_part, width, word, row_count, row_obligation, row_set, row_owed, row_countdowns, row_lead, row_leads, row_stop, row_stopped, FewInRow, CountsSame, Stays}
use Rattle.lent.specs.UnusedWords.{lead_used}
use Rattle.lent.specs.Cleared.{ClearedPart, ClearedOwed, ClearedSets, ClearedLeads, StopsStay, ClearedUnused}
use Rattle.remainders.proofs.rows.Laws.{stays_all, stays_wide, stays_on, place_same, set_same-law, part_stays, few-counts, set_words-law, nothing-words}
use Rattle.judge.proofs.stored.Laws.{take_same}
use Rattle.step.proofs.advance.Row.{same-remainder}

-- ---- the sets: the first `part` are cleared
pub record Sets (i : ℕ) (was rows : List ℕ) (part : ℕ) : Type 0 where
  pub turns : part ≤ parts
  pub stays : Stays i 0 (part_words * part) was rows
  pub count : CountsSame i was rows
  pub set : (p : ℕ) → p < part → row_set rows i p ≡ row_set was i p
  pub rest : (p j : ℕ) → p < part → row_count rows i p ≤ j → j < 8 → word rows i (part_words * p + 1 + j) ≡ 0

pub sets-start : (i : ℕ) (was : List ℕ) → Sets i was was 0
sets-start i was = record { turns = omega arith; stays = stays_all i 0 0 was; count = λ p l. refl; set = λ p l. absurd (omega arith); rest = λ p j l m k. absurd (omega arith) }

module _ {i : ℕ} {was : List ℕ} where
  module _ {rows : List ℕ} {part : ℕ} (w : Sets i was rows part) where
    pub sets-few : FewInRow was i → FewInRow rows i
    sets-few few = few-counts was rows i w.count few

    -- the next part
    module _ (few : FewInRow was i) (h : part < parts) {n : ℕ} (e : n ≡ row_count rows i part) {after : List ℕ} (o : ClearedOwed i part n rows after) where
      -- the parts before it stay
      before : (p q : ℕ) → p < part → part_words * p ≤ q → q < part_words * p + part_words → word after i q ≡ word rows i q
      before p q l x y = o.stays.same i q (omega arith) (λ r u v. omega arith)

      counts : CountsSame i rows after
      counts p l = o.stays.same i (part_words * p) (omega arith) (λ r u v. omega arith)

      here : row_set after i part ≡ row_set was i part
      here =
          let c = w.count part h in
          let f = few part h in
          ap (listed (row_obligation after i part)) (counts part h ∙ c)
          ∙ listed_same (row_count was i part) (λ j l. o.places j (omega arith) ∙ place_same (part_stays w.stays i part h (λ q x y r u v. omega arith)) j (omega arith))

      pub sets_more : Sets i was after (part + 1)
      sets_more = record {
        turns = omega arith;
        stays = stays_on (stays_wide w.stays 0 (part_words * (part + 1)) (omega arith) (omega arith)) (stays_wide o.stays 0 (part_words * (part + 1)) (omega arith) (omega arith));
        count = λ p l. counts p l ∙ w.count p l;
        set = λ p l. ⊎_elim
            (λ (q : p ≡ part). rw q here)
            (λ (q : p < part). set_same-law {h = i} {part = p} {a = rows} {b = after} (record { same = λ x u v. before p x q u v }) (sets-few few p (omega arith)) ∙ w.set p q)
            (eq-or-lt_of_le (omega arith));
        rest = λ p j l m k. let c = counts p (omega arith) in ⊎_elim
            (λ (q : p ≡ part). rw q (o.rest j (omega (arith, counts part h, ap (row_count after i) q)) k))
            (λ (q : p < part). before p (part_words * p + 1 + j) q (omega arith) (omega arith) ∙ w.rest p j q (omega arith) k)
            (eq-or-lt_of_le (omega arith));
      }

-- ---- leads: of the first k those without a flag are zero
pub record Leads (leaders : ℕ) (precede : List Bool) (i : ℕ) (was rows : List ℕ) (k : ℕ) : Type 0 where
  pub turns : k ≤ leaders
  pub stays : Stays i leads_part stopped_part was rows
  pub used : (j : ℕ) → j < leaders → get_or precede j false ≡ true → row_lead rows i j ≡ row_lead was i j
  pub unused : (j : ℕ) → j < k → get_or precede j false ≡ false → row_lead rows i j ≡ 0

-- ---- a row
module _ (p : Plan) {i : ℕ} {a b c d : List ℕ} (few : FewInRow a i)
    (o : ClearedSets i a b) (l : ClearedLeads p.leaders p.precede i b c) (s : ClearedPart i (stopped_part + p.clocks) width c d) where
  -- a word before the leads
  same_word : (q : ℕ) → q < leads_part → word d i q ≡ word b i q
  same_word q h = s.stays.same i q (omega arith) (λ e x y. omega arith) ∙ l.stays.same i q (omega arith) (λ e x y. omega arith)

  same-owed : row_owed d i ≡ row_owed a i
  same-owed = ap (map obligation_of) (set_words-law b d i same_word 0 (omega arith) (few-counts a b i o.count few 0 (omega arith)) ∙ o.set 0 (omega arith))

  same-countdowns : row_countdowns d i ≡ row_countdowns a i
  same-countdowns = ap (map countdown_of) (set_words-law b d i same_word 1 (omega arith) (few-counts a b i o.count few 1 (omega arith)) ∙ o.set 1 (omega arith))

  same-lead : (k : ℕ) → k < 16 → lead_used p.leaders p.precede k ≡ true → row_lead d i k ≡ row_lead a i k
  same-lead k h e = s.stays.same i (leads_part + k) (omega arith) (λ r x y. omega arith) ∙ l.used k e ∙ o.stays.same i (leads_part + k) (omega arith) (λ r x y. omega arith)

  same_stop-law : StopsStay p i a d
  same_stop-law k h =
      let f = p.few_clocks in
      s.stays.same i (stopped_part + k) (omega arith) (λ r x y. omega arith) ∙ l.stays.same i (stopped_part + k) (omega arith) (λ r x y. omega arith) ∙ o.stays.same i (stopped_part + k) (omega arith) (λ r x y. omega arith)

  -- of a sheet that the plan is of
  module _ {v : SheetValue} {lines : List ℕ} (planned : Planned v p lines) where
    used-lead : (k : ℕ) → in_use (sheet_line v k) (get_or (row_leads d i) k 0) ≡ in_use (sheet_line v k) (get_or (row_leads a i) k 0)
    used-lead k = used-by (sheet_line v k) (get_or (row_leads d i) k 0) ∙ by-test (is_precedes (sheet_line v k)) refl ∙ sym (used-by (sheet_line v k) (get_or (row_leads a i) k 0))
      where
        by-test : (b : Bool) → is_precedes (sheet_line v k) ≡ b → cond b (get_or (row_leads d i) k 0) 0 ≡ cond b (get_or (row_leads a i) k 0) 0
        by-test true e =
            let u : lead_used p.leaders p.precede k ≡ true = sym (planned.leading.1 k) ∙ e in
            let h : k < 16 = omega (arith, ltb-true k p.leaders (both (ltb k p.leaders) u).0, p.few_leaders) in
            listed_at (row_lead d i) 0 16 k h ∙ same-lead k h u ∙ sym (listed_at (row_lead a i) 0 16 k h)
        by-test false e = refl

    same-leads : next_leads in_use v.lines (row_leads d i) ≡ next_leads in_use v.lines (row_leads a i)
    same-leads =
        next-places 0 in_use v.lines (row_leads d i) ∙ table-ext (length v.lines) _ _ (λ k x. used-lead k) ∙ sym (next-places 0 in_use v.lines (row_leads a i))

    same-stopped : take v.clocks (row_stopped d i) ≡ take v.clocks (row_stopped a i)
    same-stopped =
        let c = planned.as_many in
        let f = planned.few-clocks in
        take_same false v.clocks (row_stopped d i) (row_stopped a i) (omega (arith, length-listed (row_stop d i) 8)) (omega (arith, length-listed (row_stop a i) 8))
        (λ k h. listed_at (row_stop d i) false 8 k (omega arith) ∙ ap flag_of (same_stop-law k (omega arith)) ∙ sym (listed_at (row_stop a i) false 8 k (omega arith)))

  pub unused-cleared : ClearedUnused p i a d
  unused-cleared =
      record {
        stays = stays_on (stays_wide o.stays 0 width (omega arith) (omega arith)) (stays_on (stays_wide l.stays 0 width (omega arith) (omega arith)) (stays_wide s.stays 0 width (omega arith) (omega arith)));
        cleared = record {
          count = λ part h. same_word (part_words * part) (omega arith) ∙ o.count part h;
          row = λ v lines planned. same-remainder same-owed same-countdowns (same-leads planned) (same-stopped planned);
          stops = same_stop-law;
          nothing = record {
            sets = nothing-words b d i same_word o.nothing;
            leads = λ k h e. s.stays.same i (leads_part + k) (omega arith) (λ r x y. omega arith) ∙ l.unused k h e;
            rest = s.zero;
          };
        };
      }
