-- The lines of a sheet, sorted one by one into rows and flags: none of them, one more, and all. Assumes nothing.
use mathlib.Core.Bool.{Bool, true, false, cond, ◌&&◌, true≢false}
use mathlib.Core.List.{List, [], ◌∷◌, ◌++◌, append-nil}
use mathlib.Core.Path.{◌≡◌, refl, sym, ap, ◌∙◌}
use Prim.Native.Nat.{ℕ, suc, ◌+◌, ◌<◌, ◌≤◌}
use native.Mathlib.Omega.{arith}
use lib.Dec.{eqb, ltb}
use lib.ListN.{length, get_or, set, replicate, length-set, length-append, get_or-append, get_or-eq_default}
use lib.Seq.{get_or-set_same, get_or-set_other, get_or-append_seam}
use borrow.Author.Tests.{ltb-true, ltb-false, eqb-true, eqb-false}
use Rattle.records.specs.declared.line.Line.{Line}
use Rattle.records.specs.declared.line.Line.TheVariants.{Sporadic, Relation, Implies, Excludes, Delayed, Weakly, Strictly, Kills, Counted}
use Rattle.records.specs.declared.sheet.Sheet.{Sheet}
use Rattle.records.specs.Lists.{listed_from, listed}
use Rattle.records.specs.Line.{blank_line}
use Rattle.records.specs.Sheet.{line_at, sheet_value}
use Rattle.records.proofs.Lists.{listed-snoc, length-listed}
use Rattle.tesl.specs.Lists.{filter, flat_map}
use Rattle.theory.proofs.Lists.{filter-append}
use Rattle.work.specs.Relevant.{named_by, flagged}
use Rattle.work.specs.Parts.{is_relation, is_rule, is_delay, is_counted, is_precedes}
use Rattle.lines.specs.declared.plan.Plan.{Plan}
use Rattle.lines.specs.Plan.{numbers, relations_from, rules_from, delays_from, counted_rows, plan_line, plan_lines, PutPlanLine, PutPart, Preparing, PlanOf}
use Rattle.lines.proofs.relevant.Laws.{flagged-append}
use Rattle.remainders.proofs.rows.Placing.{blank-at}
use Rattle.lines.proofs.sorted.Rows.{rows_stay}

-- what is counted and flagged of the lines so far, as a plan has it
pub record Parts : Type 0 where
  pub relations : ℕ
  pub rules : ℕ
  pub delays : ℕ
  pub counted : ℕ
  pub leaders : ℕ
  pub precede : List Bool
  pub named : List Bool

-- the parts of i lines; no precedes line stands past its reach, and each has a flag
pub record Sorted (ls : List Line) (i : ℕ) (p : Parts) (lines : List ℕ) : Type 0 where
  pub many : length ls ≡ i
  pub size : length lines ≡ numbers
  pub few-relations : p.relations ≤ i
  pub few-rules : p.rules ≤ i
  pub few-delays : p.delays ≤ i
  pub few-counted : p.counted ≤ i
  pub all : (k : ℕ) → k < i → plan_line lines k ≡ get_or ls k blank_line
  pub relations : plan_lines lines relations_from p.relations ≡ filter is_relation ls
  pub rules : plan_lines lines rules_from p.rules ≡ filter is_rule ls
  pub delays : plan_lines lines delays_from p.delays ≡ filter is_delay ls
  pub counted : plan_lines lines counted_rows p.counted ≡ filter is_counted ls
  pub leaders : p.leaders ≤ i
  pub past : (k : ℕ) → p.leaders ≤ k → is_precedes (get_or ls k blank_line) ≡ false
  pub places : length p.precede ≡ 16
  pub precede : (k : ℕ) → get_or p.precede k false ≡ is_precedes (get_or ls k blank_line)
  pub named : p.named ≡ flagged (flat_map named_by ls) (replicate 8 false)

abbrev pub parts_by : ℕ → ℕ → ℕ → ℕ → ℕ → List Bool → List Bool → Parts
parts_by relations rules delays counted leaders precede named =
    record { relations = relations; rules = rules; delays = delays; counted = counted; leaders = leaders; precede = precede; named = named }

abbrev pub parts_of : Plan → Parts
parts_of p = parts_by p.relations p.rules p.delays p.counted p.leaders p.precede p.named

-- ---- none
pub sorted_none : (s : Sheet) (lines : List ℕ) → length lines ≡ numbers → Sorted (listed (line_at s) 0) 0 (parts_by 0 0 0 0 0 (replicate 16 false) (replicate 8 false)) lines
unfolding listed_from
sorted_none s lines e = record {
  many = refl;
  size = e;
  few-relations = omega arith;
  few-rules = omega arith;
  few-delays = omega arith;
  few-counted = omega arith;
  all = λ k h. absurd (omega arith);
  relations = refl;
  rules = refl;
  delays = refl;
  counted = refl;
  leaders = omega arith;
  past = λ k h. refl;
  places = refl;
  precede = λ k. blank-at false 16 k;
  named = refl;
}

-- ---- one more

-- a place of a list with one element more
module _ (ls : List Line) (l : Line) where
  at-end : (k : ℕ) → k ≡ length ls → get_or (ls ++ (l ∷ [])) k blank_line ≡ l
  at-end k e = rw e (get_or-append_seam ls l [] blank_line)

  elsewhere : (k : ℕ) → (k ≡ length ls → ⊥) → get_or (ls ++ (l ∷ [])) k blank_line ≡ get_or ls k blank_line
  elsewhere k apart = by-test (ltb k (length ls)) refl
    where
      by-test : (t : Bool) → ltb k (length ls) ≡ t → get_or (ls ++ (l ∷ [])) k blank_line ≡ get_or ls k blank_line
      by-test true u = get_or-append ls (l ∷ []) blank_line k (omega (arith, ltb-true k (length ls) u))
      by-test false u =
          let b = ltb-false k (length ls) u in
          get_or-eq_default (ls ++ (l ∷ [])) blank_line {n = k} (omega (arith, length-append ls (l ∷ []), apart)) ∙ sym (get_or-eq_default ls blank_line {n = k} b)

-- a part of them
filtered : (q : Line → Bool) (ls : List Line) {from count r : ℕ} {one : Bool} {k l : Line} {a b : List ℕ}
    → k ≡ l → PutPart from count one k r a b → one ≡ q l → plan_lines a from count ≡ filter q ls → plan_lines b from r ≡ filter q (ls ++ (l ∷ []))
filtered q ls {l = l} t w e f = w.rows ∙ rw (f, e, t) (sym (filter-append q ls (l ∷ [])))

named_more : (ls : List Line) (l : Line) (flags : List Bool) → flagged (flat_map named_by (ls ++ (l ∷ []))) flags ≡ flagged (named_by l) (flagged (flat_map named_by ls) flags)
named_more [] l flags = rw (append-nil (named_by l))
named_more (x ∷ ls) l flags =
    flagged-append (named_by x) (flat_map named_by (ls ++ (l ∷ []))) flags ∙ named_more ls l (flagged (named_by x) flags) ∙ ap (flagged (named_by l)) (sym (flagged-append (named_by x) (flat_map named_by ls) flags))

module _ {ls : List Line} {i : ℕ} {p : Parts} {a : List ℕ} (s : Sorted ls i p a) (few : i < 16) {k l : Line} (t : k ≡ l) where
  -- its rows
  module _ {b c d e last : List ℕ} {one₁ one₂ one₃ one₄ : Bool} {m n o r : ℕ} (w : PutPlanLine i k a b) (x : PutPart relations_from p.relations one₁ k m b c) (y : PutPart rules_from p.rules one₂ k n c d) (z : PutPart delays_from p.delays one₃ k o d e) (q : PutPart counted_rows p.counted one₄ k r e last) where
    all_more : (k : ℕ) → k < i + 1 → plan_line last k ≡ get_or (ls ++ (l ∷ [])) k blank_line
    all_more k h = q.stays.same k (λ f. omega arith) ∙ z.stays.same k (λ f. omega arith) ∙ y.stays.same k (λ f. omega arith) ∙ x.stays.same k (λ f. omega arith) ∙ by-test (eqb k i) refl
      where
        by-test : (t : Bool) → eqb k i ≡ t → plan_line b k ≡ get_or (ls ++ (l ∷ [])) k blank_line
        by-test true u = let f = eqb-true k i u in ap (plan_line b) f ∙ w.there ∙ t ∙ sym (at-end ls l k (f ∙ sym s.many))
        by-test false u =
            let apart = eqb-false k i u in
            w.stays.same k apart ∙ s.all k (omega (arith, apart)) ∙ sym (elsewhere ls l k (λ f. apart (f ∙ s.many)))

    module _ {one : Bool} {leaders : ℕ} {named : List Bool} (u₁ : one₁ ≡ is_relation l) (u₂ : one₂ ≡ is_rule l) (u₃ : one₃ ≡ is_delay l) (u₄ : one₄ ≡ is_counted l) (v : one ≡ is_precedes l) (f : leaders ≡ cond one (i + 1) p.leaders) (g : named ≡ flagged (named_by l) p.named) where
      leaders-more : (t : Bool) → one ≡ t → leaders ≤ i + 1
      leaders-more true e = let h : leaders ≡ i + 1 = f ∙ rw e in omega arith
      leaders-more false e = let h : leaders ≡ p.leaders = f ∙ rw e in omega (arith, s.leaders)

      past_more : (t : Bool) → one ≡ t → (k : ℕ) → leaders ≤ k → is_precedes (get_or (ls ++ (l ∷ [])) k blank_line) ≡ false
      past_more true e k h =
          let r : leaders ≡ i + 1 = f ∙ rw e in
          rw (elsewhere ls l k (λ q. omega (arith, s.many))) (s.past k (omega (arith, s.leaders)))
      past_more false e k h = by-test (eqb k i) refl
        where
          by-test : (t : Bool) → eqb k i ≡ t → is_precedes (get_or (ls ++ (l ∷ [])) k blank_line) ≡ false
          by-test true u = rw (at-end ls l k (eqb-true k i u ∙ sym s.many)) (sym v ∙ e)
          by-test false u =
              let r : leaders ≡ p.leaders = f ∙ rw e in
              rw (elsewhere ls l k (λ q. eqb-false k i u (q ∙ s.many))) (s.past k (omega arith))

      precede-more : (k : ℕ) → get_or (set p.precede i one) k false ≡ is_precedes (get_or (ls ++ (l ∷ [])) k blank_line)
      precede-more k = by-test (eqb k i) refl
        where
          by-test : (t : Bool) → eqb k i ≡ t → get_or (set p.precede i one) k false ≡ is_precedes (get_or (ls ++ (l ∷ [])) k blank_line)
          by-test true u =
              let q = eqb-true k i u in
              rw (at-end ls l k (q ∙ sym s.many), q, get_or-set_same p.precede i one false (omega (arith, s.places))) v
          by-test false u =
              let apart = eqb-false k i u in
              rw (get_or-set_other p.precede i k one false apart, elsewhere ls l k (λ q. apart (q ∙ s.many))) (s.precede k)

      pub sorted_more : Sorted (ls ++ (l ∷ [])) (i + 1) (parts_by m n o r leaders (set p.precede i one) named) last
      sorted_more = record {
        many = length-append ls (l ∷ []) ∙ ap (λ (k : ℕ). k + 1) s.many;
        size = q.stays.size;
        few-relations = omega (arith, x.few, s.few-relations);
        few-rules = omega (arith, y.few, s.few-rules);
        few-delays = omega (arith, z.few, s.few-delays);
        few-counted = omega (arith, q.few, s.few-counted);
        all = all_more;
        relations =
            rows_stay q.stays relations_from m (λ k h q. omega (arith, x.few, s.few-relations))
            ∙ rows_stay z.stays relations_from m (λ k h q. omega (arith, x.few, s.few-relations))
            ∙ rows_stay y.stays relations_from m (λ k h q. omega (arith, x.few, s.few-relations))
            ∙ filtered is_relation ls t x u₁ (rows_stay w.stays relations_from p.relations (λ k h q. omega arith) ∙ s.relations);
        rules =
            rows_stay q.stays rules_from n (λ k h q. omega (arith, y.few, s.few-rules))
            ∙ rows_stay z.stays rules_from n (λ k h q. omega (arith, y.few, s.few-rules))
            ∙ filtered is_rule ls t y u₂ (rows_stay x.stays rules_from p.rules (λ k h q. omega (arith, s.few-relations)) ∙ rows_stay w.stays rules_from p.rules (λ k h q. omega arith) ∙ s.rules);
        delays =
            rows_stay q.stays delays_from o (λ k h q. omega (arith, z.few, s.few-delays))
            ∙ filtered is_delay ls t z u₃
            (rows_stay y.stays delays_from p.delays (λ k h q. omega (arith, s.few-rules))
            ∙ rows_stay x.stays delays_from p.delays (λ k h q. omega (arith, s.few-relations))
            ∙ rows_stay w.stays delays_from p.delays (λ k h q. omega arith)
            ∙ s.delays);
        counted =
            filtered is_counted ls t q u₄
            (rows_stay z.stays counted_rows p.counted (λ k h q. omega (arith, s.few-delays))
            ∙ rows_stay y.stays counted_rows p.counted (λ k h q. omega (arith, s.few-rules))
            ∙ rows_stay x.stays counted_rows p.counted (λ k h q. omega (arith, s.few-relations))
            ∙ rows_stay w.stays counted_rows p.counted (λ k h q. omega arith)
            ∙ s.counted);
        leaders = leaders-more one refl;
        past = past_more one refl;
        places = length-set p.precede i one ∙ s.places;
        precede = precede-more;
        named = g ∙ ap (flagged (named_by l)) s.named ∙ sym (named_more ls l (replicate 8 false));
      }

-- the next line of a sheet
pub sorted-next : (s : Sheet) (i : ℕ) {p : Parts} {lines : List ℕ} → Sorted (listed (line_at s) i ++ (line_at s i ∷ [])) (i + 1) p lines → Sorted (listed (line_at s) (i + 1)) (i + 1) p lines
sorted-next s i w = rw (listed-snoc (line_at s) i) w

-- ---- all
leading : {ls : List Line} {i : ℕ} {p : Parts} {lines : List ℕ} → Sorted ls i p lines → (k : ℕ) → is_precedes (get_or ls k blank_line) ≡ (ltb k p.leaders && get_or p.precede k false)
leading {ls} {p = p} w k = by-test (ltb k p.leaders) refl
  where
    by-test : (t : Bool) → ltb k p.leaders ≡ t → is_precedes (get_or ls k blank_line) ≡ (t && get_or p.precede k false)
    by-test true e = sym (w.precede k)
    by-test false e = w.past k (ltb-false k p.leaders e)

-- delay lines and counted lines are different ones
apart : (l : Line) → is_delay l ≡ true → is_counted l ≡ false
apart (Counted A B D n) h = absurd (true≢false (sym h))
apart (Sporadic A B t) h = refl
apart (Relation A B p q) h = refl
apart (Implies A B) h = refl
apart (Excludes A B) h = refl
apart (Delayed A B D d) h = refl
apart (Weakly A B) h = refl
apart (Strictly A B) h = refl
apart (Kills A B) h = refl

both-among : (ls : List Line) → length (filter is_delay ls) + length (filter is_counted ls) ≤ length ls
both-among [] = omega arith
both-among (l ∷ ls) = by_tests (is_delay l) (is_counted l) (apart l) (both-among ls)
  where
    by_tests : (a b : Bool) → (a ≡ true → b ≡ false) → length (filter is_delay ls) + length (filter is_counted ls) ≤ length ls
        → length (cond a (l ∷ filter is_delay ls) (filter is_delay ls)) + length (cond b (l ∷ filter is_counted ls) (filter is_counted ls)) ≤ suc (length ls)
    by_tests true true h m = absurd (true≢false (h refl))
    by_tests true false h m = omega (arith, m)
    by_tests false true h m = omega (arith, m)
    by_tests false false h m = omega (arith, m)

pub both-fit : {ls : List Line} {i : ℕ} {p : Parts} {lines : List ℕ} → Sorted ls i p lines → p.delays + p.counted ≤ length ls
both-fit {ls} {p = p} {lines} w =
    let delays : p.delays ≡ length (filter is_delay ls) = sym (length-listed (λ j. plan_line lines (delays_from + j)) p.delays) ∙ ap length w.delays in
    let counted : p.counted ≡ length (filter is_counted ls) = sym (length-listed (λ j. plan_line lines (counted_rows + j)) p.counted) ∙ ap length w.counted in
    omega (arith, delays, counted, both-among ls)

pub sorted_all : (s : Sheet) {p : Plan} {was lines : List ℕ} → Preparing s was → p.clocks ≡ s.clocks → Sorted (sheet_value s).lines s.count (parts_of p) lines → PlanOf s p lines
sorted_all s {p} q c w = record {
  size = w.size;
  planned = record {
    as_many = c;
    few-clocks = q.few-clocks;
    all = λ k h. w.all k (omega (arith, w.leaders));
    relations = w.relations;
    rules = w.rules;
    delays = w.delays;
    counted = w.counted;
    leading = (omega (arith, w.leaders, q.few-lines), leading w);
    named = w.named;
  };
}
