-- A question that tells row i from row x leaves the invariant; the last says that it is row x.
use Rattle.std.specs.Prelude.{Option}
use Rattle.std.proofs.Common.{is_none, ◌≡◌, ℕ, Bool, true, false, not, ◌&&◌, List, ◌+◌, ◌-◌, ◌≤◌, sym, ap, ap₂, ◌∙◌, arith}
use Rattle.records.specs.Sheet.{SheetValue}
use Rattle.tesl.specs.Lists.{any, below}
use Rattle.work.specs.View.{used_part}
use Rattle.work.specs.Work.{same_counted}
use Rattle.work.specs.Parts.{Leading}
use Rattle.work.proofs.Below.{below_next, below-miss}
use Rattle.remainders.specs.declared.obligation.Obligation as code
use Rattle.remainders.specs.View.{same_stored}
use Rattle.remainders.specs.Rows.{parts, row_count, row_set, row_of, rows_of, part_number}
use Rattle.remainders.proofs.rows.Laws.{part-inside}
use Rattle.remainders.proofs.compare.Laws.{set_same, has_at, set-misses, set-equal, same-owed, empty-sets, same_row, none_same, other-set, other-count, other-leads, other-stops, equal, is_one}
use Rattle.remainders.proofs.compare.is_duplicate.Goals as goal
use Rattle.remainders.proofs.compare.is_duplicate.Goals.{In-held, Else-not-same_stopped, Else-not-same_set, After-row_owes}

-- the k-th row is row x
abbrev same : In-held → ℕ → Bool
same c k = let a = c.args in same_row a.clocks a.leaders a.precede a.rows.now (a.first + a.n) (a.first + k)

unequal : (c : In-held) → same c c.held.k ≡ false → below (c.held.k + 1) (λ j. not (same c j)) ≡ true
unequal c q = below_next (λ j. not (same c j)) c.held.k c.held.invariant (ap not q)

-- ---- no row before it

pub returns-then-n-eq0 : goal.returns-then-n-eq0
returns-then-n-eq0 c v e h =
    let a = c.args in
    sym (is_one a.clocks a.leaders a.precede a.rows.now (a.first + a.n) c.requires.0 v e h a.first a.n ∙ ap (λ (m : ℕ). not (none_same a.clocks a.leaders a.precede a.rows.now (a.first + a.n) a.first m)) c.if-n-eq0.true)

-- ---- questions that tell them apart

pub held-preserved-then-row_count-count : goal.held-preserved-then-row_count-count
held-preserved-then-row_count-count c =
    unequal (goal.at.held-preserved-then-row_count-count c).In-held (other-count _ _ _ _ _ _ (part_number c.larger_set-larger.result) (part-inside c.larger_set-larger.result) (λ e. c.if-row_count-count.true (c.row_count.ensures ∙ sym (c.row_count-count.ensures ∙ e))))

pub held-preserved-in-Some : goal.held-preserved-in-Some
held-preserved-in-Some c =
    unequal (goal.at.held-preserved-in-Some c).In-held (other-leads _ _ _ _ _ _ c.unlike_lead.ensures (ap (λ (o : Option ℕ). not (is_none o)) c.in-Some.is))

pub held-preserved-then-not-same_stopped : goal.held-preserved-then-not-same_stopped
held-preserved-then-not-same_stopped c =
    unequal (goal.at.held-preserved-then-not-same_stopped c).In-held (other-stops _ _ _ _ _ _ c.same_stopped.ensures (ap not c.if-not-same_stopped.true))

pub held-preserved-then-not-as_many : goal.held-preserved-then-not-as_many
held-preserved-then-not-as_many c =
    unequal (goal.at.held-preserved-then-not-as_many c).In-held
    (other-count _ _ _ _ _ _ (part_number c.other-smaller.result) (part-inside c.other-smaller.result) (λ e. c.if-not-as_many.true (c.row_count-in-held.ensures ∙ sym (c.row_count-fewer.ensures ∙ e))))

-- ---- as many in each set

-- row i, in the larger set of row x and in the smaller
larger-as-many : (c : Else-not-same_stopped) → let r = c.args.rows.now in
    let part = part_number c.larger_set-larger.result in
    row_count r (c.args.first + c.held.k) part ≡ row_count r (c.args.first + c.args.n) part
larger-as-many c = sym c.row_count.ensures ∙ c.if-row_count-count.false ∙ c.row_count-count.ensures

smaller-as-many : {n : ℕ} (c : Else-not-same_stopped) → let r = c.args.rows.now in
    let part = part_number c.larger_set-larger.result in
    n ≡ row_count r (c.args.first + c.held.k) (part_number c.other-smaller.result) → n ≡ c.row_count-fewer.result → row_count r (c.args.first + c.held.k) (1 - part) ≡ row_count r (c.args.first + c.args.n) (1 - part)
smaller-as-many c e many =
    let r = c.args.rows.now in
    let p = c.other-smaller.ensures in
    ap (row_count r (c.args.first + c.held.k)) (sym p) ∙ sym e ∙ many ∙ c.row_count-fewer.ensures ∙ ap (row_count r (c.args.first + c.args.n)) p

-- this turn's row is row x, of equal leads, stopped clocks and sets
it-is : (c : Else-not-same_stopped) → let a = c.args in
    below parts (set_same a.rows.now (a.first + a.n) (a.first + c.held.k)) ≡ true
    → (v : SheetValue) → v.clocks ≡ a.clocks → Leading v a.leaders a.precede
    → true ≡ any (same_counted (used_part v (row_of a.rows.now (a.first + a.n)))) (rows_of v a.rows.now a.first a.n)
it-is c sets v e h =
    let a = c.args in
    let x = a.first + a.n in
    let y : same_row a.clocks a.leaders a.precede a.rows.now x (a.first + c.held.k) ≡ true
    = equal _ _ _ _ _ _ sets c.unlike_lead.ensures (ap (λ (o : Option ℕ). not (is_none o)) c.in_default.is) c.same_stopped.ensures (ap not c.if-not-same_stopped.false)
    in
    sym (is_one a.clocks a.leaders a.precede a.rows.now x c.requires.0 v e h a.first a.n ∙ ap not (below-miss (λ j. not (same_row a.clocks a.leaders a.precede a.rows.now x (a.first + j))) a.n c.held.k (omega arith) (ap not y)))

-- nothing in either set
pub returns-then-count-eq0 : goal.returns-then-count-eq0
returns-then-count-eq0 c v e h =
    let f = (goal.at.returns-then-count-eq0 c).Else-not-same_stopped in
    let a = c.args in
    let larger = c.larger_set-larger in
    it-is f (empty-sets a.rows.now (a.first + a.n) (a.first + c.held.k) (part_number larger.result) (part-inside larger.result) (sym c.row_count-count.ensures ∙ c.if-count-eq0.true) larger.ensures.least (larger-as-many f) (smaller-as-many f c.row_count-in-held.ensures c.if-not-as_many.false)) v e h

pub held-preserved-then-not-same_set : goal.held-preserved-then-not-same_set
held-preserved-then-not-same_set c =
    unequal (goal.at.held-preserved-then-not-same_set c).In-held (other-set _ _ _ _ _ _ 1 (omega arith) (sym c.same_set.ensures ∙ c.if-not-same_set.true))

-- ---- obligation by obligation
module _ (c : Else-not-same_set) where
  abbrev rows : List ℕ
  rows = c.args.rows.now

  abbrev x : ℕ
  x = c.args.first + c.args.n

  abbrev i : ℕ
  i = c.args.first + c.held.k

  -- row x owes at most eight, and row i as many
  few : row_count rows x 0 ≤ 8
  few = c.requires.1.1.1 c.args.n (omega arith) 0 (omega arith)

  of-i : c.row_count-owed.result ≡ row_count rows i 0
  of-i =
      let larger = c.larger_set-larger in
      c.row_count-owed.ensures
      ∙ sym (same-owed rows x i (part_number larger.result) (part-inside larger.result) (sym c.row_count.ensures ∙ c.if-row_count-count.false ∙ c.row_count-count.ensures) (ap (row_count rows i) (sym c.other-smaller.ensures) ∙ sym c.row_count-in-held.ensures ∙ c.if-not-as_many.false ∙ c.row_count-fewer.ensures ∙ ap (row_count rows x) c.other-smaller.ensures))

  -- each is there
  sets : below (row_count rows i 0) (has_at rows x i 0) ≡ true → below parts (set_same rows x i) ≡ true
  sets q = ap₂ ◌&&◌ (sym (set-equal rows x i 0 (sym c.row_count-owed.ensures ∙ of-i) q)) (sym c.same_set.ensures ∙ c.if-not-same_set.false)

-- row x has the one of this turn, or not
has : (c : After-row_owes) → has_at c.args.rows.now (c.args.first + c.args.n) (c.args.first + c.held.k) 0 c.loop-j.j ≡ c.row_owes.result
has c =
    sym (c.row_owes.ensures ∙ ap (λ (o : code.Obligation). any (same_stored o) (row_set c.args.rows.now (c.args.first + c.args.n) 0)) c.obligation_at.ensures)

pub held-preserved : goal.held-preserved
held-preserved c =
    let f = (goal.at.held-preserved c).Else-not-same_set in
    unequal (goal.at.held-preserved c).In-held (other-set _ _ _ _ _ _ 0 (omega arith) (sym (set-misses _ _ _ 0 c.loop-j.j (omega (arith, of-i f)) (has (goal.at.held-preserved c).After-row_owes ∙ c.if-not-row_owes.true))))

pub returns-in-held : goal.returns-in-held
returns-in-held c v e h =
    let f = (goal.at.returns-in-held c).Else-not-same_set in
    let z : row_count (rows f) (i f) 0 ≡ c.loop-j.j = omega (arith, of-i f) in
    it-is (goal.at.returns-in-held c).Else-not-same_stopped (sets f (ap (λ (m : ℕ). below m (has_at (rows f) (x f) (i f) 0)) z ∙ c.loop-j.invariant)) v e h

pub returns : goal.returns
returns c v e h =
    let a = c.args in
    let z : a.n ≡ c.held.k = omega arith in
    let none = none_same a.clocks a.leaders a.precede a.rows.now (a.first + a.n) a.first in
    sym (is_one a.clocks a.leaders a.precede a.rows.now (a.first + a.n) c.requires.0 v e h a.first a.n ∙ ap (λ (m : ℕ). not (none m)) z ∙ ap not c.held.invariant)
