-- The ways to a return are the cases of what is worked. Assumes nothing.
use Rattle.std.specs.Prelude.{Option, None, Some}
use mathlib.Core.Bool.{false}
use mathlib.Core.List.{List}
use mathlib.Core.Path.{◌≡◌, ap, ◌∙◌, subst}
use Prim.Native.Nat.{ℕ, ◌-◌, ◌≤◌}
use native.Mathlib.Omega.{arith}
use lib.Dec.{T}
use lib.ListN.{replicate}
use borrow.Author.Tests.{ne_eqb}
use Rattle.records.specs.Sheet.{SheetValue}
use Rattle.tesl.specs.Lists.{all}
use Rattle.work.specs.View.{held_list}
use Rattle.work.specs.Lines.{small_leads}
use Rattle.work.specs.Relevant.{flagged}
use Rattle.work.proofs.Listed.{at-most-256, few-listed}
use Rattle.remainders.specs.Rows.{rows_clocks, rows_of, FewOwed, RowsStay}
use Rattle.step.specs.Apply.{FewOwedIn, found_in, built_rows}
use Rattle.step.specs.Fill.{worked_rows}
use Rattle.remainders.proofs.rows.Laws.{rows-stay-all}
use Rattle.step.proofs.fill.Instant.{work-exhausted, work-broken, work-no, work-yes}
use Rattle.step.proofs.fill.work_rows.Goals as goal
use Rattle.step.proofs.fill.work_rows.Goals.{then-n-eq0-via-then-n-eq0, then-n-eq0-via-else-n-eq0+then-not-tags_fit}

-- where some are held, the rows that nothing was built in stay
worked-stays : {count : Option ℕ} {n : ℕ} → count ≡ Some n → (n ≡ 0 → ⊥) → (r : Option ℕ) {first : ℕ} {a b : List ℕ} → RowsStay first (built_rows r) a b → RowsStay first (worked_rows count r) a b
worked-stays {n = n} e f r s = rw (e, ne_eqb n 0 f) s

-- those held
module _ {count : Option ℕ} {n : ℕ} (e : count ≡ Some n) (rows : List ℕ) (from : ℕ) where
  small-held : FewOwedIn count rows from → (n ≤ 32) × FewOwed rows from n
  small-held = subst (λ (r : Option ℕ). FewOwedIn r rows from) e

  leads-held : (v : SheetValue) → T (all small_leads (held_list (found_in v count rows from))) → T (all small_leads (rows_of v rows from n))
  leads-held v = subst (λ (r : Option ℕ). T (all small_leads (held_list (found_in v r rows from)))) e

pub returns-in_err-n : goal.returns-in_err-n
returns-in_err-n c =
    let a = c.args in
    let was : a.count ≡ None = c.in_err-n.was in
    rw c.from_residual.ensures
    record { stays = rows-stay-all _ _ _; small = tt; flags = λ f. f; lists = c.requires.0.lists; works = λ v planned leads. work-exhausted a.before.room v _ _ _ a.count a.rows.now a.from was }

pub returns-then-n-eq0 : goal.returns-then-n-eq0
returns-then-n-eq0 c =
    let a = c.args in
    let was : a.count ≡ Some c.in_ok-n.n = c.in_ok-n.was in
    record {
      stays = rows-stay-all _ _ _;
      small = (omega arith, λ j l. absurd (omega arith));
      flags = λ f. f;
      lists = c.requires.0.lists;
      works = λ v planned leads. elim c.then-n-eq0.branch [
        | then-n-eq0-via-then-n-eq0 w ↦ work-broken a.before.room v _ _ _ a.count a.rows.now a.from was w.if-n-eq0.true a.rows.now (45 - a.from)
        | then-n-eq0-via-else-n-eq0+then-not-tags_fit w ↦ work-no a.before.room v _ _ _ a.count a.rows.now a.from was w.if-n-eq0.false planned.as_many planned.relations w.tags_fit.ensures w.if-not-tags_fit.true a.rows.now (45 - a.from)
      ];
    }

pub fill-m-requires : goal.fill-m-requires
fill-m-requires c =
    let p = c.args.plan in
    record { size = c.requires.0.lists; few-clocks = p.few_clocks; few-rules = p.few_rules; clock = omega arith; room = at-most-256 c.flag_rows-flags.result c.args.instant.ticks p.clocks (replicate 8 false) p.few_clocks }

pub apply_all-requires : goal.apply_all-requires
apply_all-requires c =
    let x = c.requires.0 in
    let small = small-held c.in_ok-n.was c.args.rows.now c.args.from x.small in
    record { size = x.size; side = x.side; held = small.0; sized = c.requires.1; small = small.1; few = few-listed c.flag_rows-flags.result c.args.instant.ticks c.args.plan.clocks (replicate 8 false) c.args.plan.few_clocks c.fill-m.ensures.fewer }

pub returns : goal.returns
returns c =
    let a = c.args in
    let was : a.count ≡ Some c.in_ok-n.n = c.in_ok-n.was in
    let r = c.apply_all.ensures in
    record {
      stays = worked-stays was c.if-n-eq0.false c.apply_all.result r.stays;
      small = r.small;
      flags = r.flags;
      lists = c.fill-m.ensures.size;
      works = λ v planned long. work-yes a.before.room v _ _ _ a.count a.rows.now a.from was c.if-n-eq0.false planned.as_many planned.relations c.tags_fit.ensures c.if-not-tags_fit.false
          (c.flag_rows-flags.ensures ∙ ap (flagged (rows_clocks a.rows.now a.from c.in_ok-n.n)) planned.named) planned.rules a.list.now c.fill-m.ensures.listed (r.applied v planned (leads-held was a.rows.now a.from v long));
    }
