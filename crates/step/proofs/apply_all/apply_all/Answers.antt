-- What is found, filling by filling. Assumes nothing.
use mathlib.Core.List.{List}
use Rattle.std.specs.Prelude.{Option, None, Some}
use mathlib.Core.Option.{some}
use mathlib.Core.Path.{◌≡◌, sym, ap, ◌∙◌, subst}
use Prim.Native.Nat.{ℕ, ◌-◌}
use native.Mathlib.Omega.{arith}
use lib.Dec.{T}
use Rattle.records.specs.Lists.{listed_from}
use Rattle.records.specs.Sheet.{SheetValue}
use Rattle.tesl.specs.Lists.{all}
use Rattle.tesl.specs.Remainder.{Remainder}
use Rattle.work.specs.View.{used_part}
use Rattle.work.specs.Lines.{small_leads}
use Rattle.work.specs.Fillings.{by_filling}
use Rattle.work.proofs.Listing.{listed_same}
use Rattle.lines.specs.Plan.{Planned}
use Rattle.remainders.specs.Rows.{rows_of, FlagsKept, RowsStay}
use Rattle.step.specs.Apply.{found_in, FewOwedIn, built_rows}
use Rattle.remainders.proofs.rows.Laws.{rows-stay-all, rows-stay-wide, rows-stay-on}
use Rattle.step.proofs.apply.Laws.{held-few, held-row}
use Rattle.step.proofs.apply_all.Laws.{by-filling-same, taken_start, taken-end, taken_more, taken-over}
use Rattle.step.proofs.apply_all.apply_all.Goals as goal
use Rattle.step.proofs.apply_all.apply_all.Goals.{After-apply_filling}

pub loop-i-init : goal.loop-i-init
unfolding listed_from
loop-i-init c =
    let a = c.args in
    record {
      fewer = omega arith;
      stays = rows-stay-all _ _ _;
      small = λ k h. absurd (omega arith);
      flags = λ f. f;
      taken = λ v planned leads. taken_start a.conditions.room v a.conditions.tags (rows_of v a.rows.now a.from a.n) a.list.now a.m;
    }

pub apply_filling-requires : goal.apply_filling-requires
apply_filling-requires c =
    let w = c.loop-i.invariant in
    let p = c.requires in
    record { size = w.stays.size ∙ p.size; sides = p.side; held = p.held; sized = p.sized; fewer = w.fewer; small = λ j h. held-few p.side w.stays (omega (arith, w.fewer)) j (omega (arith, p.held)) (p.small j h); small_found = w.small; ordered = c.gather-f.ensures.ordered; begun = c.gather-f.ensures.few }

-- after a filling
module _ (c : After-apply_filling) where
  abbrev last : List ℕ
  last = c.apply_filling.new.rows

  held : (v : SheetValue) → rows_of v c.loop-i.rows c.args.from c.args.n ≡ rows_of v c.args.rows.now c.args.from c.args.n
  held v =
      let x = c.requires in
      let w = c.loop-i.invariant in
      listed_same c.args.n (λ j h. ap (used_part v) (held-row x.side w.stays (omega (arith, w.fewer)) j (omega (arith, x.held)) (x.small j h)))

  stays : {r : Option ℕ} → c.apply_filling.result ≡ r → RowsStay (45 - c.args.from) (built_rows r) c.args.rows.now last
  stays e =
      let s = c.apply_filling.ensures in
      subst (λ (x : Option ℕ). RowsStay (45 - c.args.from) (built_rows x) c.args.rows.now last) e (rows-stay-on (rows-stay-wide c.loop-i.invariant.stays (built_rows c.apply_filling.result) (omega (arith, s.more))) s.stays)

  flags : FlagsKept c.args.rows.now last
  flags f = c.apply_filling.ensures.flags (c.loop-i.invariant.flags f)

  applied : {r : Option ℕ} → c.apply_filling.result ≡ r → (v : SheetValue) → Planned v c.args.plan c.args.lines.now → T (all small_leads (rows_of v c.args.rows.now c.args.from c.args.n))
      → found_in v r last (45 - c.args.from) ≡ by_filling c.args.conditions.room v c.args.conditions.tags (rows_of v c.args.rows.now c.args.from c.args.n) (some (rows_of v c.loop-i.rows (45 - c.args.from) c.loop-i.live)) c.flags_at.result
  applied g v planned leads =
      let e = c.gather-f.ensures in
      ap (λ (r : Option ℕ). found_in v r last (45 - c.args.from)) (sym g)
      ∙ c.apply_filling.ensures.applied v (e.asked v planned) (subst (λ (rs : List Remainder). T (all small_leads rs)) (sym (held v)) leads)
      ∙ by-filling-same c.args.conditions.room v _ e.tagged (held v) e.ticked

pub returns-in_err-live : goal.returns-in_err-live
returns-in_err-live c =
    let t = (goal.at.returns-in_err-live c).After-apply_filling in
    let a = c.args in
    let was : c.apply_filling.result ≡ None = c.in_err-live.was in
    rw c.from_residual.ensures
    record {
      stays = stays t was;
      small = tt;
      flags = flags t;
      applied = λ v planned leads. taken-over a.conditions.room v a.conditions.tags _ a.list.now a.m c.loop-i.i _ (c.loop-i.invariant.taken v planned leads) (omega arith) c.flags_at.ensures (applied t was v planned leads);
    }

pub loop-i-preserved : goal.loop-i-preserved
loop-i-preserved c =
    let t = (goal.at.loop-i-preserved c).After-apply_filling in
    let a = c.args in
    let was : c.apply_filling.result ≡ Some c.in_ok-live.live = c.in_ok-live.was in
    let few = subst (λ (r : Option ℕ). FewOwedIn r (last t) (45 - a.from)) was c.apply_filling.ensures.small in
    record {
      fewer = few.0;
      stays = stays t was;
      small = few.1;
      flags = flags t;
      taken = λ v planned leads. taken_more a.conditions.room v a.conditions.tags _ a.list.now a.m c.loop-i.i _ (c.loop-i.invariant.taken v planned leads) (omega arith) c.flags_at.ensures (applied t was v planned leads);
    }

pub returns : goal.returns
returns c =
    let a = c.args in
    let w = c.loop-i.invariant in
    record { stays = w.stays; small = (w.fewer, w.small); flags = w.flags; applied = λ v planned leads. taken-end a.conditions.room v a.conditions.tags _ a.list.now a.m c.loop-i.i _ (w.taken v planned leads) (omega arith) }
