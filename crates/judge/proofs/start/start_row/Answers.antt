-- `start_row`: a line that owes nothing, one whose obligation is added, and one for which there is no room. Assumes nothing.
use Rattle.std.proofs.Common.{◌≡◌, ◌∙◌, ◌+◌, ℕ, ◌<◌, Bool, not, List, [], ◌∷◌, map, sym, ap, arith, None, Option, Some}
use Rattle.records.specs.declared.line.Line.{Line}
use Rattle.records.specs.declared.sheet.Sheet.{Sheet}
use Rattle.records.specs.Sheet.{line_at}
use Rattle.tesl.specs.Fits.{Obligation, owed_at_start}
use Rattle.theory.specs.Adding.{added_to}
use Rattle.tesl.specs.Remainder.{same_obligation}
use Rattle.work.specs.Owed.{added_all}
use Rattle.remainders.specs.declared.obligation.Obligation as code
use Rattle.remainders.specs.View.{obligation_of}
use Rattle.lines.specs.Begun.{new_obligation}
use Rattle.remainders.specs.Rows.{row_owed, provided, AddedRow}
use Rattle.remainders.proofs.obligation.Laws.{same_read}
use Rattle.remainders.proofs.rows.Reading.{added-row-read}
use Rattle.step.proofs.advance.Adding.{rest_end, rest_over, rest_more}
use Rattle.lines.proofs.delays.Laws.{begun_from, begun-start, begun-end, begun-line}
use Rattle.remainders.proofs.rows.Laws.{stays_all, stays_on}
use Rattle.judge.proofs.start.start_row.Goals as goal

-- what a line owes, as the list of it
abbrev owed_by : Option code.Obligation → List Obligation
owed_by b = map obligation_of (new_obligation b)

pub loop-j-init : goal.loop-j-init
loop-j-init c =
    let a = c.args in
    record { few = c.requires.few; added = ap (λ (os : List Obligation). added_all os (row_owed a.rows.now a.i)) (begun-start owed_at_start (line_at a.s) a.s.count); stays = stays_all _ _ _ _ }

pub add_row-requires : goal.add_row-requires
add_row-requires c = record { size = c.loop-j.invariant.stays.size ∙ c.requires.size; row = c.requires.row; few = c.loop-j.invariant.few }

pub loop-j-preserved-in_default : goal.loop-j-preserved-in_default
loop-j-preserved-in_default c =
    let s = c.args.s in
    let w = c.loop-j.invariant in
    let e : c.owed_at_start.result ≡ None = c.in_default.is in
    record {
      few = w.few;
      added = w.added ∙ ap (λ (os : List Obligation). added_all os (row_owed c.loop-j.rows c.args.i)) (begun-line owed_at_start (line_at s) s.count c.loop-j.j (omega arith) c.line_at.ensures [] (sym (ap owed_by e) ∙ c.owed_at_start.ensures));
      stays = w.stays;
    }

-- ---- an obligation added
begins : (s : Sheet) (j : ℕ) → j < s.count → {l : Line} → l ≡ line_at s j → {b : Option code.Obligation} → owed_by b ≡ owed_at_start l → {o : code.Obligation} → b ≡ Some o
    → begun_from owed_at_start (line_at s) s.count j ≡ obligation_of o ∷ begun_from owed_at_start (line_at s) s.count (j + 1)
begins s j h e f {o} g = begun-line owed_at_start (line_at s) s.count j h e (obligation_of o ∷ []) (sym (ap owed_by g) ∙ f)

-- the row's obligations, read
added : {i : ℕ} {o : code.Obligation} {r : Bool} {a b : List ℕ} → AddedRow i 0 o r a b → provided r (row_owed b i) ≡ added_to same_obligation 8 (row_owed a i) (obligation_of o)
added r = added-row-read obligation_of same_obligation same_read r

pub returns-then-not-add_row : goal.returns-then-not-add_row
returns-then-not-add_row c =
    let r = c.add_row.ensures in
    let w = c.loop-j.invariant in
    record { stays = stays_on w.stays r.stays; owed = rest_over _ _ _ w.added (begins c.args.s c.loop-j.j (omega arith) c.line_at.ensures c.owed_at_start.ensures c.in-Some.is) c.add_row.result (row_owed c.add_row.new.rows c.args.i) (added r) (ap not c.if-not-add_row.true); few = r.few }

pub loop-j-preserved : goal.loop-j-preserved
loop-j-preserved c =
    let r = c.add_row.ensures in
    let w = c.loop-j.invariant in
    record { few = r.few; added = rest_more _ _ _ w.added (begins c.args.s c.loop-j.j (omega arith) c.line_at.ensures c.owed_at_start.ensures c.in-Some.is) c.add_row.result (row_owed c.add_row.new.rows c.args.i) (added r) (ap not c.if-not-add_row.false); stays = stays_on w.stays r.stays }

pub returns : goal.returns
returns c =
    let s = c.args.s in
    let w = c.loop-j.invariant in
    record { stays = w.stays; owed = rest_end _ _ _ w.added (begun-end owed_at_start (line_at s) s.count c.loop-j.j (omega arith)); few = w.few }
