-- `put_obligations`: an obligation stored, and the count that goes with them. Assumes nothing.
use Rattle.std.proofs.Common.{◌≡◌, ◌*◌, ◌∙◌, refl, sym, length, arith, rules, add-one}
use Rattle.std.proofs.Math.Seq.{take-suc}
use Rattle.records.specs.Lists.{listed_from}
use Rattle.remainders.specs.View.{blank_obligation}
use Rattle.remainders.specs.Rows.{part_words, part_number, all_words}
use Rattle.remainders.proofs.rows.Laws.{part-inside, stays_all, stays_put, stays_wide, stays_on, set_next, set-put, count-put}
use Rattle.judge.proofs.stored.put_obligations.Goals as goal

pub loop-j-init : goal.loop-j-init
unfolding listed_from
loop-j-init c = record { places = refl; stays = stays_all _ _ _ _ }

pub put_obligation-requires : goal.put_obligation-requires
put_obligation-requires c = let l : length c.loop-j.rows ≡ all_words = c.loop-j.invariant.stays.size ∙ c.requires.0.size in search rules

pub loop-j-preserved : goal.loop-j-preserved
loop-j-preserved c =
    let p = c.put_obligation.ensures in
    let w = c.loop-j.invariant in
    record {
      places = set_next p (omega arith) ∙ rw (w.places, add-one) (sym (take-suc _ c.loop-j.j blank_obligation (omega arith)));
      stays = stays_on w.stays (stays_wide p.stays _ _ (omega arith) (omega arith));
    }

pub returns : goal.returns
returns c =
    let n = c.args.n in
    let e : c.loop-j.j ≡ n = omega arith in
    let long : length c.loop-j.rows ≡ all_words = c.loop-j.invariant.stays.size ∙ c.requires.0.size in
    let row = c.requires.0.row in
    rw (c.put_word.ensures, c.start.ensures, c.count_word.ensures)
    record {
      stays = stays_put c.loop-j.invariant.stays (part_words * (part_number c.args.part)) n (omega arith) (omega arith) (omega (arith, part-inside c.args.part));
      count = count-put c.loop-j.rows c.args.i (part_number c.args.part) n long row (part-inside c.args.part);
      set = set-put c.loop-j.rows c.args.i (part_number c.args.part) n long row (part-inside c.args.part) c.requires.1 ∙ rw e at c.loop-j.invariant.places;
    }
