-- One set, then the other.
use Rattle.std.proofs.Common.{◌∙◌, ◌++◌, sym, ap, List, ℕ}
use Rattle.std.proofs.lemmas.List.{append-nil}
use Rattle.records.specs.Lists.{listed_from}
use Rattle.work.specs.Relevant.{flagged}
use Rattle.remainders.specs.Rows.{part_clocks}
use Rattle.lines.proofs.relevant.Laws.{flagged-append}
use Rattle.lines.proofs.relevant.flag_row.Goals as goal

pub returns : goal.returns
unfolding listed_from
returns c =
    let clocks = part_clocks c.args.rows.now c.args.i in
    c.flag_part.ensures
    ∙ ap (flagged (clocks 1)) c.flag_part-owed.ensures
    ∙ sym (flagged-append (clocks 0) (clocks 1) c.args.flags)
    ∙ ap (λ (more : List ℕ). flagged (clocks 0 ++ more) c.args.flags) (sym (append-nil (clocks 1)))
