-- The words of each arm are the definition's, and the fields are within their types.
use Rattle.std.proofs.Common.{◌≡◌, rules, ◌∙◌, to_z, of_z, w16}
use Rattle.lines.proofs.line_words.Laws.{words-of}
use Rattle.lines.proofs.line_words.words_of_line.Goals as goal

pub returns-in-Sporadic : goal.returns-in-Sporadic
returns-in-Sporadic c =
    let g = c.in-Sporadic in
    let t : to_z w16 (of_z w16 g.t) ≡ g.t = search rules in
    rw g.is (words-of (search rules) (c.words_by.ensures ∙ rw (c.raw_of.ensures, t)))

pub returns-in-Relation : goal.returns-in-Relation
returns-in-Relation c =
    let g = c.in-Relation in
    let t : to_z w16 (of_z w16 g.p) ≡ g.p = search rules in
    let u : to_z w16 (of_z w16 g.q) ≡ g.q = search rules in
    rw g.is (words-of (search rules) (c.words_by-in-Relation.ensures ∙ rw (c.raw_of-in-Relation.ensures, c.raw_of-in-Relation-2.ensures, t, u)))

pub returns-in-Implies : goal.returns-in-Implies
returns-in-Implies c = rw c.in-Implies.is (words-of (search rules) c.words_by-in-Implies.ensures)

pub returns-in-Excludes : goal.returns-in-Excludes
returns-in-Excludes c = rw c.in-Excludes.is (words-of (search rules) c.words_by-in-Excludes.ensures)

pub returns-in-Delayed : goal.returns-in-Delayed
returns-in-Delayed c = rw c.in-Delayed.is (words-of (search rules) c.words_by-in-Delayed.ensures)

pub returns-in-Weakly : goal.returns-in-Weakly
returns-in-Weakly c = rw c.in-Weakly.is (words-of (search rules) c.words_by-in-Weakly.ensures)

pub returns-in-Strictly : goal.returns-in-Strictly
returns-in-Strictly c = rw c.in-Strictly.is (words-of (search rules) c.words_by-in-Strictly.ensures)

pub returns-in-Kills : goal.returns-in-Kills
returns-in-Kills c = rw c.in-Kills.is (words-of (search rules) c.words_by-in-Kills.ensures)

pub returns-in-Counted : goal.returns-in-Counted
returns-in-Counted c = rw c.in-Counted.is (words-of (search rules) (c.words_by-in-Counted.ensures ∙ rw c.from.ensures))
