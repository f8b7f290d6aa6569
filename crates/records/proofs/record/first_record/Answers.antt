-- The first record of some bytes: a law for each answer. Assumes nothing.
use mathlib.Core.Path.{sym, ◌∙◌}
use Rattle.records.proofs.record.Laws.{torn-short, torn-body, whole-front}
use Rattle.records.proofs.record.first_record.Goals as goal

pub returns-then-b-lt-HEAD_LENGTH : goal.returns-then-b-lt-HEAD_LENGTH
returns-then-b-lt-HEAD_LENGTH c = sym (torn-short _ c.if-b-lt-HEAD_LENGTH.true)

pub returns-then-b-len : goal.returns-then-b-len
returns-then-b-len c = sym (torn-body _ (c.from-len.ensures ∙ c.word_at.ensures) c.if-b-len.true)

pub returns : goal.returns
returns c = sym (whole-front _ c.if-b-lt-HEAD_LENGTH.false (c.from-len.ensures ∙ c.word_at.ensures) c.if-b-len.false c.word_at-2.ensures)
