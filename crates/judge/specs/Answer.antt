-- The cases of an answer as document 01's: what the monitor says, with live and clear or owed, or the number of a refusal.
use Rattle.std.specs.Prelude.{cond, List, Result}
use Rattle.std.proofs.Math.Option.{Option, none, some}
use Rattle.records.specs.declared.refusal.Refusal.{Refusal}
use Rattle.records.specs.Outcome.{Outcome, kept_as, outcome_of}
use Rattle.tesl.specs.Remainder.{Remainder}
use Rattle.tesl.specs.Answer.{Answer, exhausted, broken, holding, clear, owed, judged}
use Rattle.judge.specs.declared.answer.Answer as code
use Rattle.judge.specs.declared.answer.Answer.TheVariants as answer

abbrev pub answer_of : code.Answer → Answer
answer_of answer.Exhausted = exhausted
answer_of answer.Broken = broken
answer_of (answer.Holding live is_clear) = holding live (cond is_clear clear owed)

abbrev pub reply_of : Result code.Answer Refusal → Outcome Answer
reply_of reply = kept_as answer_of (outcome_of reply)

-- what those held say; `none` once exhausted
abbrev pub said_by : Option (List Remainder) → Answer
said_by none = exhausted
said_by (some rs) = judged rs
