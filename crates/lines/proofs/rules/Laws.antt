-- The implies, excludes and kills lines: where they stand, and three of their six words. Assumes nothing.
use mathlib.Core.List.{List}
use mathlib.Core.Path.{◌≡◌}
use Prim.Native.Nat.{ℕ, ◌+◌, ◌*◌}
use Rattle.records.specs.declared.line.Line.{Line}
use Rattle.remainders.specs.Word.{byte_in, number_in}
use Rattle.lines.specs.declared.rules.Rule.{Rule}
use Rattle.lines.specs.LineWords.{words_at}
use Rattle.lines.specs.Plan.{line_width, plan_line, rules_from, RuleWords}

-- rule i
abbrev pub rule_in : List ℕ → ℕ → Line
rule_in lines i = plan_line lines (rules_from + i)

-- three of its six words
pub rule-words : (lines : List ℕ) (j : ℕ) (r : Rule) → r.kind ≡ number_in (words_at lines (line_width * j)).kind → r.a ≡ byte_in (words_at lines (line_width * j)).a
    → r.b ≡ byte_in (words_at lines (line_width * j)).b → RuleWords lines j r
rule-words lines j r e f g =
    let w = words_at lines (line_width * j) in
    record { d = byte_in w.d; x = number_in w.x; y = number_in w.y; line = rw (e, f, g) }
