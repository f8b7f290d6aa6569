-- The words from place k to the one before q are zero, the others stay.
use Rattle.std.proofs.Common.{ℕ, ◌≤◌, ◌<◌}
use Rattle.remainders.specs.Rows.{ClearedWords}
use Rattle.remainders.proofs.rows.clear_words.Given as goal

abbrev pub invariant-loop-q : goal.invariant-loop-q
invariant-loop-q l = record { inside : (x : ℕ) → l.k ≤ x → x < l.q → x < l.end; cleared : ClearedWords l.k l.q l.initial.rows l.rows }
