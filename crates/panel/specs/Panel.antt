-- Which entries owe a clock a tick, how many of a list do, and what a monitor's panel shows.
use Rattle.std.specs.Prelude.{Bool, not, ◌&&◌, ◌||◌, List, [], ◌∷◌, ℕ, eqb, take, None, Option, Some}
use Rattle.records.specs.Outcome.{Outcome, ◌⇒◌, decide}
use Rattle.tesl.specs.Lists.{any, count}
use Rattle.tesl.specs.Fits.{Obligation, Countdown}
use Rattle.tesl.specs.Remainder.{Remainder}
use Rattle.remainders.specs.declared.obligation.Obligation as code
use Rattle.remainders.specs.declared.remainder.Remainder as arrays
use Rattle.judge.specs.declared.monitor.Monitor.{Monitor}
use Rattle.remainders.specs.View.{few_owed, remainder_of}
use Rattle.judge.specs.Limits.{monitor_within}

-- one of its obligations, or of its countdowns, is a tick of the clock
abbrev pub owes_clock : ℕ → Remainder → Bool
owes_clock clock r = any (λ (o : Obligation). eqb o.clock clock) r.owed || any (λ (c : Countdown). eqb c.clock clock) r.countdowns

-- one of the first n of an entry's array is a tick of the clock
abbrev pub owes_in : ℕ → ℕ → List code.Obligation → Bool
owes_in clock n owed = any (λ (o : code.Obligation). eqb o.clock clock) (take n owed)

-- an entry with more than 8 of either adds nothing
abbrev pub entry_owes : ℕ → arrays.Remainder → Bool
entry_owes clock r = few_owed r && owes_clock clock (remainder_of r)

unfoldable pub owing_count : ℕ → List arrays.Remainder → ℕ
owing_count clock list = count (entry_owes clock) list

-- the entries held: none once exhausted; none where 0 are live, which is broken
abbrev pub live_entries : Option ℕ → List arrays.Remainder → List arrays.Remainder
live_entries None rs = []
live_entries (Some n) rs = take n rs

-- 11: monitor outside its limits
unfoldable pub panel_count : ℕ → Monitor → Outcome ℕ
panel_count clock m = decide ((not (monitor_within m) ⇒ 11) ∷ []) (owing_count clock (live_entries m.held.count m.held.remainders))
