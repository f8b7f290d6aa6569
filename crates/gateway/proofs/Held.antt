-- A monitor within its limits holds at most 32 remainders and 4,000 instants, so what it says has room in a result. Assumes nothing.
use Rattle.std.specs.Prelude.{None, Some}
use Rattle.std.specs.declared.option.Option as option
use mathlib.Core.Bool.{true}
use mathlib.Core.List.{List, [], ◌∷◌}
use mathlib.Core.Option.{Option, none, some}
use mathlib.Core.Path.{◌≡◌}
use Prim.Native.Nat.{ℕ, zero, suc, ◌≤◌}
use native.Mathlib.Omega.{arith}
use lib.Dec.{leb, leb→le}
use lib.ListN.{length, take, length-map}
use Rattle.records.proofs.Lists.{both}
use Rattle.tesl.specs.Remainder.{Remainder}
use Rattle.tesl.specs.Answer.{judged}
use Rattle.tesl.proofs.Tests.{≡→T}
use Rattle.work.specs.View.{held_list}
use Rattle.judge.specs.declared.monitor.Monitor.{Monitor}
use Rattle.remainders.specs.View.{view_of, held_in}
use Rattle.judge.specs.Answer.{said_by}
use Rattle.logs.specs.Entry.{live_code}
use Rattle.judge.specs.Limits.{sheet_within, held_within, monitor_within}
use Rattle.judge.specs.Monitor.{sheet_by, held_by}
use Rattle.panel.proofs.Laws.{within_held}

take-most : {A : Type 0} (n : ℕ) (xs : List A) → length (take n xs) ≤ n
take-most zero xs = omega arith
take-most (suc n) [] = omega arith
take-most (suc n) (x ∷ xs) = omega (arith, take-most n xs)

-- no more than are counted
said-live : (h : Option (List Remainder)) → live_code (said_by h) ≤ length (held_list h)
unfolding judged
said-live none = omega arith
said-live (some []) = omega arith
said-live (some (r ∷ rs)) = omega arith

module _ (m : Monitor) (e : monitor_within m ≡ true) where
  pub held-few : length (held_list (held_by m)) ≤ 32
  unfolding held_within
  held-few = by_count m.held.count (within_held m e)
    where
      by_count : (c : option.Option ℕ) → held_within (sheet_by m) m.instants c m.held.remainders ≡ true → length (held_list (held_in (sheet_by m) c m.held.remainders)) ≤ 32
      by_count None h = omega arith
      by_count (Some n) h = omega (arith, leb→le n 32 (≡→T (both (leb n 32) h).0), take-most n m.held.remainders, length-map (take n m.held.remainders) (view_of (sheet_by m)))

  pub said-few : live_code (said_by (held_by m)) ≤ 32
  said-few = omega (arith, said-live (held_by m), held-few)

  pub instants-few : m.instants ≤ 4000
  unfolding monitor_within
  instants-few = leb→le m.instants 4000 (≡→T (both (leb m.instants 4000) (both (sheet_within (sheet_by m)) e).1).0)
