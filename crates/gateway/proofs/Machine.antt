-- What a log comes to has room in a result: live is at most 32, and the instants at most 4,000. Assumes nothing.
use mathlib.Core.Bool.{Bool, true, false, cond}
use mathlib.Core.List.{List, [], ◌∷◌}
use mathlib.Core.Path.{◌≡◌, refl}
use Prim.Native.Nat.{ℕ, suc, ◌≤◌}
use native.Mathlib.Omega.{arith}
use lib.Dec.{ltb}
use lib.ListN.{length}
use Rattle.records.specs.Outcome.{Outcome, taken, refused}
use Rattle.records.specs.Sheet.{SheetValue, read_sheet}
use Rattle.records.specs.Types.{All}
use Rattle.tesl.specs.Answer.{Answer, answer}
use Rattle.tesl.specs.Machine.{machine, session, concluded, calls_of, judge_log}
use Rattle.logs.specs.Entry.{live_code, before_refusal}
use Rattle.logs.specs.Log.{entries, Watched, watch_log}
use Rattle.logs.proofs.log.Answers.{live_small, answers-small, answers-few, concluded-count}
use Rattle.gateway.specs.Result.{unless_refused}
use Rattle.gateway.specs.Inner.{Packable}

concluded-live : (o : Outcome Answer) (n : ℕ) (replies : List (Outcome Answer)) → unless_refused live_code o ≤ 32
    → All (λ (a : Answer). live_code a ≤ 32) (before_refusal replies) → unless_refused live_code (concluded o n replies).outcome ≤ 32
concluded-live o n [] h all = h
concluded-live o n (taken a ∷ replies) h all = concluded-live (taken a) (suc n) replies all.0 all.1
concluded-live o n (refused m ∷ replies) h all = omega arith

pub judged-small : (sheet log : List ℕ) → Packable (judge_log sheet log)
unfolding judge_log session
judged-small sheet log = by_read (read_sheet sheet) refl
  where
    by_read : (o : Outcome SheetValue) → read_sheet sheet ≡ o → Packable (judge_log sheet log)
    by_read (refused n) e = rw e record { live = omega arith; count = omega arith }
    by_read (taken s) e =
        let calls = calls_of log in
        let n = concluded-count (taken (answer s [])) 0 (machine s [] calls) in
        let k = answers-few s [] calls (omega arith) in
        rw e
        record {
          live = concluded-live (taken (answer s [])) 0 (machine s [] calls) (live_small s []) (answers-small s [] calls);
          count = omega arith;
        }

-- with every answer in a buffer, too
pub watched-small : (sheet log out : List ℕ) → Packable (watch_log sheet log out).result
unfolding watch_log
watched-small sheet log out = by-test (ltb (length out) (length (entries sheet log))) _
  where
    by-test : (b : Bool) (w : List ℕ) → Packable (cond {A = Watched} b (record { result = record { outcome = refused 10; instants = (judge_log sheet log).instants }; buffer = out }) (record { result = judge_log sheet log; buffer = w })).result
    by-test true w = record { live = omega arith; count = (judged-small sheet log).count }
    by-test false w = judged-small sheet log
