-- Numbered instants, of the calls for C and Rust: which calls were accepted is read off the results, and these are the machine's. Assumes nothing.
use mathlib.Core.List.{List, [], ◌∷◌, ◌++◌}
use mathlib.Core.Path.{◌≡◌, refl, subst}
use Prim.Native.Nat.{ℕ, ◌%◌}
use native.Mathlib.Omega.{arith}
use lib.ListN.{length}
use Rattle.records.specs.Outcome.{Outcome, taken, refused}
use Rattle.records.specs.Sheet.{SheetValue}
use Rattle.tesl.specs.Run.{Instant}
use Rattle.tesl.specs.Answer.{Answer, answer}
use Rattle.tesl.specs.Machine.{accepts, list_after, reply, machine}
use Rattle.theory.specs.Numbered.{AcceptedFrom}
use Rattle.theory.proofs.Numbered.{along}
use Rattle.gateway.specs.Live.{result_code, packed_replies, LiftAcceptedFrom, LiftNumbered}
use Rattle.gateway.proofs.Live.{lift-demand3}

-- an answer has no number of a refusal beside it
answer-number : (a : Answer) (n : ℕ) → result_code (taken a) n % 256 ≡ 0
answer-number a n = omega arith

accepted-from : (all : List Instant) (s : SheetValue) (run : List Instant) (calls : List (List ℕ)) → LiftAcceptedFrom all s.clocks calls (packed_replies s run calls)
    → AcceptedFrom all s.clocks calls (machine s run calls)
unfolding packed_replies machine
accepted-from all s run [] f = tt
accepted-from all s run (bytes ∷ calls) f = by-outcome (accepts s run bytes) (accepted-from all s (list_after run (accepts s run bytes)) calls) f
  where
    by-outcome : (o : Outcome Instant) → (LiftAcceptedFrom all s.clocks calls (packed_replies s (list_after run o) calls) → AcceptedFrom all s.clocks calls (machine s (list_after run o) calls))
        → LiftAcceptedFrom all s.clocks (bytes ∷ calls) (result_code (reply s run o) (length (list_after run o)) ∷ packed_replies s (list_after run o) calls)
        → AcceptedFrom all s.clocks (bytes ∷ calls) (reply s run o ∷ machine s (list_after run o) calls)
    by-outcome (refused n) rest f = rest f.1
    by-outcome (taken i) rest f = (f.0 (answer-number (answer s (run ++ (i ∷ []))) (length (run ++ (i ∷ [])))), rest f.1)

pub lift-numbered : LiftNumbered
lift-numbered all sheet calls r s e from =
    let k = (lift-demand3 sheet calls r).reads s e in
    record {
      beginning = along all s [] calls (accepted-from all s [] calls (subst (LiftAcceptedFrom all s.clocks calls) k.results from)) (all, refl);
      follows = (r.last, refl, k.follows);
    }
