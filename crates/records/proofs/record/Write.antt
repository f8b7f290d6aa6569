-- What is written where the checks of a value come before the room for its bytes. Assumes nothing.
use mathlib.Core.Path.{◌≡◌, refl, sym, ◌∙◌}
use mathlib.Core.List.{List, [], ◌∷◌, ◌++◌}
use Prim.Native.Nat.{ℕ, ◌≤◌}
use lib.ListN.{length, take, drop}
use lib.Seq.{take_at}
use lib.Dec.{ltb}
use borrow.Author.Tests.{le-ltb}
use Rattle.std.specs.Prelude.{Ok}
use Rattle.records.specs.Outcome.{Outcome, taken, refused, Check, ◌⇒◌, decide}
use Rattle.records.specs.Store.{Wrote, wrote, leaves}
use Rattle.records.proofs.Lists.{Passed, taken-passed, passed-append, decide-passed}

-- the checks of a value, then 10
abbrev pub writing : List Check → List ℕ → List ℕ → Wrote
writing checks bytes buffer = leaves buffer (decide (checks ++ ((ltb (length buffer) (length bytes) ⇒ 10) ∷ [])) bytes)

module _ (checks : List Check) (bytes buffer : List ℕ) where
  pub writes : {b : List ℕ} → bytes ≡ b → Passed checks → length b ≤ length buffer → writing checks bytes buffer ≡ wrote (Ok (length b)) (b ++ drop (length b) buffer)
  writes {b} e p l = rw (e, decide-passed ((ltb (length buffer) (length b) ⇒ 10) ∷ []) b checks p, le-ltb (length buffer) (length b) l)

  -- what was written: the checks passed, and the bytes are at the front
  pub record WroteAll (n : ℕ) : Type 0 where
    pub passed : Passed checks
    pub bytes-there : take n (writing checks bytes buffer).buffer ≡ bytes

  pub wrote-all : {n : ℕ} → (writing checks bytes buffer).answer ≡ taken n → WroteAll n
  wrote-all {n} e = by-outcome (decide (checks ++ ((ltb (length buffer) (length bytes) ⇒ 10) ∷ [])) bytes) refl e
    where
      by-outcome : (o : Outcome (List ℕ)) → decide (checks ++ ((ltb (length buffer) (length bytes) ⇒ 10) ∷ [])) bytes ≡ o → (leaves buffer o).answer ≡ taken n → WroteAll n
      by-outcome (taken xs) f e =
          let t = taken-passed (checks ++ ((ltb (length buffer) (length bytes) ⇒ 10) ∷ [])) f in
          let k : length xs ≡ n = cc in
          record { passed = passed-append checks _ t.0; bytes-there = rw f (take_at xs (drop (length xs) buffer) n k ∙ sym t.1) }
      by-outcome (refused m) f e = cc
