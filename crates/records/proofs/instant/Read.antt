-- What a match on the answer of reading an instant tells of its outcome, and where the tags then stand in the struct. Assumes nothing.
use mathlib.Core.List.{List, map}
use mathlib.Core.Path.{◌≡◌, refl, sym, ap, ◌∙◌}
use Prim.Native.Nat.{ℕ}
use lib.ListN.{length, take, length-map}
use lib.Seq.{take-append_seam}
use Rattle.std.specs.Prelude.{Result, Ok, Err}
use Rattle.records.specs.declared.instant.Instant.{Instant}
use Rattle.records.specs.declared.refusal.Refusal.{Refusal}
use Rattle.records.specs.Outcome.{Outcome, taken, refused, outcome_of}
use Rattle.records.specs.Refusal.{refusal_number}
use Rattle.records.specs.Lists.{filled}
use Rattle.records.specs.Instant.{InstantValue, instant_of, instant_read}
use Rattle.records.proofs.Lists.{refused-same, taken-same}

-- what was read is a struct's value, or refused with a number
pub number-refused : (o : Outcome InstantValue) {n : ℕ} → refused n ≡ instant_read o → o ≡ refused n
number-refused (taken v) e = cc
number-refused (refused k) e = ap refused (sym (refused-same e))

-- x is what reading gave
pub read-refused : (o : Outcome InstantValue) {x : Result Instant Refusal} → outcome_of x ≡ instant_read o → {e : Refusal} → x ≡ Err e → o ≡ refused (refusal_number e)
read-refused o h q = number-refused o (sym (ap outcome_of q) ∙ h)

pub record Read (o : Outcome InstantValue) (i : Instant) : Type 0 where
  pub value : InstantValue
  pub is : o ≡ taken value
  pub struct : i ≡ instant_of value

pub read_done : (o : Outcome InstantValue) {x : Result Instant Refusal} → outcome_of x ≡ instant_read o → {i : Instant} → x ≡ Ok i → Read o i
read_done o {x} h {i} q = by-outcome o (sym (ap outcome_of q) ∙ h)
  where
    by-outcome : (o : Outcome InstantValue) → taken i ≡ instant_read o → Read o i
    by-outcome (taken v) e = record { value = v; is = refl; struct = taken-same e }
    by-outcome (refused n) e = cc

-- the places in use of an array that reading filled
pub places-in-use : {A B : Type 0} (f : A → B) (d : B) (n : ℕ) (xs : List A) → length xs ≡ n → take n (filled 8 d (map f xs)) ≡ map f xs
places-in-use f d n xs e =
    let k : n ≡ length (map f xs) = sym e ∙ sym (length-map xs f) in
    rw k (take-append_seam (map f xs) _)
