-- The machine's answers to a log: how many there are and how large they get, what they come to, and their bytes; and the instants that it takes. Assumes nothing.
use mathlib.Core.List.{List, [], ◌∷◌, ◌++◌, map, append_assoc, append-nil}
use mathlib.Core.Path.{◌≡◌, refl, sym, ap, ◌∙◌}
use Prim.Native.Nat.{ℕ, suc, ◌+◌, ◌*◌, ◌%◌, ◌≤◌}
use native.Mathlib.Omega.{arith}
use native.Mathlib.Nat.{add-zero}
use lib.ListN.{length, length-append}
use Rattle.records.specs.Outcome.{Outcome, taken, refused}
use Rattle.records.specs.Sheet.{SheetValue}
use Rattle.records.specs.Types.{All}
use Rattle.tesl.specs.Lists.{flat_map}
use Rattle.tesl.specs.Run.{Instant}
use Rattle.tesl.specs.Answer.{Answer, exhausted, broken, holding, most_live, answer}
use Rattle.records.proofs.Lists.{refused-taken}
use Rattle.tesl.specs.Machine.{accepts, list_after, reply, machine, list_after_calls, accepts_each, concluded}
use Rattle.theory.proofs.Answers.{holding-few}
use Rattle.theory.proofs.Accepted.{taken_next}
use Rattle.logs.specs.Entry.{live_code, before_refusal, entry, stored_entry}

-- ---- live is at most 32

pub live_small : (s : SheetValue) (run : List Instant) → live_code (answer s run) ≤ 32
live_small s run = by_answer (answer s run) refl
  where
    by_answer : (a : Answer) → answer s run ≡ a → live_code a ≤ 32
    by_answer exhausted e = omega arith
    by_answer broken e = omega arith
    by_answer (holding n standing) e = holding-few most_live s run e

-- ---- the answers to a list of calls

-- each
pub answers-small : (s : SheetValue) (run : List Instant) (calls : List (List ℕ)) → All (λ (a : Answer). live_code a ≤ 32) (before_refusal (machine s run calls))
unfolding machine
answers-small s run [] = tt
answers-small s run (bytes ∷ calls) = by-outcome (accepts s run bytes) (λ run'. answers-small s run' calls)
  where
    by-outcome : (o : Outcome Instant) → ((run' : List Instant) → All (λ (a : Answer). live_code a ≤ 32) (before_refusal (machine s run' calls)))
        → All (λ (a : Answer). live_code a ≤ 32) (before_refusal (reply s run o ∷ machine s (list_after run o) calls))
    by-outcome (taken i) ih = (live_small s (run ++ (i ∷ [])), ih (run ++ (i ∷ [])))
    by-outcome (refused n) ih = tt

-- fewer than 4,000 are held where a call is taken
pub answers-few : (s : SheetValue) (run : List Instant) (calls : List (List ℕ)) → length run ≤ 4000 → length run + length (before_refusal (machine s run calls)) ≤ 4000
unfolding machine
answers-few s run [] h = omega arith
answers-few s run (bytes ∷ calls) h = by-outcome (accepts s run bytes) refl (λ run' l. answers-few s run' calls l)
  where
    by-outcome : (o : Outcome Instant) → accepts s run bytes ≡ o
        → ((run' : List Instant) → length run' ≤ 4000 → length run' + length (before_refusal (machine s run' calls)) ≤ 4000)
        → length run + length (before_refusal (reply s run o ∷ machine s (list_after run o) calls)) ≤ 4000
    by-outcome (refused n) e ih = omega arith
    by-outcome (taken i) e ih =
        let r = (taken_next s run bytes e).next.room in
        let l = length-append run (i ∷ []) in
        let k = ih (run ++ (i ∷ [])) (omega arith) in
        omega arith

-- ---- what they come to

pub concluded-count : (o : Outcome Answer) (n : ℕ) (replies : List (Outcome Answer)) → (concluded o n replies).instants ≡ n + length (before_refusal replies)
concluded-count o n [] = sym (add-zero n)
concluded-count o n (taken a ∷ replies) = concluded-count (taken a) (suc n) replies ∙ omega arith
concluded-count o n (refused m ∷ replies) = sym (add-zero n)

-- ---- the instants taken

module _ (s : SheetValue) (run : List Instant) where
  -- an instant that is answered is one of them
  pub instants-more : (o : Outcome Instant) {a : Answer} → reply s run o ≡ taken a → (later : List (Outcome Instant)) → run ++ before_refusal (o ∷ later) ≡ list_after run o ++ before_refusal later
  instants-more (taken i) e later = sym (append_assoc run (i ∷ []) (before_refusal later))
  instants-more (refused n) e later = refused-taken e

  -- a refused one ends them
  pub instants-refused : (o : Outcome Instant) {n : ℕ} → reply s run o ≡ refused n → (later : List (Outcome Instant)) → run ++ before_refusal (o ∷ later) ≡ list_after run o
  instants-refused (taken i) e later = refused-taken (sym e)
  instants-refused (refused n) e later = append-nil run

-- where the calls come to an answer, the machine's list is all of them
pub instants-all : (s : SheetValue) (run : List Instant) (calls : List (List ℕ)) (o : Outcome Answer) (n : ℕ) {a : Answer}
    → (concluded o n (machine s run calls)).outcome ≡ taken a → run ++ before_refusal (accepts_each s run calls) ≡ list_after_calls s run calls
unfolding machine accepts_each list_after_calls
instants-all s run [] o n e = append-nil run
instants-all s run (bytes ∷ calls) o n {a} e = by-outcome (accepts s run bytes) (λ run' o' n'. instants-all s run' calls o' n') e
  where
    by-outcome : (x : Outcome Instant)
        → ((run' : List Instant) (o' : Outcome Answer) (n' : ℕ) → (concluded o' n' (machine s run' calls)).outcome ≡ taken a → run' ++ before_refusal (accepts_each s run' calls) ≡ list_after_calls s run' calls)
        → (concluded o n (reply s run x ∷ machine s (list_after run x) calls)).outcome ≡ taken a
        → run ++ before_refusal (x ∷ accepts_each s (list_after run x) calls) ≡ list_after_calls s (list_after run x) calls
    by-outcome (taken i) ih e = sym (append_assoc run (i ∷ []) _) ∙ ih (run ++ (i ∷ [])) _ (suc n) e
    by-outcome (refused n) ih e = refused-taken e

-- ---- answers said before others

-- the last of them, or what was said before
abbrev pub last_said : Outcome Answer → List Answer → Outcome Answer
last_said o [] = o
last_said o (a ∷ said) = last_said (taken a) said

pub last_snoc : (o : Outcome Answer) (said : List Answer) (a : Answer) → last_said o (said ++ (a ∷ [])) ≡ taken a
last_snoc o [] a = refl
last_snoc o (b ∷ said) a = last_snoc (taken b) said a

pub concluded-said : (o : Outcome Answer) (n : ℕ) (said : List Answer) (replies : List (Outcome Answer))
    → concluded o n (map taken said ++ replies) ≡ concluded (last_said o said) (n + length said) replies
concluded-said o n [] replies = rw add-zero
concluded-said o n (a ∷ said) replies =
    let k : suc n + length said ≡ n + suc (length said) = omega arith in
    concluded-said (taken a) (suc n) said replies ∙ rw k

pub answers-said : (said : List Answer) (replies : List (Outcome Answer)) → before_refusal (map taken said ++ replies) ≡ said ++ before_refusal replies
answers-said [] replies = refl
answers-said (a ∷ said) replies = ap (λ (others : List Answer). a ∷ others) (answers-said said replies)

-- ---- their bytes

pub length-entries : (said : List Answer) → length (flat_map entry said) ≡ 3 * length said
length-entries [] = refl
length-entries (a ∷ said) = omega (arith, length-entries said)

pub entries-snoc : (said : List Answer) (a : Answer) → flat_map entry (said ++ (a ∷ [])) ≡ flat_map entry said ++ entry a
entries-snoc [] a = refl
entries-snoc (b ∷ said) a = ap (λ (bytes : List ℕ). entry b ++ bytes) (entries-snoc said a)

-- a small live count fits its byte
pub entry-fits : (a : Answer) → live_code a ≤ 32 → stored_entry a ≡ entry a
entry-fits a h = let e : live_code a % 256 ≡ live_code a = omega arith in rw e
