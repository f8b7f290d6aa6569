-- Numbered instants: a call is accepted only with the number after those held, so calls whose accepted records are from one list, each numbered by its place, run along that list. Assumes nothing.
use mathlib.Core.List.{List, [], ◌∷◌, ◌++◌}
use mathlib.Core.Option.{Option}
use mathlib.Core.Path.{◌≡◌, refl, sym, ap, ◌∙◌, subst}
use Prim.Native.Nat.{ℕ, suc, ◌<◌}
use native.Mathlib.Omega.{arith}
use lib.ListN.{length, get_or}
use Rattle.records.specs.declared.form.Form.TheVariants.{Numbered}
use Rattle.records.specs.Outcome.{Outcome, taken, refused}
use Rattle.records.specs.Sheet.{SheetValue}
use Rattle.records.specs.Instant.{InstantValue}
use Rattle.records.specs.Next.{is_next}
use Rattle.records.proofs.Lists.{taken-same}
use Rattle.records.proofs.next.Laws.{next-number}
use Rattle.tesl.specs.Run.{Instant}
use Rattle.tesl.specs.Machine.{accepts, list_after, reply, machine, list_after_calls, Session, Reader, session}
use Rattle.theory.specs.Session.{SameSession}
use Rattle.theory.specs.Numbered.{RecordOf, AcceptedFrom, IsBeginning, RunsAlong}
use Rattle.theory.proofs.Accepted.{taken_next}

-- ---- a beginning, and the next of its list

longer : (run rest : List Instant) → length run < length (run ++ rest) → IsBeginning (run ++ (get_or (run ++ rest) (length run) [] ∷ [])) (run ++ rest)
longer [] [] l = absurd (omega arith)
longer [] (i ∷ rest) l = (rest, refl)
longer (j ∷ run) rest l =
    let r = longer run rest (omega arith) in
    (r.0, ap (λ (is : List Instant). j ∷ is) r.1)

beginning-longer : (lift run : List Instant) → IsBeginning run lift → length run < length lift → IsBeginning (run ++ (get_or lift (length run) [] ∷ [])) lift
beginning-longer lift run b l =
    subst (λ (is : List Instant). IsBeginning (run ++ (get_or is (length run) [] ∷ [])) is) b.1 (longer run b.0 (rw (← b.1) at l))

-- ---- a call

-- an accepted one of the list is the next of it
accepted-next : (lift : List Instant) (s : SheetValue) (run : List Instant) (bytes : List ℕ) {i : Instant} → accepts s run bytes ≡ taken i → RecordOf lift s.clocks bytes
    → IsBeginning run lift → IsBeginning (run ++ (i ∷ [])) lift
accepted-next lift s run bytes {i} e r b =
    let t = taken_next s run bytes e in
    let same : t.value ≡ record { form = Numbered (suc r.0); cells = get_or lift r.0 [] } = taken-same (sym t.next.read ∙ r.2) in
    let n : suc r.0 ≡ suc (length run) = next-number (length run) (suc r.0) (sym (ap (λ (v : InstantValue). is_next (length run) v.form) same) ∙ t.next.next) in
    let k : r.0 ≡ length run = omega arith in
    let c : get_or lift (length run) [] ≡ i = ap (λ (n : ℕ). get_or lift n []) (sym k) ∙ sym (ap (λ (v : InstantValue). v.cells) same) ∙ t.cells in
    subst (λ (j : Instant). IsBeginning (run ++ (j ∷ [])) lift) c (beginning-longer lift run b (omega (arith, r.1)))

-- ---- a list of calls

pub along : (lift : List Instant) (s : SheetValue) (run : List Instant) (calls : List (List ℕ)) → AcceptedFrom lift s.clocks calls (machine s run calls) → IsBeginning run lift
    → IsBeginning (list_after_calls s run calls) lift
unfolding machine list_after_calls
along lift s run [] from b = b
along lift s run (bytes ∷ calls) from b = by-outcome (accepts s run bytes) refl (along lift s (list_after run (accepts s run bytes)) calls) from
  where
    by-outcome : (o : Outcome Instant) → accepts s run bytes ≡ o
        → (AcceptedFrom lift s.clocks calls (machine s (list_after run o) calls) → IsBeginning (list_after run o) lift → IsBeginning (list_after_calls s (list_after run o) calls) lift)
        → AcceptedFrom lift s.clocks (bytes ∷ calls) (reply s run o ∷ machine s (list_after run o) calls) → IsBeginning (list_after_calls s (list_after run o) calls) lift
    by-outcome (refused n) e rest f = rest f b
    by-outcome (taken i) e rest f = rest f.1 (accepted-next lift s run bytes e f.0 b)

-- of a monitor of any kind that answers what the machine answers
pub runs-along : {M : Type 0} {read : Reader} {Follows : SheetValue → List Instant → M → Type 0} (lift : List Instant) {sheet : List ℕ} {calls : List (List ℕ)} {answered : Session} {last : Option M}
    → SameSession read Follows sheet calls answered last → (s : SheetValue) → read sheet ≡ taken s → AcceptedFrom lift s.clocks calls answered.replies → RunsAlong Follows lift s calls last
unfolding session
runs-along {read = read} lift {sheet = sheet} {calls = calls} same s e from =
    let told = ap (λ (t : Session). t.replies) same.same in
    let replies : (session read sheet calls).replies ≡ machine s [] calls = rw e in
    record {
      beginning = along lift s [] calls (subst (AcceptedFrom lift s.clocks calls) (told ∙ replies) from) (lift, refl);
      follows = same.follows s e;
    }
