-- Demand 3 as one statement about the list of calls: a monitor of any kind whose single calls follow the plain machine answers what the machine answers, opening and every call, and its last monitor follows the machine's list.
-- And what holds of the machine's answer for every run on the scale holds of each answer of its session. Assumes nothing.
use mathlib.Core.List.{List, [], ◌∷◌, ◌++◌}
use mathlib.Core.Option.{Option, none, some}
use mathlib.Core.Path.{◌≡◌, refl, sym, ap, ◌∙◌, subst}
use Prim.Native.Nat.{ℕ}
use native.Mathlib.Omega.{arith}
use Rattle.records.specs.Outcome.{Outcome, taken, refused}
use Rattle.records.specs.Sheet.{SheetValue}
use Rattle.records.proofs.Lists.{refused-taken}
use Rattle.tesl.specs.Run.{Instant}
use Rattle.tesl.specs.Fits.{most_tag}
use Rattle.tesl.specs.Answer.{Answer, answer}
use Rattle.tesl.specs.Machine as tesl
use Rattle.tesl.specs.Machine.{accepts, list_after, reply, machine, list_after_calls, Session, Reader, session}
use Rattle.theory.specs.Limits.{OnScale}
use Rattle.theory.specs.Session.{OpenedMonitor, Calls, no_call, call, Ran, not_opened, opened, Opening, refuses, opens, FollowsMachine, SameSession, last_answer, ReplyTo, EachReply, Answered, EachAnswer}
use Rattle.theory.proofs.Scale.{list-scale}

module _ {M : Type 0} (read : Reader) (Opens : List ℕ → Outcome (OpenedMonitor M) → Type 0) (Observes : M → List ℕ → Outcome Answer → M → Type 0)
    (Follows : SheetValue → List Instant → M → Type 0) (laws : FollowsMachine read Opens Observes Follows) where
  same-replies : (s : SheetValue) (run : List Instant) {m last : M} {calls : List (List ℕ)} {replies : List (Outcome Answer)}
      → Follows s run m → Calls Observes m calls replies last → (replies ≡ machine s run calls) × Follows s (list_after_calls s run calls) last
  unfolding machine list_after_calls
  same-replies s run f no_call = (refl, f)
  same-replies s run f (call {m = m} {m' = m'} {bytes = bytes} {given = given} o cs) =
      let k = laws.observing s run m m' bytes given f o in
      let r = same-replies s (list_after run (accepts s run bytes)) k.follows cs in
      (λ i. k.same i ∷ r.0 i, r.1)

  pub same-session : {sheet : List ℕ} {calls : List (List ℕ)} {answered : Session} {last : Option M}
      → Ran Opens Observes sheet calls answered last → SameSession read Follows sheet calls answered last
  unfolding session
  same-session {sheet = sheet} {calls = calls} (not_opened {n = n} o) = by-opening (laws.opening sheet (refused n) o)
    where
      by-opening : Opening read Follows sheet (refused n) → SameSession read Follows sheet calls (record { opening = refused n; replies = [] }) none
      by-opening (refuses e) = record { same = rw e; follows = λ s f. let z : ◌≡◌ {A = ℕ} 0 1 = cc in absurd (omega arith) }
  same-session {sheet = sheet} {calls = calls} (opened {o = o} {replies = replies} {last = last} p cs) = by-opening (laws.opening sheet (taken o) p)
    where
      by-opening : Opening read Follows sheet (taken o) → SameSession read Follows sheet calls (record { opening = taken o.said; replies = replies }) (some last)
      by-opening (opens {s = s} e a h) =
          let r = same-replies s [] h cs in
          record {
            same = rw (e, a, r.0);
            follows = λ t f.
                let q : s ≡ t = cc in
                (last, refl, subst (λ (v : SheetValue). Follows v (list_after_calls v [] calls) last) q r.1);
          }

-- the last answer of a list of calls is for the instants then held
last-held : (s : SheetValue) (run : List Instant) (calls : List (List ℕ)) → last_answer (answer s run) (machine s run calls) ≡ answer s (list_after_calls s run calls)
unfolding machine list_after_calls
last-held s run [] = refl
last-held s run (bytes ∷ calls) = by-outcome (accepts s run bytes) (last-held s (list_after run (accepts s run bytes)) calls)
  where
    by-outcome : (o : Outcome Instant) → last_answer (answer s (list_after run o)) (machine s (list_after run o) calls) ≡ answer s (list_after_calls s (list_after run o) calls)
        → last_answer (answer s run) (reply s run o ∷ machine s (list_after run o) calls) ≡ answer s (list_after_calls s (list_after run o) calls)
    by-outcome (refused n) h = h
    by-outcome (taken i) h = h

module _ (P : SheetValue → List Instant → Answer → Type 0) (holds : (s : SheetValue) (run : List Instant) → OnScale most_tag run → P s run (answer s run)) where
  each-reply : (s : SheetValue) (run : List Instant) → OnScale most_tag run → (calls : List (List ℕ)) → EachReply P s run calls (machine s run calls)
  unfolding machine
  each-reply s run on [] = tt
  each-reply s run on (bytes ∷ calls) =
      let after = list-scale s run bytes on in
      (one (accepts s run bytes) after, each-reply s (list_after run (accepts s run bytes)) after calls)
    where
      one : (o : Outcome Instant) → OnScale most_tag (list_after run o) → ReplyTo P s run o (reply s run o)
      one (refused n) on = refl
      one (taken i) on = (answer s (run ++ (i ∷ [])), refl, holds s (run ++ (i ∷ [])) on)

  list-on-scale : (s : SheetValue) (run : List Instant) → OnScale most_tag run → (calls : List (List ℕ)) → OnScale most_tag (list_after_calls s run calls)
  unfolding list_after_calls
  list-on-scale s run on [] = on
  list-on-scale s run on (bytes ∷ calls) = list-on-scale s (list_after run (accepts s run bytes)) (list-scale s run bytes on) calls

  pub each-answer : (read : Reader) (sheet : List ℕ) (calls : List (List ℕ)) → EachAnswer P read sheet calls (session read sheet calls)
  unfolding session
  each-answer read sheet calls = by_read (read sheet) refl
    where
      by_read : (o : Outcome SheetValue) → read sheet ≡ o → EachAnswer P read sheet calls (tesl.opened_with calls o)
      by_read (refused n) e = record { refuses = λ m f. let q : n ≡ m = cc in ap (λ (k : ℕ). record { opening = refused k; replies = [] }) q; reads = λ s f. refused-taken (sym e ∙ f) }
      by_read (taken s) e = record {
        refuses = λ m f. refused-taken (sym f ∙ e);
        reads = λ t f.
            let q : s ≡ t = cc in
            subst (λ (v : SheetValue). Answered P v calls (record { opening = taken (answer s []); replies = machine s [] calls })) q (record {
              first = answer s [];
              opening = (refl, holds s [] tt);
              replies = each-reply s [] tt calls;
              last = subst (P s (list_after_calls s [] calls)) (sym (last-held s [] calls)) (holds s (list_after_calls s [] calls) (list-on-scale s [] tt calls));
            });
      }
