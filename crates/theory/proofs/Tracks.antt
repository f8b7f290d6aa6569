-- A monitor that tracks a run tracks it with one more instant, by whatever it found; it tracks none at the opening; and it stays within the limits. Assumes nothing.
use mathlib.Core.List.{List, [], ◌∷◌, ◌++◌}
use mathlib.Core.Option.{Option, none}
use mathlib.Core.Path.{◌≡◌, refl, sym, ◌∙◌, subst}
use Prim.Native.Nat.{ℕ, suc, ◌≤◌}
use native.Mathlib.Omega.{arith}
use lib.Dec.{T}
use lib.IntN.{ℤ}
use lib.ListN.{length-append}
use Rattle.records.specs.Sheet.{SheetValue}
use Rattle.records.specs.Types.{IsInstant}
use Rattle.tesl.specs.Run.{Instant, tags_of}
use Rattle.tesl.specs.Fits.{most_tag}
use Rattle.tesl.specs.Remainder.{Remainder, remainder, same_remainder}
use Rattle.tesl.specs.Answer.{Answer, exhausted, judged, answer_within}
use mathlib.Core.Logic.{◌≢◌}
use Rattle.theory.specs.Step.{last_tags_of, well_formed}
use Rattle.theory.specs.Held.{Held}
use Rattle.theory.specs.Limits.{SheetLimits, ListLimits, HeldLimits}
use Rattle.theory.specs.Tracks.{State, Tracks, state_after, Finding, many, one_more, too-full, every}
use Rattle.theory.proofs.Lists.{last_of-map-snoc}
use Rattle.theory.proofs.Held.{held_start, held-step}
use Rattle.theory.proofs.Answers.{exhausted-stays, exhausted-by-many, exhausted-by-one-more, exhausted-by-owed, answer-next}
use Rattle.theory.proofs.Limits.{held-within, successors-within}
use Rattle.theory.proofs.Opened.{opening-answer}

pub tracks-start : (room : ℕ) → 1 ≤ room → (s : SheetValue) → SheetLimits s → (r : Remainder) → T (same_remainder r (remainder s []))
    → Tracks room s [] (record { instants = 0; last = none; said = judged (r ∷ []); live = r ∷ [] })
tracks-start room one s h r e = record { instants = refl; last = refl; said = sym (opening-answer room one s h r e); live = λ n. held_start s e }

module _ (room : ℕ) (s : SheetValue) (run : List Instant) (i : Instant) (m : State) (h : Tracks room s run m) where
  tracks : {said : Answer} {new : List Remainder} → said ≡ answer_within room s (run ++ (i ∷ [])) → (said ≢ exhausted → Held s (run ++ (i ∷ [])) new)
      → Tracks room s (run ++ (i ∷ [])) (state_after m i said new)
  tracks e f =
      let n = h.instants in
      record { instants = omega (arith, length-append run (i ∷ [])); last = sym (last_of-map-snoc tags_of run i); said = e; live = f }

  -- once exhausted, nothing needs to be found
  pub tracks-exhausted : (new : List Remainder) → m.said ≡ exhausted → Tracks room s (run ++ (i ∷ [])) (state_after m i exhausted new)
  tracks-exhausted new e = tracks (sym (exhausted-stays room s run i (sym h.said ∙ e))) (λ n. absurd (n refl))

  pub tracks-next : T (well_formed s) → m.said ≢ exhausted → {said : Answer} {new : List Remainder} → Finding room s m.last i m.live said new
      → Tracks room s (run ++ (i ∷ [])) (state_after m i said new)
  tracks-next wf n {said} {new} f = by-finding (subst (λ (last : Option (List ℤ)). Finding room s last i m.live said new) h.last f)
    where
      held : Held s run m.live
      held = h.live n

      by-finding : {said : Answer} {new : List Remainder} → Finding room s (last_tags_of run) i m.live said new → Tracks room s (run ++ (i ∷ [])) (state_after m i said new)
      by-finding (many among a c l) = tracks (sym (exhausted-by-many room s wf run i m.live held among a c l)) (λ n. absurd (n refl))
      by-finding (one_more among a c l x t u) = tracks (sym (exhausted-by-one-more room s wf run i m.live held among a c l x t u)) (λ n. absurd (n refl))
      by-finding (too-full x t l) = tracks (sym (exhausted-by-owed room s wf run i m.live held x t l)) (λ n. absurd (n refl))
      by-finding (every {new = new} e l a) =
          let k = held-step s wf run i m.live held new e in
          tracks (sym (answer-next room s run i new (λ e. n (h.said ∙ e)) k l a)) (λ n. k)

-- ---- while it isn't exhausted, what it holds is within the limits
pub tracks-within : (room : ℕ) (s : SheetValue) → SheetLimits s → (run : List Instant) → ListLimits s run → (m : State) → Tracks room s run m → m.said ≢ exhausted
    → HeldLimits most_tag room s.clocks m.instants m.live
tracks-within room s l run r m h n =
    rw h.instants (held-within s l.clocks-below l.values room run m.live r.values (λ e. n (h.said ∙ e)) (h.live n))

-- from any held ones within the limits, whether a run has them or not: what was found stays within them
pub finding-within : (room : ℕ) (s : SheetValue) → SheetLimits s → (last : Option (List ℤ)) (i : Instant) → IsInstant i → (instants : ℕ) {rs new : List Remainder} {said : Answer}
    → HeldLimits most_tag room s.clocks instants rs → Finding room s last i rs said new → said ≢ exhausted → HeldLimits most_tag room s.clocks (suc instants) new
finding-within room s l last i h instants w (many among a c k) n = absurd (n refl)
finding-within room s l last i h instants w (one_more among a c k x t u) n = absurd (n refl)
finding-within room s l last i h instants w (too-full x t k) n = absurd (n refl)
finding-within room s l last i h instants {rs = rs} {new = new} w (every e k o) n =
    record { live = k; owe = o; within = successors-within s l.clocks-below l.values last i h instants rs new (λ x t. subst T (e.these x) t) w.within }
