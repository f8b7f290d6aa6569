-- An accepted instant: what the work found is what theory asks of a finding, so the monitor stays within its limits, and follows the longer run of each run that it followed. Assumes nothing.
use mathlib.Core.Bool.{Bool, true, cond}
use mathlib.Core.List.{List, [], ◌∷◌, ◌++◌}
use mathlib.Core.Logic.{◌≢◌}
use mathlib.Core.Option.{Option, none, some}
use mathlib.Core.Path.{◌≡◌, refl, sym, ap, ◌∙◌, subst}
use Prim.Native.Nat.{ℕ, suc, ◌≤◌, ◌<◌}
use native.Mathlib.Omega.{arith}
use lib.Dec.{T, eqb, eqb-suc-zero}
use lib.IntN.{ℤ, pos}
use lib.ListN.{length, take}
use Rattle.records.specs.declared.sheet.Sheet.{Sheet}
use Rattle.records.specs.declared.instant.Tick.TheVariants.{Idle}
use Rattle.records.specs.Lists.{filled}
use Rattle.records.specs.Outcome.{taken}
use Rattle.records.specs.Sheet.{SheetValue, sheet_value}
use Rattle.records.specs.Instant.{Cell, InstantValue, instant_of}
use Rattle.records.proofs.instant.Read.{places-in-use}
use Rattle.records.specs.Types.{All, IsInstant}
use Rattle.tesl.specs.Lists.{all}
use Rattle.tesl.specs.Run.{Instant, ticks_of, tags_of}
use Rattle.tesl.specs.Fits.{most_tag}
use Rattle.tesl.specs.Remainder.{Remainder, same_remainder}
use Rattle.tesl.specs.Answer.{exhausted, judged, most_live}
use Rattle.theory.specs.Sets.{Covers}
use Rattle.theory.specs.Held.{successors}
use Rattle.theory.specs.Limits.{SheetLimits, within_limits}
use Rattle.theory.specs.Tracks.{Tracks, Finding, every}
use Rattle.theory.proofs.Limits.{successors-within}
use Rattle.theory.proofs.Tracks.{tracks-exhausted, tracks-next}
use Rattle.work.specs.View.{held_list, tags_before, seen_of}
use Rattle.work.specs.Work.{worked}
use Rattle.work.proofs.Found.{Shaped, Proper, Every, worked-among, worked-every, worked-none}
use Rattle.judge.specs.declared.monitor.Monitor.{Monitor}
use Rattle.records.specs.declared.refusal.Refusal.{Refusal}
use Rattle.judge.specs.declared.monitor.CallResult.{CallResult}
use Rattle.judge.specs.Answer.{said_by}
use Rattle.judge.specs.Limits.{sheet_within, monitor_within}
use Rattle.judge.specs.Monitor.{sheet_by, held_by, last_by, Accepts}
use Rattle.judge.specs.Promises.{Follows, Accepted}
use Rattle.judge.proofs.monitor.Limits.{Limits, within-limits}

-- ---- what the work makes of those held, found or not

judged-short : (rs : List Remainder) → judged rs ≢ exhausted
unfolding judged
judged-short [] e = let z : ◌≡◌ {A = ℕ} 0 1 = cc in omega arith
judged-short (r ∷ rs) e = let z : ◌≡◌ {A = ℕ} 0 1 = cc in omega arith

-- with room for so many
module _ (room : ℕ) where
  -- of those held before and after: nothing is asked once exhausted
  Works : SheetValue → Option (List ℤ) → Instant → Option (List Remainder) → Option (List Remainder) → Type 0
  Works v last i none after = after ≡ none
  Works v last i (some rs) none = Proper rs → Finding room v last i rs exhausted []
  Works v last i (some rs) (some new) = Covers same_remainder new (successors v last i rs) × (Proper rs → Every room v last i rs new)

  works : (v : SheetValue) (first : Bool) (was : List ℤ) (i : Instant) → length i ≤ 8 → (h after : Option (List Remainder)) → All (Shaped v.clocks) (held_list h)
      → worked room v (tags_before first was) (ticks_of i) (filled 8 (pos 0) (tags_of i)) h ≡ after → Works v (cond first none (some (take v.clocks was))) i h after
  unfolding worked Works
  works v first was i size none after s e = sym e
  works v first was i size (some rs) none s e = λ p. worked-none room v first was i size rs s p e
  works v first was i size (some rs) (some new) s e = (worked-among room v first was i size rs s e, λ p. worked-every room v first was i size rs s p e)

  -- ---- the answer and those held after it

  proper-after : (v : SheetValue) (last : Option (List ℤ)) (i : Instant) (h after : Option (List Remainder)) → Works v last i h after → Proper (held_list h) → Proper (held_list after)
  unfolding Works
  proper-after v last i none after w p = rw w tt
  proper-after v last i (some rs) none w p = tt
  proper-after v last i (some rs) (some new) w p = (w.1 p).proper

  every-found : {v : SheetValue} {last : Option (List ℤ)} {i : Instant} {rs new : List Remainder} → Every room v last i rs new → Finding room v last i rs (judged new) new
  every-found e = every e.once e.live e.owe

  views_after : (v : SheetValue) → SheetLimits v → (last : Option (List ℤ)) (i : Instant) → IsInstant i → (n : ℕ) (h after : Option (List Remainder)) → Works v last i h after
      → T (all (within_limits most_tag v.clocks n) (held_list h)) → T (all (within_limits most_tag v.clocks (suc n)) (held_list after))
  unfolding Works
  views_after v l last i value n none after w b = rw w tt
  views_after v l last i value n (some rs) none w b = tt
  views_after v l last i value n (some rs) (some new) w b = successors-within v l.clocks-below l.values last i value n rs new w.0 b

  tracks-after : (v : SheetValue) → SheetLimits v → (run : List Instant) (n : ℕ) (last : Option (List ℤ)) (i : Instant) (h after : Option (List Remainder)) → Works v last i h after → Proper (held_list h)
      → Tracks room v run (record { instants = n; last = last; said = said_by h; live = held_list h })
      → Tracks room v (run ++ (i ∷ [])) (record { instants = suc n; last = some (tags_of i); said = said_by after; live = held_list after })
  unfolding Works
  tracks-after v l run n last i none after w p t = rw w (tracks-exhausted room v run i _ t [] refl)
  tracks-after v l run n last i (some rs) none w p t = tracks-next room v run i _ t l.clocks-below (judged-short rs) (w p)
  tracks-after v l run n last i (some rs) (some new) w p t = tracks-next room v run i _ t l.clocks-below (judged-short rs) (every-found (w.1 p))

-- ---- the instant that was read

seen_of-law : (c : ℕ) (v : InstantValue) → length v.cells ≡ c → seen_of c (instant_of v).ticks ≡ ticks_of v.cells
seen_of-law c v e =
    places-in-use (λ (x : Cell). x.tick) Idle c v.cells e

-- ---- the monitor after it

module _ (m : Monitor) (l : Limits m) (sheet : T (sheet_within (sheet_by m))) (room : m.instants < 4000)
    (v : InstantValue) (value : IsInstant v.cells) (size : length v.cells ≡ m.sheet.clocks) (r : CallResult Refusal) (a : Accepts most_live m (instant_of v) r)
    (shaped : All (Shaped m.sheet.clocks) (held_list (held_by m))) where
  -- its ticks and tags
  abbrev i : Instant
  i = v.cells

  found : Works most_live (sheet_by m) (last_by m) i (held_by m) (held_by r.monitor)
  found = works most_live (sheet_by m) (eqb m.instants 0) m.tags i (let c = l.sheet.clocks-most in omega arith) (held_by m) (held_by r.monitor) shaped
      (rw (← seen_of-law m.sheet.clocks v size) (sym a.held))

  same-sheet : sheet_by r.monitor ≡ sheet_by m
  same-sheet = ap sheet_value a.sheet

  limits-after : monitor_within r.monitor ≡ true
  limits-after = within-limits r.monitor (rw a.sheet sheet) (let n = a.instants in omega arith) a.fits
      (subst (λ (s : Sheet). T (all (within_limits most_tag s.clocks r.monitor.instants) (held_list (held_by r.monitor)))) (sym a.sheet)
      (subst (λ (n : ℕ). T (all (within_limits most_tag m.sheet.clocks n) (held_list (held_by r.monitor)))) (sym a.instants)
      (views_after most_live (sheet_by m) l.sheet (last_by m) i value m.instants (held_by m) (held_by r.monitor) found l.views)))

  last-after : last_by r.monitor ≡ some (tags_of i)
  last-after = rw (a.sheet, a.instants, a.tags, eqb-suc-zero m.instants) (ap some (places-in-use (λ (c : Cell). c.tag) (pos 0) m.sheet.clocks i size))

  follows-after : (run : List Instant) → Follows (sheet_by m) run m → Follows (sheet_by m) (run ++ (i ∷ [])) r.monitor
  follows-after run f =
      let t = tracks-after most_live (sheet_by m) l.sheet run m.instants (last_by m) i (held_by m) (held_by r.monitor) found f.once-each
      (record { instants = f.instants; last = f.last; said = f.said; live = f.held }) in
      record {
        sheet = same-sheet;
        instants = a.instants ∙ t.instants;
        last = last-after ∙ t.last;
        said = t.said;
        held = t.live;
        once-each = proper-after most_live (sheet_by m) (last_by m) i (held_by m) (held_by r.monitor) found f.once-each;
        limits = limits-after;
      }

  pub accepted : Accepted m i r
  accepted = record {
    answers = a.said;
    limits = limits-after;
    follows = λ s run f.
        let g = follows-after run (subst (λ (w : SheetValue). Follows w run m) (sym f.sheet) f) in
        let k = subst (λ (w : SheetValue). Follows w (run ++ (i ∷ [])) r.monitor) f.sheet g in
        (a.said ∙ ap taken k.said, k);
  }
