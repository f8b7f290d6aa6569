-- What the monitor's work on an instant has found: some of the successors; and every one once, or a reason to answer exhausted, where each remainder held has an obligation once and a countdown once. Assumes nothing.
use mathlib.Core.Bool.{Bool, not}
use mathlib.Core.List.{List}
use mathlib.Core.Option.{Option, none, some}
use mathlib.Core.Path.{◌≡◌, ◌∙◌, subst}
use Prim.Native.Nat.{ℕ, ◌≤◌}
use lib.Dec.{T}
use lib.IntN.{ℤ, pos}
use lib.ListN.{length}
use Rattle.records.specs.Lists.{filled}
use Rattle.records.specs.Types.{All}
use Rattle.records.specs.Sheet.{SheetValue}
use Rattle.tesl.specs.Lists.{any}
use Rattle.tesl.specs.Run.{Instant, ticks_of, tags_of, fillings}
use Rattle.tesl.specs.Remainder.{Remainder, same_remainder, overfull}
use Rattle.tesl.specs.Answer.{exhausted}
use Rattle.theory.specs.Sets.{Covers, EachOnce}
use Rattle.theory.specs.Held.{successors}
use Rattle.theory.specs.Tracks.{Finding}
use Rattle.theory.proofs.Members.{of-each}
use Rattle.work.specs.View.{tags_before}
use Rattle.work.specs.Work.{worked}
use Rattle.work.proofs.Padded.{last_in}
use Rattle.work.proofs.Counted.{Once}
use Rattle.work.proofs.Gather.{Gathered, Gathering}
use Rattle.work.proofs.Apply.{reached, reached-are, worked-gathers}

-- a remainder of c clocks as the arrays have it
pub record Shaped (c : ℕ) (r : Remainder) : Type 0 where
  pub clocks : length r.stopped ≡ c
  pub owed : length r.owed ≤ 8
  pub countdowns : length r.countdowns ≤ 8

-- each has an obligation once, and a countdown
abbrev pub Proper : List Remainder → Type 0
Proper rs = All Once rs

pub record Every (room : ℕ) (v : SheetValue) (last : Option (List ℤ)) (i : Instant) (rs new : List Remainder) : Type 0 where
  pub once : EachOnce same_remainder new (successors v last i rs)
  pub live : length new ≤ room
  pub owe : T (not (any overfull new))
  pub proper : Proper new

module _ (room : ℕ) (v : SheetValue) (first : Bool) (was : List ℤ) (i : Instant) (size : length i ≤ 8) (rs : List Remainder) (shaped : All (Shaped v.clocks) rs) where
  gathered : {q : Option (List Remainder)} → worked room v (tags_before first was) (ticks_of i) (filled 8 (pos 0) (tags_of i)) (some rs) ≡ q
      → Gathering room v (last_in v first was) i rs (reached v (last_in v first was) rs (fillings i)) q
  gathered e =
      subst (Gathering room v (last_in v first was) i rs (reached v (last_in v first was) rs (fillings i))) e
      (worked-gathers room v first was i size rs (λ r m. let h = of-each (Shaped v.clocks) shaped m in (h.clocks, h.owed, h.countdowns)))

  -- whether a run has rs or not
  pub worked-among : {new : List Remainder} → worked room v (tags_before first was) (ticks_of i) (filled 8 (pos 0) (tags_of i)) (some rs) ≡ some new
      → Covers same_remainder new (successors v (last_in v first was) i rs)
  worked-among e = (gathered e).among

  pub worked-every : {new : List Remainder} → Proper rs → worked room v (tags_before first was) (ticks_of i) (filled 8 (pos 0) (tags_of i)) (some rs) ≡ some new
      → Every room v (last_in v first was) i rs new
  worked-every {new} p e =
      let g : Gathered room v (last_in v first was) i rs (reached v (last_in v first was) rs (fillings i)) new = gathered e in
      record {
        once = record { each-once = (g.once p).each-once; these = λ x. (g.once p).these x ∙ reached-are v (last_in v first was) i rs x };
        live = g.live;
        owe = g.owe;
        proper = g.tidy p;
      }

  pub worked-none : {new : List Remainder} → Proper rs → worked room v (tags_before first was) (ticks_of i) (filled 8 (pos 0) (tags_of i)) (some rs) ≡ none
      → Finding room v (last_in v first was) i rs exhausted new
  worked-none {new} p e = gathered e p new
