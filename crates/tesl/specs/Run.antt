-- Runs and their fillings. A run is a list of instants, oldest first; an instant is a cell, tick and tag, for each clock.
use Rattle.std.specs.Prelude.{Bool, true, false, List, [], ◌∷◌, ◌++◌, map, ℕ, ℤ, pos, get_or}
use Rattle.records.specs.declared.instant.Tick.{Tick}
use Rattle.records.specs.declared.instant.Tick.TheVariants.{Idle, Ticks, Unseen}
use Rattle.records.specs.Instant.{Cell}
use Rattle.tesl.specs.Lists.{flat_map}

-- an instant, as reading gives it: only the clocks in use
abbrev pub Instant : Type 0
Instant = List Cell

abbrev pub ticks_of : Instant → List Tick
ticks_of i = map (λ (c : Cell). c.tick) i

abbrev pub tags_of : Instant → List ℤ
tags_of i = map (λ (c : Cell). c.tag) i

-- an instant of a filled run: each tick is idle (false) or tick (true)
pub record Filled : Type 0 where
  pub ticks : List Bool
  pub tags : List ℤ

-- clock k ticks; its tag
abbrev pub ticks_at : Filled → ℕ → Bool
ticks_at f k = get_or f.ticks k false

abbrev pub tag_in : List ℤ → ℕ → ℤ
tag_in tags k = get_or tags k (pos 0)

abbrev pub tag_at : Filled → ℕ → ℤ
tag_at f k = tag_in f.tags k

-- a filling of the clocks from k on settles clock k and then the clocks from k + 1; beyond the last clock there is one, the empty filling
abbrev pub fill_ticks : List Tick → List (List Bool)
fill_ticks [] = [] ∷ []
fill_ticks (Idle ∷ ts) = map (λ (r : List Bool). false ∷ r) (fill_ticks ts)
fill_ticks (Ticks ∷ ts) = map (λ (r : List Bool). true ∷ r) (fill_ticks ts)
fill_ticks (Unseen ∷ ts) = map (λ (r : List Bool). false ∷ r) (fill_ticks ts) ++ map (λ (r : List Bool). true ∷ r) (fill_ticks ts)

unfoldable pub fillings : Instant → List Filled
fillings i = map (λ (b : List Bool). record { ticks = b; tags = tags_of i }) (fill_ticks (ticks_of i))

-- the filled runs of a run: every combination of fillings of its instants
unfoldable pub run_fillings : List Instant → List (List Filled)
run_fillings [] = [] ∷ []
run_fillings (i ∷ is) = flat_map (λ (f : Filled). map (λ (r : List Filled). f ∷ r) (run_fillings is)) (fillings i)
