-- The filled runs of a run that `run_fillings` lists are those that `Fills` tells, and the fitting ones are those that pass the test. Assumes nothing.
use mathlib.Core.Bool.{Bool, true, false}
use mathlib.Core.List.Memᴰ
use mathlib.Core.List.{List, [], ◌∷◌, map, Memᴰ}
use mathlib.Core.Logic.{◌↔◌, ⊎_elim}
use mathlib.Core.Path.{◌≡◌, refl, sym, ap, subst}
use lib.Dec.{T}
use Rattle.records.specs.declared.instant.Tick.{Tick}
use Rattle.records.specs.declared.instant.Tick.TheVariants.{Idle, Ticks, Unseen}
use Rattle.records.specs.Sheet.{SheetValue}
use Rattle.tesl.specs.Lists.{filter}
use Rattle.tesl.specs.Run.{Instant, ticks_of, tags_of, Filled, fill_ticks, fillings, run_fillings}
use Rattle.tesl.specs.Fits.{most_tag, fits}
use Rattle.tesl.specs.Formula.{NoneFalls, EachHolds}
use Rattle.theory.specs.Limits.{OnScale}
use Rattle.theory.specs.Said.{Along, TickAs, FillsInstant, Fills, Fitting}
use Rattle.tesl.proofs.Formula.{fits-holds}
use Rattle.theory.proofs.Scale.{filled-scale}
use Rattle.theory.proofs.Members.{mem-flat_map, of-flat_map, mem-filter, of-filter}

-- ---- the fillings of a run are those listed

fill-ticks : (ts : List Tick) (bs : List Bool) → Along TickAs ts bs → Memᴰ bs (fill_ticks ts)
fill-ticks [] [] h = Memᴰ.head refl
fill-ticks [] (b ∷ bs) h = absurd h
fill-ticks (t ∷ ts) [] h = absurd h
fill-ticks (Idle ∷ ts) (b ∷ bs) h = Memᴰ.cast (ap (λ (c : Bool). c ∷ bs) h.0) (Memᴰ.map (λ (r : List Bool). false ∷ r) (fill-ticks ts bs h.1))
fill-ticks (Ticks ∷ ts) (b ∷ bs) h = Memᴰ.cast (ap (λ (c : Bool). c ∷ bs) h.0) (Memᴰ.map (λ (r : List Bool). true ∷ r) (fill-ticks ts bs h.1))
fill-ticks (Unseen ∷ ts) (false ∷ bs) h =
    Memᴰ.append_left (map (λ (r : List Bool). true ∷ r) (fill_ticks ts)) (Memᴰ.map (λ (r : List Bool). false ∷ r) (fill-ticks ts bs h.1))
fill-ticks (Unseen ∷ ts) (true ∷ bs) h =
    Memᴰ.append_right (map (λ (r : List Bool). false ∷ r) (fill_ticks ts)) (Memᴰ.map (λ (r : List Bool). true ∷ r) (fill-ticks ts bs h.1))

-- the first tick settled as b
headed : (t : Tick) (b : Bool) → TickAs t b → (ts : List Tick) (bs : List Bool) → ((cs : List Bool) → Memᴰ cs (fill_ticks ts) → Along TickAs ts cs)
    → Memᴰ bs (map (λ (r : List Bool). b ∷ r) (fill_ticks ts)) → Along TickAs (t ∷ ts) bs
headed t b h ts bs later m = let r = Memᴰ.of_map (λ (r : List Bool). b ∷ r) (fill_ticks ts) m in subst (Along TickAs (t ∷ ts)) r.2 (h, later r.0 r.1)

ticks-filled : (ts : List Tick) (bs : List Bool) → Memᴰ bs (fill_ticks ts) → Along TickAs ts bs
ticks-filled [] bs m = subst (Along TickAs []) (sym (Memᴰ.eq_of_singleton m)) tt
ticks-filled (Idle ∷ ts) bs m = headed Idle false refl ts bs (ticks-filled ts) m
ticks-filled (Ticks ∷ ts) bs m = headed Ticks true refl ts bs (ticks-filled ts) m
ticks-filled (Unseen ∷ ts) bs m =
    ⊎_elim (headed Unseen false tt ts bs (ticks-filled ts)) (headed Unseen true tt ts bs (ticks-filled ts))
    (Memᴰ.append_cases (map (λ (r : List Bool). false ∷ r) (fill_ticks ts)) m)

filled_of : Instant → List Bool → Filled
filled_of i b = record { ticks = b; tags = tags_of i }

instant-listed : (i : Instant) (f : Filled) → Memᴰ f (fillings i) ↔ FillsInstant i f
unfolding fillings filled_of
instant-listed i f = (
  λ m. let r = Memᴰ.of_map (filled_of i) (fill_ticks (ticks_of i)) m in subst (FillsInstant i) r.2 (record { tags = refl; ticks = ticks-filled (ticks_of i) r.0 r.1 }),
  λ h. Memᴰ.cast (λ j. record { ticks = f.ticks; tags = h.tags j }) (Memᴰ.map (filled_of i) (fill-ticks (ticks_of i) f.ticks h.ticks)),
)

pub fills-listed : (run : List Instant) (f : List Filled) → Memᴰ f (run_fillings run) ↔ Fills run f
unfolding run_fillings
fills-listed run f = (fills run f, listed run f)
  where
    after : List Instant → Filled → List (List Filled)
    after run g = map (λ (r : List Filled). g ∷ r) (run_fillings run)

    fills : (run : List Instant) (f : List Filled) → Memᴰ f (run_fillings run) → Fills run f
    fills [] f m = subst (Fills []) (sym (Memᴰ.eq_of_singleton m)) tt
    fills (i ∷ run) f m =
        let r = of-flat_map (after run) (fillings i) m in
        let q = Memᴰ.of_map (λ (w : List Filled). r.0 ∷ w) (run_fillings run) r.2 in
        subst (Fills (i ∷ run)) q.2 ((instant-listed i r.0).0 r.1, fills run q.0 q.1)

    listed : (run : List Instant) (f : List Filled) → Fills run f → Memᴰ f (run_fillings run)
    listed [] [] h = Memᴰ.head refl
    listed [] (g ∷ f) h = absurd h
    listed (i ∷ run) [] h = absurd h
    listed (i ∷ run) (g ∷ f) h = mem-flat_map (after run) ((instant-listed i g).1 h.0) (Memᴰ.map (λ (w : List Filled). g ∷ w) (listed run f h.1))

-- ---- and so are those that fit

unfoldable pub fittings : SheetValue → List Instant → List (List Filled)
fittings s run = filter (fits s) (run_fillings run)

-- what fills a run has its tags
fills-tags : (run : List Instant) (f : List Filled) → Fills run f → map (λ (g : Filled). g.tags) f ≡ map tags_of run
fills-tags [] [] h = refl
fills-tags [] (g ∷ f) h = absurd h
fills-tags (i ∷ run) [] h = absurd h
fills-tags (i ∷ run) (g ∷ f) h = λ j. h.0.tags j ∷ fills-tags run f h.1 j

pub fitting-listed : (s : SheetValue) (run : List Instant) → OnScale most_tag run → (f : List Filled) → Memᴰ f (fittings s run) ↔ Fitting s run f
unfolding fittings
fitting-listed s run on f = (
  λ m.
      let r = of-filter (fits s) (run_fillings run) m in
      let u = (fills-listed run f).0 r.0 in
      let h = (exactly u).0 r.1 in
      record { fills = u; none-falls = h.0; each_holds = h.1 },
  λ h. mem-filter (fits s) (run_fillings run) ((fills-listed run f).1 h.fills) ((exactly h.fills).1 (h.none-falls, h.each_holds)),
)
  where
    exactly : Fills run f → T (fits s f) ↔ (NoneFalls s.clocks f × EachHolds s.lines f)
    exactly u = fits-holds s f (filled-scale run f (fills-tags run f u) on)
