-- The end of the scale. Two's complement of 16 bits has no number above it, so no tag of an instant that was read exceeds it, whatever numbers its bytes are; nor does one of a run of such instants, however it is filled. Assumes nothing.
use mathlib.Core.Bool.{Bool, true, false, not, cond}
use mathlib.Core.List.{List, [], ◌∷◌, ◌++◌, map}
use mathlib.Core.Path.{◌≡◌, refl, sym, ap, subst}
use Prim.Native.Nat.{ℕ, zero, suc, ◌-◌, ◌<◌, ◌^◌}
use native.Mathlib.Omega.{arith}
use lib.Dec.{T, ltb, le→leb, ltb→lt}
use lib.IntN.{ℤ, pos, negsuc}
use lib.ListN.{get_or}
use lib.Signed.{◌≤ℤ◌, le_z_yes}
use Rattle.records.specs.Outcome.{Outcome, taken, refused, ◌⇒◌}
use Rattle.records.specs.Word.{signed, tag_of}
use Rattle.records.specs.Record.{Piece, whole, torn, pieces}
use Rattle.records.specs.Sheet.{SheetValue, clock_count}
use Rattle.records.specs.Instant.{InstantValue, Cell, RawCell, cell_of, raw_cells, clocks_part, instant_in, one_instant_checks, read_instant}
use Rattle.records.specs.Types.{All}
use Rattle.records.proofs.Lists.{taken-passed}
use Rattle.tesl.specs.Run.{Instant, tags_of, Filled, tag_in}
use Rattle.tesl.specs.Fits.{most_tag}
use Rattle.tesl.specs.Machine.{accepts, list_after}
use Rattle.tesl.specs.Formula.{WithinScale}
use Rattle.theory.specs.Limits.{TagsWithin, OnScale}
use Rattle.theory.proofs.Lists.{each_snoc}
use Rattle.theory.proofs.Accepted.{taken_next}

-- ---- what is read

tag-scale : (w : ℕ) → tag_of w ≤ℤ most_tag
unfolding signed
tag-scale w = by-test (ltb w 32768) (ltb→lt w 32768)
  where
    by-test : (b : Bool) → (T b → w < 32768) → cond b (pos w) (negsuc (2 ^ 16 - suc w)) ≤ℤ most_tag
    by-test true l = let h = l tt in le_z_yes (le→leb w 32767 (omega arith))
    by-test false l = le_z_yes tt

cells-scale : (cs : List RawCell) → TagsWithin most_tag (map cell_of cs)
cells-scale [] = tt
cells-scale (c ∷ cs) = (tag-scale c.word, cells-scale cs)

piece-scale : (ps : List Piece) → TagsWithin most_tag (instant_in ps).cells
piece-scale [] = tt
piece-scale (torn ∷ ps) = tt
piece-scale (whole kind body ∷ ps) = cells-scale (raw_cells (clocks_part kind body))

read-scale : (c : ℕ) (bytes : List ℕ) {v : InstantValue} → read_instant c bytes ≡ taken v → TagsWithin most_tag v.cells
unfolding read_instant
read-scale c bytes e =
    subst (λ (v : InstantValue). TagsWithin most_tag v.cells) (taken-passed ((not (clock_count c) ⇒ 4) ∷ one_instant_checks c (pieces bytes)) e).1 (piece-scale (pieces bytes))

-- the machine's list stays on the scale, whatever a call is handed
pub list-scale : (s : SheetValue) (run : List Instant) (bytes : List ℕ) → OnScale most_tag run → OnScale most_tag (list_after run (accepts s run bytes))
list-scale s run bytes h = by-outcome (accepts s run bytes) refl
  where
    by-outcome : (o : Outcome Instant) → accepts s run bytes ≡ o → OnScale most_tag (list_after run o)
    by-outcome (refused n) e = h
    by-outcome (taken i) e =
        let t = taken_next s run bytes e in
        each_snoc (TagsWithin most_tag) run h (subst (TagsWithin most_tag) t.cells (read-scale s.clocks bytes t.next.read))

-- a beginning of it does
pub front-scale : (front rest : List Instant) → OnScale most_tag (front ++ rest) → OnScale most_tag front
front-scale [] rest h = tt
front-scale (i ∷ front) rest h = (h.0, front-scale front rest h.1)

-- ---- what fills a run has its tags

-- what holds of each tag of an instant, and of 0, holds of the tag of every clock
pub each-tag : (P : ℤ → Type 0) → P (pos 0) → (i : Instant) → All (λ (c : Cell). P c.tag) i → (K : ℕ) → P (tag_in (tags_of i) K)
each-tag P z [] h K = z
each-tag P z (c ∷ i) h zero = h.0
each-tag P z (c ∷ i) h (suc K) = each-tag P z i h.1 K

pub filled-scale : (run : List Instant) (f : List Filled) → map (λ (g : Filled). g.tags) f ≡ map tags_of run → OnScale most_tag run → WithinScale most_tag f
filled-scale run [] e h K n = le_z_yes tt
filled-scale [] (g ∷ f) e h K n = absurd (let z : ◌≡◌ {A = ℕ} 1 0 = cc in omega arith)
filled-scale (i ∷ run) (g ∷ f) e h K zero = subst (λ (tags : List ℤ). tag_in tags K ≤ℤ most_tag) (sym (ap (λ (ts : List (List ℤ)). get_or ts 0 []) e)) (each-tag (λ (z : ℤ). z ≤ℤ most_tag) (le_z_yes tt) i h.0 K)
filled-scale (i ∷ run) (g ∷ f) e h K (suc n) = let rest : map (λ (g : Filled). g.tags) f ≡ map tags_of run = cc in filled-scale run f rest h.1 K n
