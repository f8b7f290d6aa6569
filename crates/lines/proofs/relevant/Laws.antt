-- Flags of clocks, set one after the other. Assumes nothing.
use mathlib.Core.Bool.{Bool, true}
use mathlib.Core.List.{List, [], ◌∷◌, ◌++◌}
use mathlib.Core.Path.{◌≡◌, refl, sym, ◌∙◌}
use Prim.Native.Nat.{ℕ, ◌+◌, ◌-◌, ◌<◌, ◌≤◌}
use lib.ListN.{set}
use Rattle.records.specs.Lists.{listed_from}
use Rattle.records.proofs.Lists.{listed_cons, listed-end}
use Rattle.tesl.specs.Lists.{flat_map}
use Rattle.work.specs.Relevant.{flagged}

-- ---- the flags of the clocks that each place from i on names
pub flagged-append : (ks ls : List ℕ) (flags : List Bool) → flagged (ks ++ ls) flags ≡ flagged ls (flagged ks flags)
flagged-append [] ls flags = refl
flagged-append (k ∷ ks) ls flags = flagged-append ks ls (set flags k true)

module _ {A : Type 0} (names : A → List ℕ) (at : ℕ → A) (n i : ℕ) (flags : List Bool) where
  abbrev pub named_from : List Bool
  named_from = flagged (flat_map names (listed_from at i (n - i))) flags

  module _ {whole : List Bool} (w : whole ≡ named_from) where
    pub named_end : n ≤ i → flags ≡ whole
    named_end h = sym (w ∙ rw (listed-end at n i h))

    pub named_more : i < n → {after : List Bool} → after ≡ flagged (names (at i)) flags → whole ≡ flagged (flat_map names (listed_from at (i + 1) (n - (i + 1)))) after
    named_more h e = w ∙ rw (listed_cons at n i h, flagged-append (names (at i)) (flat_map names (listed_from at (i + 1) (n - (i + 1)))) flags, e)
