-- What lines make of the stopped clocks, one after the other. Assumes nothing.
use mathlib.Core.List.{List, [], ◌∷◌}
use mathlib.Core.Path.{◌≡◌, sym, ◌∙◌}
use Prim.Native.Nat.{ℕ, ◌+◌, ◌-◌, ◌<◌, ◌≤◌}
use Rattle.records.specs.declared.line.Line.{Line}
use Rattle.records.specs.Lists.{listed_from}
use Rattle.records.proofs.Lists.{listed_cons, listed-end}

-- what all lines make of a value is what those from i on make of x
module _ {A : Type 0} (step : Line → A → A) (fold : List Line → A → A) (none : (x : A) → fold [] x ≡ x) (more : (l : Line) (ls : List Line) (x : A) → fold (l ∷ ls) x ≡ fold ls (step l x)) (at : ℕ → Line) (n i : ℕ) (x : A) {whole : A} (w : whole ≡ fold (listed_from at i (n - i)) x) where
  pub fold_end : n ≤ i → x ≡ whole
  fold_end h = sym (w ∙ rw (listed-end at n i h) (none x))

  pub fold_more : i < n → (l : Line) → l ≡ at i → (after : A) → after ≡ step l x → whole ≡ fold (listed_from at (i + 1) (n - (i + 1))) after
  fold_more h l e after f = w ∙ rw (listed_cons at n i h, f, e) (more _ _ x)
