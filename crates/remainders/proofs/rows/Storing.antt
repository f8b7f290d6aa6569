-- A loop that stores one word after the other of a part of a row, for any part. Assumes nothing.
use mathlib.Core.List.{List}
use mathlib.Core.Logic.{⊎_elim}
use mathlib.Core.Path.{◌≡◌}
use Prim.Native.Nat.{ℕ, ◌+◌, ◌*◌, ◌<◌, ◌≤◌}
use native.Mathlib.Nat.{eq-or-lt_of_le}
use native.Mathlib.Omega.{arith}
use lib.ListN.{length, set}
use Rattle.remainders.specs.Rows.{width, all_words, word, Stays}
use Rattle.remainders.proofs.rows.Laws.{stored, stored_other, stays_all, stays_put}

-- the first k words from `lo` on are what P asks of each; nothing else changes but words lo to hi - 1 of row i
pub record Storing (P : ℕ → ℕ → Type 0) (i lo hi : ℕ) (a b : List ℕ) (k : ℕ) : Type 0 where
  pub places : (j : ℕ) → j < k → P j (word b i (lo + j))
  pub stays : Stays i lo hi a b

module _ (P : ℕ → ℕ → Type 0) (i lo hi : ℕ) (a : List ℕ) where
  pub storing-start : Storing P i lo hi a a 0
  storing-start = record { places = λ j h. absurd (omega arith); stays = stays_all i lo hi a }

  pub storing-more : {b : List ℕ} {k : ℕ} → Storing P i lo hi a b k → length a ≡ all_words → i < 72 → lo + k < hi → hi ≤ width → (w : ℕ) → P k w → Storing P i lo hi a (set b (width * i + (lo + k)) w) (k + 1)
  storing-more {b} {k} s size row h m w p =
      record {
        places = λ j l. ⊎_elim
            (λ (e : j ≡ k). rw (e, stored b i (lo + k) w (omega (arith, s.stays.size))) p)
            (λ (g : j < k). rw (stored_other b i (lo + k) w i (lo + j) (omega arith) (omega arith) (λ x y. omega arith)) (s.places j g))
            (eq-or-lt_of_le (omega arith));
        stays = stays_put s.stays (lo + k) w (omega arith) h m;
      }
