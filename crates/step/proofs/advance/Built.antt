-- A row built part by part: what stays of it, and of the row that it comes from. Assumes nothing.
use mathlib.Core.List.{List}
use mathlib.Core.Path.{◌≡◌}
use Prim.Native.Nat.{ℕ, zero, suc, ◌<◌, ◌≤◌}
use native.Mathlib.Omega.{arith}
use Rattle.remainders.specs.Rows.{parts, leads_part, row_count, row_set, FewInRow, Stays, PartStays}
use Rattle.remainders.proofs.rows.Laws.{stays_wide, part_stays, count_same, set_same-law}

-- a part of row `to` was stored: the words before the leads are what changes, another part stays
module _ {to : ℕ} (part : ℕ) {a b : List ℕ} (s : PartStays to part a b) (inside : part < parts) where
  pub row_stays : Stays to 0 leads_part a b
  row_stays = stays_wide s 0 leads_part (omega arith) (omega arith)

  pub other-count : (q : ℕ) → q < parts → (q ≡ part → ⊥) → row_count b to q ≡ row_count a to q
  other-count q h apart = count_same {h = to} {part = q} {a = a} {b = b} (part_stays s to q h (λ p x y e l m. apart (omega arith)))

  pub other-set : (q : ℕ) → q < parts → (q ≡ part → ⊥) → row_count a to q ≤ 8 → row_set b to q ≡ row_set a to q
  other-set q h apart few = set_same-law {h = to} {part = q} {a = a} {b = b} (part_stays s to q h (λ p x y e l m. apart (omega arith))) few

-- both parts have at most eight: the one stored, and the other as before
pub few-owed : {to : ℕ} {a b : List ℕ} → PartStays to 0 a b → row_count b to 0 ≤ 8 → row_count a to 1 ≤ 8 → FewInRow b to
few-owed s h g zero l = h
few-owed s h g (suc zero) l = let e = other-count 0 s (omega arith) 1 (omega arith) (λ e. omega arith) in omega arith
few-owed s h g (suc (suc part)) l = absurd (omega arith)

pub few-counting : {to : ℕ} {a b : List ℕ} → PartStays to 1 a b → row_count b to 1 ≤ 8 → row_count a to 0 ≤ 8 → FewInRow b to
few-counting s h g zero l = let e = other-count 1 s (omega arith) 0 (omega arith) (λ e. omega arith) in omega arith
few-counting s h g (suc zero) l = h
few-counting s h g (suc (suc part)) l = absurd (omega arith)

-- another row stays, and both are there
module _ {i to : ℕ} (apart : i ≡ to → ⊥) {a b : List ℕ} (s : Stays to 0 leads_part a b) (q : ℕ) (h : q < parts) where
  pub set-stays : row_count a i q ≤ 8 → row_set b i q ≡ row_set a i q
  set-stays few = set_same-law {h = i} {part = q} {a = a} {b = b} (part_stays s i q h (λ p x y e l m. apart e)) few
