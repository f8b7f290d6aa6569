-- Eight flags of a list: read, and one filling more. Assumes nothing.
use mathlib.Core.Bool.{Bool, false}
use mathlib.Core.List.{List, [], ◌∷◌, ◌++◌}
use mathlib.Core.Path.{◌≡◌, refl, sym, ap, ◌∙◌}
use Prim.Native.Nat.{ℕ, ◌+◌, ◌*◌, ◌<◌, ◌≤◌}
use native.Mathlib.Omega.{arith}
use lib.ListN.{length, get_or, take, drop, get_or-append}
use borrow.Rule.Slice.PartMut.{mid_of, post_of, put_mid, same_len_mid}
use Rattle.std.proofs.lemmas.List.{get_or-drop, get_or-take, length-take-le, length-drop, take_at, drop_at}
use Rattle.records.proofs.Lists.{listed-take}
use Rattle.work.specs.Fillings.{flags_in, fillings_in}
use Rattle.work.proofs.Listing.{listed_next, places-stay}

-- those of place i are a part of it
pub flags-part : (i k : ℕ) (list : List Bool) → k ≡ 8 → 8 * i + 8 ≤ length list → mid_of (8 * i) k list ≡ flags_in list i
flags-part i k list e h =
    ap (λ n. mid_of (8 * i) n list) e
    ∙ sym (listed-take false (λ j. get_or list (8 * i + j) false) 8 (drop (8 * i) list) (omega (arith, length-drop (8 * i) list)) (λ j l. sym (get_or-drop (8 * i) list j false)))

-- stored as that part, and those before it as before
module _ (n k : ℕ) (was ticks : List Bool) (e : k ≡ 8) (l : length ticks ≡ length (mid_of (8 * n) k was)) (h : 8 * n + 8 ≤ length was) where
  abbrev list : List Bool
  list = put_mid (8 * n) k was ticks

  first : length (take (8 * n) was) ≡ 8 * n
  first = length-take-le (8 * n) was (omega arith)

  before : (p : ℕ) → p < 8 * n → get_or list p false ≡ get_or was p false
  before p m = get_or-append (take (8 * n) was) (ticks ++ post_of (8 * n) k was) false p (omega (arith, first)) ∙ get_or-take (8 * n) was p false m

  pub same_size : length list ≡ length was
  same_size = same_len_mid (8 * n) k was ticks l

  eight : length ticks ≡ 8
  eight = l ∙ length-take-le k (drop (8 * n) was) (omega (arith, length-drop (8 * n) was)) ∙ e

  stored : flags_in list n ≡ ticks
  stored = sym (flags-part n 8 list refl (omega (arith, same_size))) ∙ ap (take 8) (drop_at (take (8 * n) was) (ticks ++ post_of (8 * n) k was) (8 * n) first) ∙ take_at ticks (post_of (8 * n) k was) 8 eight

  pub filling-more : fillings_in list (n + 1) ≡ fillings_in was n ++ (ticks ∷ [])
  filling-more = listed_next n (λ f m. places-stay false (8 * n) (8 * f) 8 was list (omega arith) before) stored refl
