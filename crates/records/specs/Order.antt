-- The order of a sheet's lines (document 02, Q-1): rising by kind,
-- then by the bytes of the body, compared from the first byte, as unsigned.
use Rattle.std.specs.Prelude.{ℕ, Bool, true, false, ◌&&◌, ◌||◌, List, [], ◌∷◌, ltb, eqb}
use Rattle.records.specs.declared.line.Line.{Line}
use Rattle.records.specs.declared.order.Order.{Order}
use Rattle.records.specs.declared.order.Order.TheVariants.{Rising, Any}
use Rattle.records.specs.Line.{kind_of, body_of}

-- numbers compared from the first: these are above those
unfoldable pub above : List ℕ → List ℕ → Bool
above [] ys = false
above (x ∷ xs) [] = true
above (x ∷ xs) (y ∷ ys) = ltb y x || (eqb x y && above xs ys)

-- what a line is compared by: its kind, then its body
abbrev pub key_of : Line → List ℕ
key_of l = kind_of l ∷ body_of l

-- above the last of those before it; the first has none before it
abbrev pub above_last : List (List ℕ) → List ℕ → Bool
above_last [] key = true
above_last (k ∷ []) key = above key k
above_last (k ∷ j ∷ ks) key = above_last (j ∷ ks) key

-- a line may stand behind those before it
abbrev pub in_order : Order → List (List ℕ) → List ℕ → Bool
in_order Rising before key = above_last before key
in_order Any before key = true
