-- A turn of a loop over the lines of a sheet and their leads. Assumes nothing.
use mathlib.Core.Bool.{Bool, true, false, ◌&&◌}
use mathlib.Core.List.{List}
use mathlib.Core.Path.{◌≡◌, sym, ◌∙◌}
use Prim.Native.Nat.{ℕ, ◌+◌, ◌-◌, ◌<◌, ◌≤◌}
use native.Mathlib.Omega.{arith}
use Rattle.records.specs.declared.line.Line.{Line}
use Rattle.records.specs.declared.sheet.Sheet.{Sheet}
use Rattle.records.specs.Lists.{listed_from, listed}
use Rattle.records.specs.Sheet.{line_at, sheet_value}
use Rattle.records.proofs.Lists.{listed_cons, listed-end}
use Rattle.theory.specs.Step.{lines_ok}
use Rattle.work.specs.Lines.{lead_in}

-- ---- a question of each line and its lead
module _ (ok : Line → ℕ → Bool) (s : Sheet) (leads : List ℕ) (n i : ℕ) where
  abbrev pub ok_from : Bool
  ok_from = lines_ok ok (listed_from (line_at s) i (n - i)) (listed_from (lead_in leads) i (n - i))

pub ok-start : (ok : Line → ℕ → Bool) (s : Sheet) (leads : List ℕ) → lines_ok ok (sheet_value s).lines (listed (lead_in leads) s.count) ≡ ok_from ok s leads s.count 0
ok-start ok s leads = let k : s.count - 0 ≡ s.count = omega arith in rw k

module _ (ok : Line → ℕ → Bool) (s : Sheet) (leads : List ℕ) (n i : ℕ) {whole : Bool} (w : whole ≡ ok_from ok s leads n i) where
  pub ok_end : n ≤ i → true ≡ whole
  ok_end h = sym (w ∙ rw (listed-end (line_at s) n i h))

  module _ (h : i < n) (l : Line) (e : l ≡ line_at s i) (r : Bool) (f : r ≡ ok l (lead_in leads i)) where
    turn-ok : whole ≡ (r && ok_from ok s leads n (i + 1))
    turn-ok = w ∙ rw (listed_cons (line_at s) n i h, listed_cons (lead_in leads) n i h, f, e)

    pub ok-no : r ≡ false → false ≡ whole
    ok-no g = sym (turn-ok ∙ rw g)

    pub ok-more : r ≡ true → whole ≡ ok_from ok s leads n (i + 1)
    ok-more g = turn-ok ∙ rw g
