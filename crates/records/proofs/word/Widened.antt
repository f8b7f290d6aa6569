-- Numbers of 16 bits in more: sums of them fit 32, products 64, and what is widened reads back as itself. Assumes nothing.
use mathlib.Core.Bool.{Bool, true, false, cond}
use mathlib.Core.Path.{◌≡◌, ap, ◌∙◌}
use Prim.Native.Nat.{ℕ, zero, suc, ◌+◌, ◌-◌, ◌*◌, ◌<◌, ◌≤◌}
use native.Mathlib.Nat.{mul-le-mul}
use native.Mathlib.Omega.{arith}
use lib.Dec.{T, leb, ltb}
use lib.IntN.{ℤ, pos, negsuc, neg_ℤ, ◌+ℤ◌, ◌*ℤ◌}
use lib.Signed.{mag}
use mir.Syntax.{Width, w16, w32, w64}
use mir.Val.{hbits, to_z, of_z, SFits}
use mir.Facts.{to_z-of_z, sfits_widen}

-- ---- sums and products

mag-sub : (t : Bool) (a b : ℕ) → mag (cond t (negsuc (b - suc a)) (pos (a - b))) ≤ a + b
mag-sub true a b = omega arith
mag-sub false a b = omega arith

mag-add : (x y : ℤ) → mag (x +ℤ y) ≤ mag x + mag y + 1
mag-add (pos a) (pos b) = omega arith
mag-add (pos a) (negsuc b) = omega (arith, mag-sub (ltb a (suc b)) a (suc b))
mag-add (negsuc a) (pos b) = omega (arith, mag-sub (ltb b (suc a)) b (suc a))
mag-add (negsuc a) (negsuc b) = omega arith

mag-neg : (n : ℕ) → mag (neg_ℤ (pos n)) ≤ n
mag-neg zero = omega arith
mag-neg (suc n) = omega arith

area : (m n : ℕ) → m ≤ 32768 → n ≤ 32768 → m * n ≤ 1073741824
area m n h k = mul-le-mul {n₁ = m} {m₁ = n} {n₂ = 32768} {m₂ = 32768} h k

mag-mul : (x y : ℤ) → mag x < 32768 → mag y < 32768 → mag (x *ℤ y) ≤ 1073741824
mag-mul (pos a) (pos b) h k = area a b (omega arith) (omega arith)
mag-mul (pos a) (negsuc b) h k = omega (arith, mag-neg (a * suc b), area a (suc b) (omega arith) (omega arith))
mag-mul (negsuc a) (pos b) h k = omega (arith, mag-neg (suc a * b), area (suc a) b (omega arith) (omega arith))
mag-mul (negsuc a) (negsuc b) h k = area (suc a) (suc b) (omega arith) (omega arith)

-- a tag and a delay
pub due-fits : (t : ℤ) (d : ℕ) → SFits w16 t → d < 65536 → SFits w32 (t +ℤ pos d)
due-fits t d f h = record { sfits = omega (arith, mag-add t (pos d), f.sfits) }

module _ {x y : ℤ} (f : SFits w16 x) (g : SFits w16 y) where
  pub product-fits : SFits w64 (x *ℤ y)
  product-fits = record { sfits = omega (arith, mag-mul x y f.sfits g.sfits) }

  pub relation-fits : {z : ℤ} → SFits w16 z → SFits w64 (x *ℤ y +ℤ z)
  relation-fits {z} h = record { sfits = omega (arith, mag-mul x y f.sfits g.sfits, mag-add (x *ℤ y) z, h.sfits) }

-- ---- a number of 16 bits, held in more

-- as a cast returns it
pub widened : {z x : ℤ} → SFits w16 x → z ≡ to_z w16 (of_z w16 x) → z ≡ x
widened f e = e ∙ to_z-of_z {w = w16} f

module _ (w : Width) (wider : T (leb (hbits w16) (hbits w))) where
  pub wide_fits : {x : ℤ} → SFits w16 x → SFits w x
  wide_fits f = sfits_widen {w = w16} {w' = w} wider f

  -- as the machine reads it back
  pub held-wide : {z x : ℤ} → SFits w16 x → z ≡ to_z w16 (of_z w16 x) → to_z w (of_z w z) ≡ x
  held-wide f e = ap (λ (t : ℤ). to_z w (of_z w t)) (widened f e) ∙ to_z-of_z {w = w} (wide_fits f)
