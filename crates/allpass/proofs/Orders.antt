-- The filter over lists is document 01's own at order 1 and at order 2, and document 02's at order 3.
-- Assumes nothing.
use mathlib.Core.Path.{refl}
use lib.IntN.{ℤ, +ℤ_idr, +ℤ_assoc}
use Rattle.allpass.specs.Allpass.{inner, next, out}
use Rattle.allpass.specs.Bounds.{Order1, Order2, Order3}

pub order_1 : (a1 v1 f : ℤ) → Order1 a1 v1 f
unfolding inner next out
order_1 a1 v1 f = record { w = simp +ℤ_idr; output = simp +ℤ_idr; state = refl }

pub order_2 : (a1 a2 v1 v2 f : ℤ) → Order2 a1 a2 v1 v2 f
unfolding inner next out
order_2 a1 a2 v1 v2 f = record { w = simp +ℤ_idr; output = simp +ℤ_idr; state = refl }

pub order_3 : (a1 a2 a3 v1 v2 v3 f : ℤ) → Order3 a1 a2 a3 v1 v2 v3 f
unfolding inner next out
order_3 a1 a2 a3 v1 v2 v3 f = record {
  w = simp (+ℤ_idr, +ℤ_assoc);
  output = simp (+ℤ_idr, +ℤ_assoc);
  state = refl;
}
