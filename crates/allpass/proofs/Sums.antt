-- Sums of products as the machine has them: each of the order's products and sums fits, and is what the
-- filter's own sum is. One law puts a product in front of a sum, whatever its length. Assumes nothing.
use mathlib.Core.Path.{◌≡◌, sym, ◌∙◌}
use mathlib.Core.List.{List, [], ◌∷◌}
use Prim.Native.Nat.{◌*◌, ◌≤◌, ◌^◌}
use native.Mathlib.Omega.{arith}
use native.Mathlib.Nat.{mul-le-mul, mul-le-mul_right}
use lib.IntN.{ℤ, nat_abs, ◌+ℤ◌, ◌*ℤ◌, +ℤ_idr}
use mir.Syntax.{w64}
use mir.Val.{SFits, to_z, of_z}
use mir.Facts.{to_z-of_z}
use Rattle.integer.specs.Rounding.{M}
use Rattle.integer.proofs.View.{abs_fits}
use Rattle.integer.proofs.Ring.{abs-*}
use Rattle.thiran.specs.Coefficients.{norm}
use Rattle.thiran.specs.Answers.{taps}
use Rattle.thiran.specs.declared.formula.Coefficients.{Coefficients}
use Rattle.allpass.specs.Allpass.{dot}
use Rattle.allpass.specs.Bounds.{Within}
use Rattle.allpass.specs.Stored.{held}
use Rattle.allpass.specs.declared.State.{State}
use Rattle.allpass.proofs.Bounds.{head-within, tail_within, dot-within}

-- what the machine reads back of z
abbrev pub back : ℤ → ℤ
back z = to_z w64 (of_z w64 z)

-- the product of two numbers as they are read back
abbrev pub times : ℤ → ℤ → ℤ
times a x = back a *ℤ back x

-- ---- one product, and one in front of a sum of products that z is read back as
module _ (a x : ℤ) (A v : List ℤ) (n : norm (a ∷ A) ≤ 32768) (h : Within (2 * M) (x ∷ v)) where
  factors : times a x ≡ a *ℤ x
  factors =
      let k = head-within x h in
      rw (to_z-of_z (abs_fits w64 a (omega arith)), to_z-of_z (abs_fits w64 x (omega arith)))

  product-fits : SFits w64 (a *ℤ x)
  product-fits =
      let p : nat_abs a ≤ 32768 = omega arith in
      abs_fits w64 (a *ℤ x) (omega (arith, abs-* a x, mul-le-mul p (head-within x h)))

  pub fits : SFits w64 (times a x)
  fits = rw factors product-fits

  product : back (times a x) ≡ a *ℤ x
  product = rw factors (to_z-of_z product-fits)

  small : nat_abs (dot (a ∷ A) (x ∷ v)) ≤ 2 ^ 39
  small = omega (arith, dot-within (a ∷ A) h, mul-le-mul_right (2 * M) n)

  all-fits : SFits w64 (dot (a ∷ A) (x ∷ v))
  all-fits = abs_fits w64 (dot (a ∷ A) (x ∷ v)) (omega (arith, small))

  pub sum_fits : (z : ℤ) → back z ≡ dot A v → SFits w64 (back (times a x) +ℤ back z)
  sum_fits z e = rw (product, e) all-fits

  sum : (z : ℤ) → back z ≡ dot A v → back (back (times a x) +ℤ back z) ≡ dot (a ∷ A) (x ∷ v)
  sum z e = rw (product, e) (to_z-of_z all-fits)

-- the last product is a sum of one
last : (a x : ℤ) → norm (a ∷ []) ≤ 32768 → Within (2 * M) (x ∷ []) → back (times a x) ≡ dot (a ∷ []) (x ∷ [])
last a x n h = product a x [] [] n h ∙ sym (+ℤ_idr (a *ℤ x))

-- ---- the sums of orders 2 and 3
module _ (c : Coefficients) (v : State) where
  module _ (n : norm (taps 2 c) ≤ 32768) (h : Within (2 * M) (held 2 v)) where
    pub rest_2 : back (times c.a2 v.v2) ≡ dot (c.a2 ∷ []) (v.v2 ∷ [])
    rest_2 = last c.a2 v.v2 (omega arith) (tail_within h)

    pub sum_2 : back (back (times c.a1 v.v1) +ℤ back (times c.a2 v.v2)) ≡ dot (taps 2 c) (held 2 v)
    sum_2 = sum c.a1 v.v1 (c.a2 ∷ []) (v.v2 ∷ []) n h (times c.a2 v.v2) rest_2

  module _ (n : norm (taps 3 c) ≤ 32768) (h : Within (2 * M) (held 3 v)) where
    abbrev pub z : ℤ
    z = back (times c.a2 v.v2) +ℤ back (times c.a3 v.v3)

    pub last_3 : back (times c.a3 v.v3) ≡ dot (c.a3 ∷ []) (v.v3 ∷ [])
    last_3 = last c.a3 v.v3 (omega arith) (tail_within (tail_within h))

    pub rest_3 : back z ≡ dot (c.a2 ∷ c.a3 ∷ []) (v.v2 ∷ v.v3 ∷ [])
    rest_3 =
        sum c.a2 v.v2 (c.a3 ∷ []) (v.v3 ∷ []) (omega arith) (tail_within h)
        (times c.a3 v.v3) last_3

    pub sum_3 : back (back (times c.a1 v.v1) +ℤ back z) ≡ dot (taps 3 c) (held 3 v)
    sum_3 = sum c.a1 v.v1 (c.a2 ∷ c.a3 ∷ []) (v.v2 ∷ v.v3 ∷ []) n h z rest_3
