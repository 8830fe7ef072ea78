-- How large the two sums of a junction are.
use Prim.Native.Nat.{◌^◌, ◌≤◌}
use native.Mathlib.Omega.{arith}
use native.Mathlib.Nat.{mul-le-mul}
use lib.IntN.{ℤ, pos, nat_abs, ◌+ℤ◌, ◌-ℤ◌, ◌*ℤ◌}
use Rattle.integer.specs.Rounding.{M}
use Rattle.integer.proofs.Ring.{abs-*, abs-+, abs--}

pub plus-r : (r : ℤ) → nat_abs r ≤ 32767 → nat_abs (pos 32768 +ℤ r) ≤ 65536
plus-r r h = omega (arith, abs-+ (pos 32768) r)

pub minus-r : (r : ℤ) → nat_abs r ≤ 32767 → nat_abs (pos 32768 -ℤ r) ≤ 65536
minus-r r h = omega (arith, abs-- (pos 32768) r)

pub product_small : (a x : ℤ) → nat_abs a ≤ 65536 → nat_abs x ≤ M → nat_abs (a *ℤ x) ≤ 2 ^ 42
product_small a x h k = omega (arith, abs-* a x, mul-le-mul h k)
