-- R(u) by a floor: that of u, or where u is below 0 that of −u with the other sign; and a number less or more R(u) by
-- them. Assumes nothing.
use mathlib.Core.Path.{◌≡◌, sym}
use mathlib.Core.Bool.{true, false}
use Prim.Native.Nat.{◌+◌, ◌*◌, ◌≤◌, ◌<◌, ◌^◌}
use native.Mathlib.Omega.{arith}
use native.Mathlib.Nat.{div-le_self}
use lib.Dec.{lit<}
use lib.IntN.{ℤ, pos, nat_abs, ◌+ℤ◌, ◌-ℤ◌, ◌*ℤ◌}
use lib.Signed.{lt_z}
use Rattle.integer.specs.Parts.{up, dn}
use Rattle.integer.specs.Rounding.{floor}
use Rattle.integer.specs.Cut.{R}
use Rattle.integer.proofs.View.{+v, -v, *v, onev, Zs}
use Rattle.integer.proofs.Ring.{abs--}
use Rattle.integer.proofs.Rounding.{floor-only}
use Rattle.integer.proofs.Cut.{R-abs}
use Rattle.integer.proofs.Sides.{sized as parts}

-- each part of u is 65,536 times that of R(u), and less than 65,536 more
sized : (u : ℤ)
    → (65536 * up (R u) ≤ up u) × (up u < 65536 * up (R u) + 65536)
    × (65536 * dn (R u) ≤ dn u) × (dn u < 65536 * dn (R u) + 65536)
unfolding R
sized u = parts u 65536 (lit< tt)

module _ (u : ℤ) where
  -- R(u) with the other sign
  abbrev n : ℤ
  n = pos 0 -ℤ R u

  pub turned : lt_z u (pos 0) ≡ true → floor (pos 0 -ℤ u) 65536 ≡ n
  turned e =
      let s = sized u in
      let d = *v (pos 65536) n in
      let g = -v (pos 0) (R u) in
      let h = -v (pos 0) u in
      sym
      (floor-only (pos 0 -ℤ u) n 65536 (lit< tt)
      (omega (Zs, s, d, g, h, onev u))
      (omega (Zs, s, d, g, h, onev u, +v (pos 65536 *ℤ n) (pos 65536))))

  pub straight : lt_z u (pos 0) ≡ false → floor u 65536 ≡ R u
  straight e =
      let s = sized u in
      let d = *v (pos 65536) (R u) in
      sym
      (floor-only u (R u) 65536 (lit< tt)
      (omega (Zs, s, d, onev u))
      (omega (Zs, s, d, onev u, +v (pos 65536 *ℤ R u) (pos 65536))))

  -- a number less or more that
  pub less_turned : (f : ℤ) → f +ℤ n ≡ f -ℤ R u
  less_turned f = omega (Zs, +v f n, -v (pos 0) (R u), -v f (R u))

  pub more_turned : (f : ℤ) → f -ℤ n ≡ f +ℤ R u
  more_turned f = omega (Zs, -v f n, -v (pos 0) (R u), +v f (R u))

  -- neither is larger than u
  pub straight_small : nat_abs u ≤ 2 ^ 42 → nat_abs (R u) ≤ 2 ^ 42
  straight_small h = omega (arith, R-abs u, div-le_self (nat_abs u) 65536)

  pub turned_small : nat_abs u ≤ 2 ^ 42 → nat_abs n ≤ 2 ^ 42
  turned_small h = omega (arith, abs-- (pos 0) (R u), straight_small h)
