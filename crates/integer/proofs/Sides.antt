-- The cut of u by a floor: of u where it is not below 0, and of d − 1 more where it is not above 0. And the sign of a
-- product. Assumes nothing.
use mathlib.Core.Path.{◌≡◌, sym}
use mathlib.Core.Bool.{Bool, true, false, cond, not}
use Prim.Native.Nat.{ℕ, suc, ◌+◌, ◌*◌, ◌-◌, ◌≤◌, ◌<◌, ◌^◌}
use native.Mathlib.Omega.{arith}
use native.Mathlib.Nat.{div-add-mod', mod-lt}
use lib.Dec.{leb-suc-zero}
use lib.IntN.{ℤ, pos, negsuc, nat_abs, ◌+ℤ◌, ◌*ℤ◌}
use lib.Signed.{lt_z, ◌≤ℤ◌}
use Rattle.integer.specs.Parts.{up, dn}
use Rattle.integer.specs.Rounding.{floor}
use Rattle.integer.specs.Cut.{cut}
use Rattle.integer.proofs.View.{+v, *v, negv, onev, Zs}
use Rattle.integer.proofs.Rounding.{floor-only}
use Rattle.integer.proofs.Cut.{cutv}

-- what is added is not too large
pub few : (b : Bool) (n : ℕ) → n ≤ 2 ^ 42 → nat_abs (cond b (pos n) (pos 0)) ≤ 2 ^ 42
few true n h = h
few false n h = omega arith

module _ (u : ℤ) (d : ℕ) (h : 0 < d) where
  -- each part of u is d times that of its cut, and less than d more
  pub sized : (d * up (cut u d) ≤ up u) × (up u < d * up (cut u d) + d)
      × (d * dn (cut u d) ≤ dn u) × (dn u < d * dn (cut u d) + d)
  sized =
      let e = cutv u d in
      let a = div-add-mod' (up u) d in
      let b = div-add-mod' (dn u) d in
      rw (e.0, e.1) (omega (arith, a, b, mod-lt (up u) h, mod-lt (dn u) h))

  pub floor-above : pos 0 ≤ℤ u → floor (u +ℤ pos 0) d ≡ cut u d
  floor-above p =
      let q = cut u d in
      let m = *v (pos d) q in
      sym
      (floor-only (u +ℤ pos 0) q d h
      (omega (Zs, sized, m, +v u (pos 0), onev u, onev q))
      (omega (Zs, sized, m, +v u (pos 0), onev u, onev q, +v (pos d *ℤ q) (pos d))))

  pub floor-under : u ≤ℤ pos 0 → floor (u +ℤ pos (d - 1)) d ≡ cut u d
  floor-under p =
      let q = cut u d in
      let m = *v (pos d) q in
      sym
      (floor-only (u +ℤ pos (d - 1)) q d h
      (omega (Zs, sized, m, +v u (pos (d - 1)), onev u, onev q))
      (omega (Zs, sized, m, +v u (pos (d - 1)), onev u, onev q, +v (pos d *ℤ q) (pos d))))

-- z is not on the other side of 0 than t
pub floor_as : (t z : ℤ) (d : ℕ) → 0 < d → (pos 0 ≤ℤ t → pos 0 ≤ℤ z) → (t ≤ℤ pos 0 → z ≤ℤ pos 0)
    → floor (z +ℤ cond (lt_z t (pos 0)) (pos (d - 1)) (pos 0)) d ≡ cut z d
floor_as (pos a) z d h p n = rw (leb-suc-zero a) (floor-above z d h (p (omega Zs)))
floor_as (negsuc a) z d h p n = floor-under z d h (n (omega Zs))

-- m is a product: below 0 only where one of its factors is and the other is not
pub floor-product : (a w m : ℤ) (d : ℕ) → 0 < d → m ≡ a *ℤ w
    → floor (m +ℤ cond (cond (lt_z a (pos 0)) (not (lt_z w (pos 0))) (lt_z w (pos 0))) (pos (d - 1)) (pos 0)) d ≡ cut m d
floor-product (pos x) (pos y) m d h e =
    rw (leb-suc-zero x, leb-suc-zero y) (floor-above m d h (rw e (omega Zs)))
floor-product (pos x) (negsuc y) m d h e =
    rw (leb-suc-zero x) (floor-under m d h (rw e (omega (Zs, negv (pos (x * suc y))))))
floor-product (negsuc x) (pos y) m d h e =
    rw (leb-suc-zero y) (floor-under m d h (rw e (omega (Zs, negv (pos (suc x * y))))))
floor-product (negsuc x) (negsuc y) m d h e = floor-above m d h (rw e (omega Zs))

-- a number that is not below 0, times t
pub scale_above : (g : ℕ) (t : ℤ) → pos 0 ≤ℤ t → pos 0 ≤ℤ (pos g *ℤ t)
scale_above g (pos a) p = omega Zs
scale_above g (negsuc a) p = absurd (omega Zs)

pub scale_under : (g : ℕ) (t : ℤ) → t ≤ℤ pos 0 → (pos g *ℤ t) ≤ℤ pos 0
scale_under g (pos a) p = let z : a ≡ 0 = omega Zs in rw z (omega Zs)
scale_under g (negsuc a) p = omega (Zs, negv (pos (g * suc a)))
