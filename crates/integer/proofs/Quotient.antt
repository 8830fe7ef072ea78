-- The machine's division toward zero, and its remainder, which has the dividend's sign: the floor by the two.
-- Assumes nothing.
use mathlib.Core.Path.{◌≡◌, refl}
use Prim.Native.Nat.{ℕ, suc, ◌+◌, ◌*◌, ◌/◌, ◌%◌, ◌<◌}
use native.Mathlib.Omega.{arith}
use native.Mathlib.Nat.{div-add-mod', mod-lt, div-le_self, lt_of_le_of_lt}
use lib.IntN.{ℤ, pos, negsuc, ◌-ℤ◌, ◌*ℤ◌}
use lib.Signed.{◌≤ℤ◌, ◌<ℤ◌, quot_z, rem_z, shr_z, mag_rem, mag_shr}
use mir.Syntax.{Width}
use mir.Val.{SFits}
use Rattle.integer.specs.Parts.{up, dn}
use Rattle.integer.specs.Rounding.{floor}
use Rattle.integer.specs.Cut.{cut}
use Rattle.integer.proofs.View.{+v, -v, *v, negv, vfit, fitv, Zs}
use Rattle.integer.proofs.Ring.{times}
use Rattle.integer.proofs.Rounding.{floor-only}
use Rattle.integer.proofs.Cut.{cut_quot, cutv}

-- ---- ranges
pub quot_fits : {w : Width} {z : ℤ} (m : ℕ) → SFits w z → SFits w (quot_z z (pos m))
quot_fits {w} {z} m f =
    rw (cut_quot z m)
    (vfit w (cut z m) (omega (arith, fitv f, cutv z m, div-le_self (up z) m, div-le_self (dn z) m)))

pub rem_fits : {w : Width} {z : ℤ} (m : ℕ) → SFits w z → SFits w (rem_z z (pos m))
rem_fits {w} {z} m f = record { sfits = lt_of_le_of_lt (mag_rem z (pos m)) f.sfits }

pub floor-fits : {w : Width} {u : ℤ} (m : ℕ) → SFits w u → SFits w (floor u m)
unfolding floor
floor-fits {w} {u} m f = record { sfits = lt_of_le_of_lt (mag_shr u m) f.sfits }

-- ---- the floor
-- it is the machine's shift
pub floor-shr : (u : ℤ) (m : ℕ) → shr_z u m ≡ floor u m
unfolding floor
floor-shr (pos a) m = refl
floor-shr (negsuc a) m = refl

-- the quotient toward zero and its remainder, in parts: u is m q and r, each part of which is below m
quot_rem : (u : ℤ) (m : ℕ) → 0 < m
    → (m * up (quot_z u (pos m)) + up (rem_z u (pos m)) ≡ up u) × (up (rem_z u (pos m)) < m)
    × (m * dn (quot_z u (pos m)) + dn (rem_z u (pos m)) ≡ dn u) × (dn (rem_z u (pos m)) < m)
quot_rem (pos a) m h = omega (arith, div-add-mod' a m, mod-lt a h)
quot_rem (negsuc a) m h =
    let s = suc a in
    let n = negv (pos (s / m)) in
    omega (arith, times m n.0, times m n.1, negv (pos (s % m)), div-add-mod' s m, mod-lt s h)

-- the floor is the quotient toward zero, one less where the remainder is below zero
pub floor-less : (u : ℤ) (m : ℕ) → 0 < m → rem_z u (pos m) <ℤ pos 0 → quot_z u (pos m) -ℤ pos 1 ≡ floor u m
floor-less u m h k =
    let q = quot_z u (pos m) in
    let p = q -ℤ pos 1 in
    let l = times m (-v q (pos 1)) in
    floor-only u p m h
    (omega (Zs, quot_rem u m h, *v (pos m) p, l))
    (omega (Zs, quot_rem u m h, *v (pos m) p, +v (pos m *ℤ p) (pos m), l))

pub floor_quot : (u : ℤ) (m : ℕ) → 0 < m → pos 0 ≤ℤ rem_z u (pos m) → quot_z u (pos m) ≡ floor u m
floor_quot u m h k =
    let q = quot_z u (pos m) in
    floor-only u q m h
    (omega (Zs, quot_rem u m h, *v (pos m) q))
    (omega (Zs, quot_rem u m h, *v (pos m) q, +v (pos m *ℤ q) (pos m)))

pub less-fits : {w : Width} {u : ℤ} (m : ℕ) → 0 < m → SFits w u → rem_z u (pos m) <ℤ pos 0
    → SFits w (quot_z u (pos m) -ℤ pos 1)
less-fits {w} {u} m h f k = rw (floor-less u m h k) (floor-fits m f)
