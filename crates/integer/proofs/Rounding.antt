-- Laws of specs/Rounding.antt. `floor u m` is the q with m q ≤ u < m q + m.
-- Assumes nothing.
use mathlib.Core.Path.{◌≡◌, refl}
use Prim.Native.Nat.{ℕ, zero, suc, ◌+◌, ◌*◌, ◌/◌, ◌≤◌, ◌<◌, min}
use native.Mathlib.Omega.{arith}
use native.Mathlib.Nat.{div-add-mod', mod-lt, mul-le-mul_right, le-div_iff_mul-le}
use native.Mathlib.Decide.{dec_lt}
use lib.IntN.{ℤ, pos, negsuc, nat_abs, ◌+ℤ◌, ◌-ℤ◌, ◌*ℤ◌}
use lib.Signed.{◌≤ℤ◌, ◌<ℤ◌}
use Rattle.integer.specs.Parts.{up, dn}
use Rattle.integer.proofs.View.{+v, -v, *v, negv, absv, near, onev, Zs}
use Rattle.integer.proofs.Ring.{times, abs-*}
use Rattle.integer.specs.Rounding.{floor, Nearest, nearest, M, clip}

-- ---- floor: its two parts, m q ≤ u and u < m q + m
pub floorv : (u : ℤ) (m : ℕ) → 0 < m
    → (m * up (floor u m) + dn u ≤ up u + m * dn (floor u m))
    × (up u + m * dn (floor u m) < m * up (floor u m) + dn u + m)
unfolding floor
floorv (pos a) m h = omega (arith, div-add-mod' a m, mod-lt a h)
floorv (negsuc a) m h = omega (arith, div-add-mod' a m, mod-lt a h)

pub floor-low : (u : ℤ) (m : ℕ) → 0 < m → (pos m *ℤ floor u m) ≤ℤ u
floor-low u m h = omega (Zs, floorv u m h, *v (pos m) (floor u m))

pub floor-high : (u : ℤ) (m : ℕ) → 0 < m → u <ℤ (pos m *ℤ floor u m +ℤ pos m)
floor-high u m h = omega (Zs, floorv u m h, *v (pos m) (floor u m), +v (pos m *ℤ floor u m) (pos m))

-- m a < m b + m gives a ≤ b, by cases on b < a
pub below : (m a b : ℕ) → 0 < m → m * a < m * b + m → a ≤ b
below m a b h k = go (dec_lt b a)
  where
    go : Dec (b < a) → a ≤ b
    go (yes g) = absurd (omega (arith, mul-le-mul_right m g))
    go (no g) = omega arith

-- the same of integers, in parts
belowv : (m : ℕ) (q p : ℤ) → 0 < m → m * up q + m * dn p < m * up p + m * dn q + m → q ≤ℤ p
belowv m q p h k = omega (Zs, below m (up q + dn p) (up p + dn q) h (omega arith))

pub floor-only : (u q : ℤ) (m : ℕ) → 0 < m → (pos m *ℤ q) ≤ℤ u → u <ℤ (pos m *ℤ q +ℤ pos m) → q ≡ floor u m
floor-only u q m h l k =
    omega (
      Zs,
      belowv m q (floor u m) h (omega (Zs, floorv u m h, *v (pos m) q)),
      belowv m (floor u m) q h (omega (Zs, floorv u m h, *v (pos m) q, +v (pos m *ℤ q) (pos m))),
    )

-- ---- nearest
pub nearest-is : (p : ℤ) (q : ℕ) → 0 < q → Nearest p q (nearest p q)
unfolding nearest
nearest-is p q h =
    let u = pos 2 *ℤ p +ℤ pos q in
    record { low = floor-low u (2 * q) (omega arith); high = floor-high u (2 * q) (omega arith) }

pub nearest-only : (p : ℤ) (q : ℕ) (A : ℤ) → 0 < q → Nearest p q A → A ≡ nearest p q
unfolding nearest
nearest-only p q A h n = floor-only (pos 2 *ℤ p +ℤ pos q) A (2 * q) (omega arith) n.low n.high

-- equal fractions have the same floor
floor-same : (u v : ℤ) (m n : ℕ) → 0 < m → 0 < n → u *ℤ pos n ≡ v *ℤ pos m → floor u m ≡ floor v n
floor-same u v m n h k e =
    let f = floor u m in
    let uv : up u * n + dn v * m ≡ up v * m + dn u * n = omega (Zs, *v u (pos n), *v v (pos m)) in
    let low = mul-le-mul_right n (floorv u m h).0 in
    let high = mul-le-mul_right n (floorv u m h).1 in
    let X = pos n *ℤ f in
    floor-only v f n k
    (belowv m X v h (omega (arith, low, times m (*v (pos n) f))))
    (omega (
      Zs,
      belowv m (v +ℤ pos 1) (X +ℤ pos n) h
          (omega (arith, high, times m (*v (pos n) f), times m (+v X (pos n)), times m (+v v (pos 1)))),
      +v v (pos 1),
    ))

-- equal fractions have the same nearest number
pub nearest-same : (p s : ℤ) (q r : ℕ) → 0 < q → 0 < r → p *ℤ pos r ≡ s *ℤ pos q → nearest p q ≡ nearest s r
unfolding nearest
nearest-same p s q r h k e =
    let u = pos 2 *ℤ p +ℤ pos q in
    let v = pos 2 *ℤ s +ℤ pos r in
    let pr : up p * r + dn s * q ≡ up s * q + dn p * r = omega (Zs, *v p (pos r), *v s (pos q)) in
    let ur = times r (+v (pos 2 *ℤ p) (pos q)) in
    let vq = times q (+v (pos 2 *ℤ s) (pos r)) in
    let uv : up u * r + dn v * q ≡ up v * q + dn u * r
    = omega (arith, ur, vq, times r (*v (pos 2) p), times q (*v (pos 2) s)) in
    floor-same u v (2 * q) (2 * r) (omega arith) (omega arith)
    (omega (Zs, *v u (pos (2 * r)), *v v (pos (2 * q))))

-- 2 q n ≤ 2 P + q holds of a lower q too
lowered : (n P q Q : ℕ) → Q ≤ q → 2 * q * n ≤ 2 * P + q → n * (2 * Q) ≤ 2 * P + Q
lowered zero P q Q h k = omega arith
lowered (suc n) P q Q h k = omega (arith, mul-le-mul_right n h)

-- a fraction with a top no larger in size and a bottom no lower has a nearest number no larger in size
pub nearest_abs : (p : ℤ) (P q Q : ℕ) → 0 < Q → nat_abs p ≤ P → Q ≤ q
    → nat_abs (nearest p q) ≤ (2 * P + Q) / (2 * Q)
nearest_abs p P q Q g h l =
    let A = nearest p q in
    let n = nearest-is p q (omega arith) in
    let z = pos (2 * q) *ℤ A in
    let v = +v (pos 2 *ℤ p) (pos q) in
    let b = near z {B = 2 * P + q} (omega (Zs, v, *v (pos 2) p, +v z (pos (2 * q)), absv p)) in
    (le-div_iff_mul-le {k = 2 * Q} {x = nat_abs A} (omega arith)).1
    (lowered (nat_abs A) P q Q l (rw abs-* at b))

-- ---- clip
pub clipv : (u : ℤ) → (up (clip u) ≡ min (up u) M) × (dn (clip u) ≡ min (dn u) M)
unfolding clip
clipv (pos n) = (refl, omega arith)
clipv (negsuc n) = omega (arith, negv (pos (min (suc n) M)))

pub clip_abs : (u : ℤ) → nat_abs (clip u) ≤ M
clip_abs u = near (clip u) (omega (arith, clipv u))

pub clip-near : (u v : ℤ) (E : ℕ) → nat_abs (u -ℤ v) ≤ E → nat_abs (clip u -ℤ clip v) ≤ E
clip-near u v E h =
    near (clip u -ℤ clip v)
    (omega (arith, clipv u, clipv v, onev u, onev v, -v u v, absv (u -ℤ v), -v (clip u) (clip v)))

-- within the limits a number is kept, and no number within them is nearer to u than `clip u` is
pub clip-kept : (u : ℤ) → nat_abs u ≤ M → clip u ≡ u
clip-kept u h = omega (Zs, clipv u, absv u, onev u)

pub clip-nearest : (u z : ℤ) → nat_abs z ≤ M → nat_abs (u -ℤ clip u) ≤ nat_abs (u -ℤ z)
clip-nearest u z h =
    near (u -ℤ clip u) (omega (arith, clipv u, onev u, absv z, absv (u -ℤ z), -v u (clip u), -v u z))
