-- The period as the code has it, 2^42 above and 2^(o + 6) below, where o + 6 is (m + 3) / 12; and its size.
-- Assumes nothing.
use mathlib.Core.Path.{◌≡◌, refl, ap}
use Prim.Native.Nat.{ℕ, ◌+◌, ◌*◌, ◌/◌, ◌^◌, ◌≤◌, ◌<◌}
use native.Mathlib.Omega.{arith}
use native.Mathlib.Nat.{mul-le-mul, div-lt_iff_lt-mul}
use lib.Dec.{lit<}
use lib.IntN.{pos, ◌-ℤ◌}
use lib.ListN.{get_or}
use lib.Pow.{pow_mono, pow-add}
use Rattle.integer.specs.Parts.{up, dn}
use Rattle.integer.specs.Rounding.{floor, nearest}
use Rattle.integer.proofs.View.{Zs, -v}
use Rattle.integer.proofs.Rounding.{floorv, nearest-same}
use Rattle.pitch.specs.Pitch.{octave, o, k, period}
use Rattle.pitch.proofs.Theorems.{entry_size, placed, divisor_least}

module _ (m : ℕ) where
  abbrev pub power : ℕ
  power = (m + 3) / 12

  abbrev tuned : ℕ
  tuned = 440 * get_or octave (k m) 0

  pub tuned-most : tuned < 2 ^ 34
  tuned-most = omega (arith, entry_size (k m) (placed m).below)

  pub divisor_most : m ≤ 127 → tuned * 2 ^ power ≤ 2 ^ 44
  divisor_most h =
      let p : power ≤ 10 = omega arith in
      let t : tuned ≤ 2 ^ 34 = omega (arith, tuned-most) in
      omega (arith, mul-le-mul t (pow_mono p))

  -- 2^36 over 2^o is 2^42 over 2^(o + 6)
  shifted : 2 ^ 36 * 2 ^ dn (o m) * 2 ^ power ≡ 2 ^ 42 * 2 ^ up (o m)
  shifted =
      let u = pos m -ℤ pos 69 in
      let f = floorv u 12 (lit< tt) in
      let e : 36 + dn (o m) + power ≡ 42 + up (o m) = omega (Zs, -v (pos m) (pos 69), f) in
      rw (← pow-add 2 36 (dn (o m)), ← pow-add 2 (36 + dn (o m)) power, e, pow-add 2 42 (up (o m)))

  pub quotient : (fs : ℕ) → nearest (pos (fs * 2 ^ 42)) (tuned * 2 ^ power) ≡ period fs m
  unfolding period
  quotient fs =
      let p = pos (fs * 2 ^ 36 * 2 ^ dn (o m)) in
      nearest-same (pos (fs * 2 ^ 42)) p (tuned * 2 ^ power) (tuned * 2 ^ up (o m))
      (omega (arith, divisor_least m power)) (omega (arith, divisor_least m (up (o m))))
      (ap pos (omega (arith, ap (λ (x : ℕ). fs * tuned * x) shifted)))

-- of numbers that are not below 0 the nearest is not
pub not_below : (n q : ℕ) → nearest (pos n) q ≡ pos (up (nearest (pos n) q))
unfolding nearest floor
not_below n q = refl

-- the period fits 32 bits
pub small : (n q : ℕ) → n ≤ 192000 * 2 ^ 42 → 440 * 2 ^ 24 ≤ q → up (nearest (pos n) q) < 2 ^ 32
unfolding nearest floor
small n q h l = (div-lt_iff_lt-mul {k = 2 * q} {x = 2 * n + q} {y = 2 ^ 32} (omega arith)).1 (omega arith)
