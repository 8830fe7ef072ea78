-- What the steps of a conversion hand on: an f32 as an exact f64, and an f64 whose whole part is counted.
use Rattle.std.specs.Prelude.{◌≡◌, ℕ, ◌*◌, ◌^◌, ◌<◌, ◌≤◌, false, T, pos, ◌*ℤ◌, Float}
use Rattle.std.specs.Float.{fin}
use Rattle.floats.specs.Worth.{finite, size, unit, above}

-- u is exactly x × 2^k
pub record Scaled (x : Float) (k : ℕ) (u : Float) : Type 0 where
  pub is_finite : T (finite u)
  pub sizes : size u * unit x ≡ size x * 2 ^ k * unit u
  pub equal : above u *ℤ pos (unit x) ≡ (above x *ℤ pos (2 ^ k)) *ℤ pos (unit u)

-- so it is where the power is 2^k
abbrev pub Scales : Float → Float → Float → Type 0
Scales x power u = (k : ℕ) → k ≤ 64 → power ≡ fin false 1 (pos k) → Scaled x k u

-- a finite float that is not below zero, and below 2^53
pub record Counted (x : Float) : Type 0 where
  pub is_finite : T (finite x)
  pub not_below : above x ≡ pos (size x)
  pub under : size x < 2 ^ 53 * unit x
