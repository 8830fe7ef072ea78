-- Floor and clip from outside, in the paper's words. Statements alone: proofs/Theorems.antt proves them.
use Rattle.std.specs.Prelude.{◌≡◌, ℕ, ◌≤◌, ◌<◌, ℤ, pos, negsuc, nat_abs, ◌+ℤ◌, ◌-ℤ◌, ◌*ℤ◌, ◌≤ℤ◌, ◌<ℤ◌}
use Rattle.integer.specs.Rounding.{floor, M, clip}

-- "Floor goes downward, also below zero": m floor(u/m) ≤ u < m floor(u/m) + m, and it alone does
pub record Downward (u : ℤ) (m : ℕ) : Type 0 where
  pub low : (pos m *ℤ floor u m) ≤ℤ u
  pub high : u <ℤ (pos m *ℤ floor u m +ℤ pos m)
  pub only : (q : ℤ) → (pos m *ℤ q) ≤ℤ u → u <ℤ (pos m *ℤ q +ℤ pos m) → q ≡ floor u m

-- "clip(u) is the nearest such number to u": of the numbers from −M to M, and it alone is
pub record Clipped (u : ℤ) : Type 0 where
  pub within : nat_abs (clip u) ≤ M
  pub nearest : (z : ℤ) → nat_abs z ≤ M → nat_abs (u -ℤ clip u) ≤ nat_abs (u -ℤ z)
  pub only : (z : ℤ) → nat_abs z ≤ M → nat_abs (u -ℤ z) ≤ nat_abs (u -ℤ clip u) → z ≡ clip u

pub record Theorems : Type 0 where
  pub floors : (u : ℤ) (m : ℕ) → 0 < m → Downward u m
  pub clips : (u : ℤ) → Clipped u
  -- −1/2 and −7/4 go down, to −1 and −2; 7/4 to 1
  pub below_zero : (floor (negsuc 0) 2 ≡ negsuc 0) × (floor (negsuc 6) 4 ≡ negsuc 1)
  pub above_zero : floor (pos 7) 4 ≡ pos 1
  -- the last sample, and the first number that is none, on either side
  pub samples : (clip (pos 8388607) ≡ pos 8388607) × (clip (negsuc 8388606) ≡ negsuc 8388606)
  pub others : (clip (pos 8388608) ≡ pos 8388607) × (clip (negsuc 8388607) ≡ negsuc 8388606)
