-- What "cut toward zero" (document 02, L7) means of R and of the loop's division, in ≤ and around the divisors.
-- Statements alone: proofs/Cut.antt proves `Toward`. Assumes nothing.
use Rattle.std.specs.Prelude.{◌≡◌, ◌↔◌, ℕ, ◌+◌, ◌*◌, ◌-◌, ◌/◌, ◌≤◌, ◌<◌, ℤ, pos, negsuc, nat_abs, ◌-ℤ◌, ◌≤ℤ◌}
use Rattle.integer.specs.Cut.{cut, R, Q}

-- q is u / d cut toward zero: |u| − d < d |q| ≤ |u|, and q has the sign of u, or is 0
pub record Cuts (u : ℤ) (d : ℕ) (q : ℤ) : Type 0 where
  pub low : d * nat_abs q ≤ nat_abs u
  pub high : nat_abs u < d * nat_abs q + d
  pub above : pos 0 ≤ℤ u → pos 0 ≤ℤ q
  pub under : u ≤ℤ pos 0 → q ≤ℤ pos 0

-- around their divisors: below it in magnitude the quotient is 0 on both sides, and no half is added
pub record AtDivisor : Type 0 where
  pub zero : (R (pos 65535) ≡ pos 0) × (R (negsuc 65534) ≡ pos 0)
  pub one : (R (pos 65536) ≡ pos 1) × (R (negsuc 65535) ≡ negsuc 0)
  pub still : (R (pos 131071) ≡ pos 1) × (R (negsuc 131070) ≡ negsuc 0)
  pub loop_zero : (Q (pos 131071) ≡ pos 0) × (Q (negsuc 131070) ≡ pos 0)
  pub loop_one : (Q (pos 131072) ≡ pos 1) × (Q (negsuc 131071) ≡ negsuc 0)

pub record Toward : Type 0 where
  -- R(u) and the loop's quotient are those numbers, and no others
  pub R-cuts : (u q : ℤ) → q ≡ R u ↔ Cuts u 65536 q
  pub Q-cuts : (u q : ℤ) → q ≡ Q u ↔ Cuts u 131072 q
  -- how large a cut number is, and how far apart two of them are: |u − v| / d, upward
  pub size : (u : ℤ) (d : ℕ) → nat_abs (cut u d) ≡ nat_abs u / d
  pub apart : (u v : ℤ) (d : ℕ) → 0 < d
      → nat_abs (cut u d -ℤ cut v d) ≤ (nat_abs (u -ℤ v) + (d - 1)) / d
  pub at_divisor : AtDivisor
