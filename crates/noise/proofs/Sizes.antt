-- How large a state and a draw are.
-- Assumes nothing.
use Rattle.std.proofs.Common.{ℕ, ◌/◌, ◌^◌, ◌<◌, ◌≤◌, pos, nat_abs, arith}
use Rattle.integer.proofs.View.{near, -v}
use Rattle.noise.specs.Noise.{next, value}

pub next-size : (z : ℕ) → next z < 2 ^ 32
unfolding next
next-size z = omega arith

pub value-size : (z : ℕ) → z < 2 ^ 32 → nat_abs (value z) ≤ 32768
unfolding value
value-size z h = near (value z) (omega (arith, -v (pos (z / 65536)) (pos 32768)))
