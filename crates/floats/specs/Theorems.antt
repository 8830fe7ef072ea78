-- What leaves is exact, and enters as it was. Statements alone: proofs/Theorems.antt proves `Theorems`.
use Rattle.std.specs.Prelude.{◌≡◌, ◌^◌, ◌≤◌, false, T, ℤ, pos, ◌*ℤ◌, unsigned_abs}
use Rattle.std.specs.Float.{fin}
use Rattle.integer.specs.Rounding.{M}
use Rattle.floats.specs.Worth.{finite, above, unit}
use Rattle.floats.specs.Sample.{leaves, enters}

-- "each whole sample n leaves as n / 2^23, exactly": the f32 is finite, and as a fraction it is n / 2^23
pub record Exact (n : ℤ) : Type 0 where
  pub is_finite : T (finite (leaves n))
  pub equal : above (leaves n) *ℤ pos (2 ^ 23) ≡ n *ℤ pos (unit (leaves n))

pub record Theorems : Type 0 where
  pub exact : (n : ℤ) → unsigned_abs n ≤ M → Exact n
  -- 0 leaves as +0.0
  pub zero : leaves (pos 0) ≡ fin false 0 (pos 0)
  -- what left enters as it was
  pub back : (n : ℤ) → unsigned_abs n ≤ M → enters (leaves n) ≡ record { refusal = 0; n = n }
