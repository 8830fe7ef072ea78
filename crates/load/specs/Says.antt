-- What the tests of a stored voice's numbers say. Definitions alone.
use Rattle.std.specs.Prelude.{◌≡◌, Bool, true, ℕ, ◌≤◌}

-- r is true if and only if P holds
pub record Says (r : Bool) (P : Type 0) : Type 0 where
  pub yes : r ≡ true → P
  pub no : P → r ≡ true

-- "zero past the order", of the magnitudes of the second and the third number of a state
pub record Past (N y z : ℕ) : Type 0 where
  pub second : N ≤ 1 → y ≡ 0
  pub third : N ≤ 2 → z ≡ 0
