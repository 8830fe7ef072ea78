-- A number that is read from a list within B is within B.
-- Assumes nothing.
use mathlib.Core.Path.{◌≡◌}
use mathlib.Core.List.{List}
use Prim.Native.Nat.{ℕ, ◌≤◌}
use lib.IntN.{ℤ, pos, nat_abs}
use lib.ListN.{get_or}
use Rattle.allpass.specs.Bounds.{Within}
use Rattle.rule.proofs.Read.{get_d_within}

pub read-within : {B : ℕ} {v : List ℤ} {x : ℤ} (k : ℕ) → Within B v → x ≡ get_or v k (pos 0) → nat_abs x ≤ B
read-within k h e = rw e (get_d_within k h)
