-- `advance::search` meets its contract. The loop's invariant: b is b(k), and no advance below k times the order is
-- enough.
use mathlib.Core.Path.{◌≡◌}
use Prim.Native.Nat.{ℕ, ◌*◌, ◌/◌, ◌≤◌, ◌<◌}
use Rattle.allpass.specs.Bounds.{distance, own_figure}
use Rattle.advance.proofs.search.Given as goal

pub record Round (n order wanted b k : ℕ) : Type 0 where
  pub small : b ≤ 16777214
  pub bound : b ≡ distance n k
  pub before : (a : ℕ) → a < k * order → wanted < own_figure n (a / order)

abbrev pub invariant-loop-k : goal.invariant-loop-k
invariant-loop-k l = Round l.n l.order l.wanted l.b l.k
