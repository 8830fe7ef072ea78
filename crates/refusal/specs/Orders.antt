-- The orders of the filter, the delays that each takes, and the other limits of a voice, as documents 01 and
-- 02 (L5) have them, with the tests of order and delay. Definitions alone. Assumes nothing.
use Rattle.std.specs.Prelude.{ℕ, ◌+◌, ◌*◌, ◌-◌, ◌≤◌}
use Rattle.refusal.specs.Limits.{Limit}

-- "The order N is 1 or 2", and since L5 "an order outside 1 to 3" is refused
abbrev pub orders : ℕ
orders = 3

-- "a length L (1 to 2,048)", "a loss G (0 to 65,535, ..)", "an advance Na (0 to 64)"
abbrev pub longest : ℕ
longest = 2048

abbrev pub most_loss : ℕ
most_loss = 65535

abbrev pub most_advance : ℕ
most_advance = 64

-- "Order 1 takes d from 2,049 to 6,144, order 2 from 6,145 to 10,240"; "Order 3 .. from 10,241 to
-- 14,336" (L5)
abbrev pub lowest : ℕ → ℕ
lowest N = 4096 * N - 2047

abbrev pub highest : ℕ → ℕ
highest N = 4096 * N + 2048

-- N is an order, and d is a delay that it takes
pub record Takes (N d : ℕ) : Type 0 where
  pub least : 1 ≤ N
  pub most : N ≤ orders
  pub low : lowest N ≤ d
  pub high : d ≤ highest N

-- "1 order", "3 d" outside the limits
abbrev pub order : ℕ → Limit
order N = record { number = 1; low = 1; value = N; high = orders }

abbrev pub delay : ℕ → ℕ → Limit
delay N d = record { number = 3; low = lowest N; value = d; high = highest N }
