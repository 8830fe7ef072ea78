-- What `least` returns, in ≤: of `least_advance`, which its contract says it returns; and in numbers.
-- Statements alone: proofs/Returns.antt proves `Returns`, proofs/Numbers.antt `Numbers`.
use Rattle.std.specs.Prelude.{◌≡◌, ◌↔◌, ℕ, ◌/◌, ◌≤◌, ◌<◌}
use Rattle.refusal.specs.Limits.{Between}
use Rattle.refusal.specs.Ranges.{InRange}
use Rattle.thiran.specs.Coefficients.{coefficients, norm}
use Rattle.allpass.specs.Bounds.{own_figure}
use Rattle.advance.specs.Least.{least_advance}
use Rattle.advance.specs.Least.{Advance}

-- the advance a is enough by the own figure of N and d: at the change's first sample k is the whole part of a/N
abbrev pub Does : ℕ → ℕ → ℕ → ℕ → Type 0
Does N d wanted a = own_figure (norm (coefficients N d)) (a / N) ≤ wanted

-- Na is enough, and the one before is not, nor any before that
pub record Least (N d wanted Na : ℕ) : Type 0 where
  pub most : Na ≤ 64
  pub does : Does N d wanted Na
  pub before : (a : ℕ) → a < Na → Does N d wanted a → ⊥

-- each number if and only if, and what comes back with it
pub record Advances (N d wanted : ℕ) (r : Advance) : Type 0 where
  pub order : (r.refusal ≡ 1) ↔ (Between 1 N 3 → ⊥)
  pub delay : (r.refusal ≡ 3) ↔ (Between 1 N 3 × (InRange N d → ⊥))
  pub none : (r.refusal ≡ 32) ↔ (InRange N d × ((a : ℕ) → a ≤ 64 → Does N d wanted a → ⊥))
  pub least : (Na : ℕ) → ((r.refusal ≡ 0) × (r.na ≡ Na)) ↔ (InRange N d × Least N d wanted Na)
  pub refused : (r.refusal ≡ 0 → ⊥) → r.na ≡ 0

pub record Returns : Type 0 where
  pub advances : (N d wanted : ℕ) → Advances N d wanted (least_advance N d wanted)

-- for a wanted 2: A4 in each order at 44,100 samples a second, the delays that need most, where none is enough, where D
-- is the order, and a distance that is met at once
pub record Numbers : Type 0 where
  pub a4_1 : least_advance 1 2979 2 ≡ record { refusal = 0; na = 10 }
  pub a4_2 : least_advance 2 7075 2 ≡ record { refusal = 0; na = 24 }
  pub a4_3 : least_advance 3 11171 2 ≡ record { refusal = 0; na = 39 }
  pub most_1 : least_advance 1 2049 2 ≡ record { refusal = 0; na = 16 }
  pub most_2 : least_advance 2 6145 2 ≡ record { refusal = 0; na = 42 }
  pub none_3 : least_advance 3 10241 2 ≡ record { refusal = 32; na = 0 }
  pub whole_3 : least_advance 3 12288 0 ≡ record { refusal = 0; na = 3 }
  pub at_once : least_advance 1 4096 16777214 ≡ record { refusal = 0; na = 0 }
