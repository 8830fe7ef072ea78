-- Floor division, rounding to the nearest and clipping of whole numbers, as document 01 has them.
-- Definitions alone: specs/Theorems.antt has what they are from outside, proofs/Rounding.antt their laws.
use Rattle.std.specs.Prelude.{ℕ, suc, ◌*◌, ◌/◌, min, ℤ, pos, negsuc, neg_ℤ, ◌+ℤ◌, ◌*ℤ◌, ◌≤ℤ◌, ◌<ℤ◌}

-- "Floor goes downward, also below zero": the whole part, downward, of u / m
unfoldable pub floor : ℤ → ℕ → ℤ
floor (pos a) m = pos (a / m)
floor (negsuc a) m = negsuc (a / m)

-- "the nearest whole number, a half going upward": A ≤ p / q + 1 / 2 < A + 1, times 2 q
pub record Nearest (p : ℤ) (q : ℕ) (A : ℤ) : Type 0 where
  pub low : (pos (2 * q) *ℤ A) ≤ℤ (pos 2 *ℤ p +ℤ pos q)
  pub high : (pos 2 *ℤ p +ℤ pos q) <ℤ (pos (2 * q) *ℤ A +ℤ pos (2 * q))

-- that number: the one that is `Nearest`, where q is above 0
unfoldable pub nearest : ℤ → ℕ → ℤ
nearest p q = floor (pos 2 *ℤ p +ℤ pos q) (2 * q)

-- "M = 8,388,607. A sample is a whole number from −M to M"
abbrev pub M : ℕ
M = 8388607

-- "clip(u) is the nearest such number to u"
unfoldable pub clip : ℤ → ℤ
clip (pos n) = pos (min n M)
clip (negsuc n) = neg_ℤ (pos (min (suc n) M))
