-- What document 01 says of the octave, the period and its split. proofs/Theorems.antt proves it.
-- Statements alone. Assumes nothing.
use Rattle.std.specs.Prelude.{◌≡◌, ℕ, ◌+◌, ◌*◌, ◌-◌, ◌^◌, ◌<◌, ℤ, pos, ◌+ℤ◌, ◌-ℤ◌, ◌*ℤ◌, ◌≤ℤ◌, get_or}
use Rattle.integer.specs.Rounding.{Nearest}
use Rattle.integer.specs.Parts.{up, dn}
use Rattle.refusal.specs.Orders.{lowest, highest}
use Rattle.pitch.specs.Pitch.{octave, o, k, period, split_l, split_d}

-- "with t that entry, (2t − 1)^12 < 2^(300 + k) < (2t + 1)^12"
pub record Twelfth (k : ℕ) : Type 0 where
  pub low : (2 * get_or octave k 0 - 1) ^ 12 < 2 ^ (300 + k)
  pub high : 2 ^ (300 + k) < (2 * get_or octave k 0 + 1) ^ 12

-- "m − 69 = 12·o + k with k from 0 to 11"
pub record Placed (m : ℕ) : Type 0 where
  pub split : pos m -ℤ pos 69 ≡ pos 12 *ℤ o m +ℤ pos (k m)
  pub below : k m < 12

-- "T is .., nearest, half upward"
abbrev pub Rounded : ℕ → ℕ → Type 0
Rounded fs m =
    Nearest (pos (fs * 2 ^ 36 * 2 ^ dn (o m))) (440 * get_or octave (k m) 0 * 2 ^ up (o m)) (period fs m)

-- "Then T − 2,048 = 4,096·L + d with d in the order's range": there is one such L and d
pub record Split (N : ℕ) (T : ℤ) : Type 0 where
  pub sum : T -ℤ pos 2048 ≡ pos 4096 *ℤ split_l N T +ℤ split_d N T
  pub low : pos (lowest N) ≤ℤ split_d N T
  pub high : split_d N T ≤ℤ pos (highest N)
  pub only :
      (L d : ℤ) → T -ℤ pos 2048 ≡ pos 4096 *ℤ L +ℤ d → pos (lowest N) ≤ℤ d → d ≤ℤ pos (highest N)
      → (L ≡ split_l N T) × (d ≡ split_d N T)
