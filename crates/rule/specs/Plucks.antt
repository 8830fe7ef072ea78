-- "the next count steps add amplitude × draw to p": a pluck of amplitude a, count n and seed z, step by step.
-- A statement alone: proofs/Plucks.antt proves it of every history, pluck and inputs. Assumes nothing.
use Rattle.std.specs.Prelude.{◌≡◌, List, ℕ, zero, suc, ◌≤◌, ◌<◌, ℤ, pos, ◌*ℤ◌, length}
use Rattle.noise.specs.Noise.{next, value}
use Rattle.rule.specs.Voice.{noise}
use Rattle.rule.specs.Calls.{pluck}
use Rattle.rule.specs.History.{History, through, told}

-- the noise state z after i draws
abbrev pub drawn : ℕ → ℕ → ℕ
drawn zero z = z
drawn (suc i) z = drawn i (next z)

-- the pluck is called at h, and the steps with the inputs xs follow: what the step after them adds
pub record Plucks (h : History) (a n z : ℕ) (xs : List ℤ) : Type 0 where
  pub adds : length xs < n
      → noise (through (told h (pluck a n z)) xs).voice.pluck ≡ pos a *ℤ value (drawn (suc (length xs)) z)
  pub over : 1 ≤ n → n ≤ length xs → noise (through (told h (pluck a n z)) xs).voice.pluck ≡ pos 0
