-- The delay line: "a line of 2,112 samples, all zero when opened", an array used as a ring.
-- Definitions alone: proofs/Ring.antt has their laws. Assumes nothing.
use Rattle.std.specs.Prelude.{List, ◌++◌, reverse, ℕ, ◌+◌, ◌-◌, ◌%◌, ◌≤◌, ℤ, take, drop}

-- the samples of the array l, newest first, where the next sample goes to place `at`:
-- before it stand the newest, and from it on the oldest
unfoldable pub ring : ℕ → List ℤ → List ℤ
ring at l = reverse (take at l) ++ reverse (drop at l)

-- n samples from place `at` on, and the n that are k steps before them, stand in the array with no end of the
-- ring between
abbrev pub Apart : ℕ → ℕ → ℕ → Type 0
Apart at k n = (at + n ≤ 2112) × ((at + 2112 - k) % 2112 + n ≤ 2112)
