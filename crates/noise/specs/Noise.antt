-- The noise of a pluck, as document 01 has it under "Noise and plucks": a 32-bit generator, and its draw.
-- Definitions alone. Assumes nothing.
use Rattle.std.specs.Prelude.{ℕ, ◌+◌, ◌*◌, ◌/◌, ◌%◌, ◌^◌, ℤ, pos, ◌-ℤ◌}
use Rattle.noise.specs.declared.Drawn.{Drawn}

-- "it becomes 1,664,525 × state + 1,013,904,223, kept to the low 32 bits"
unfoldable pub next : ℕ → ℕ
next z = (1664525 * z + 1013904223) % 2 ^ 32

-- "the draw is the state's upper 16 bits less 32,768"
unfoldable pub value : ℕ → ℤ
value z = pos (z / 65536) -ℤ pos 32768

-- a draw on the state z: the state moves first, and the draw is taken from where it then stands
abbrev pub drawn : ℕ → Drawn
drawn z = record { value = value (next z); state = next z }
