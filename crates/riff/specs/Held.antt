-- What a list of bytes holds where it is a file: its rate, and its samples. Document 02, L1.
-- Definitions alone. Assumes nothing.
use Rattle.std.specs.Prelude.{List, map, ℕ, ◌/◌, ℤ, take, drop}
use Rattle.integer.specs.Rounding.{clip}
use Rattle.octets.specs.Octets.{number, loaded}

-- the four bytes of a header's field at a place
abbrev pub word : List ℕ → ℕ → ℕ
word s at = number (take 4 (drop at s))

-- the rate stands at byte 24, the data size at byte 40, the data from byte 44 on
abbrev pub rate_of : List ℕ → ℕ
rate_of s = word s 24

abbrev pub count_of : List ℕ → ℕ
count_of s = word s 40 / 3

unfoldable pub held_in : List ℕ → List ℤ
held_in s = loaded 3 (count_of s) (drop 44 s)

-- "A stored −8,388,608 reads as −M": a stored number reads as the nearest sample
unfoldable pub samples_of : List ℕ → List ℤ
samples_of s = map clip (held_in s)
