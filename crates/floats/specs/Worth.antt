-- What a float is worth. lib.Ieee has a float as `nan`, `inf s` or `fin s m e`, the number m × 2^e, below
-- zero where s is true. Definitions alone.
use Rattle.std.specs.Prelude.{ℕ, ◌*◌, Bool, true, false, ℤ, pos, neg_ℤ, Float}
use Rattle.std.specs.Float.{nan, inf, fin}
use Rattle.std.specs.Float.Ieee.{up, down}

-- neither "not a number" nor "infinite"
abbrev pub finite : Float → Bool
finite nan = false
finite (inf s) = false
finite (fin s m e) = true

-- a finite float is the fraction `above x` / `unit x`, a whole number over a power of two
abbrev pub signed : Bool → ℕ → ℤ
signed false n = pos n
signed true n = neg_ℤ (pos n)

abbrev pub above : Float → ℤ
above nan = pos 0
above (inf s) = pos 0
above (fin s m e) = signed s (m * up e)

abbrev pub unit : Float → ℕ
unit nan = 1
unit (inf s) = 1
unit (fin s m e) = down e

-- the magnitude of `above x`
abbrev pub size : Float → ℕ
size nan = 0
size (inf s) = 0
size (fin s m e) = m * up e
