-- Samples as f32 (document 02, L13). Definitions alone: specs/Theorems.antt and specs/Returns.antt say what
-- they are from outside.
use Rattle.std.specs.Prelude.{ℕ, suc, ◌^◌, true, false, cond, not, ℤ, pos, negsuc, ◌*ℤ◌, nat_lt, Float, Result, Ok, Err}
use Rattle.std.specs.Float.{binary32}
use Rattle.std.specs.Float.Ieee.{round}
use Rattle.integer.specs.Rounding.{nearest, clip}
use Rattle.refusal.specs.declared.Refusal.{Refusal}
use Rattle.refusal.specs.Numbers.{number_of}
use Rattle.floats.specs.Worth.{finite, size, unit, above}

-- "each whole sample n leaves as n / 2^23, exactly": the f32 that is nearest to it, which is it
unfoldable pub leaves : ℤ → Float
leaves (pos n) = round binary32 false n (2 ^ 23)
leaves (negsuc n) = round binary32 true (suc n) (2 ^ 23)

-- what `enter` returns: its number, 0 for success, and the sample
pub record Sample : Type 0 where
  pub refusal : ℕ
  pub n : ℤ

abbrev pub refused : ℕ → Sample
refused k = record { refusal = k; n = pos 0 }

abbrev pub sample_of : Result ℤ Refusal → Sample
sample_of (Ok n) = record { refusal = 0; n = n }
sample_of (Err r) = refused (number_of r)

-- "Incoming samples go to the nearest whole number of 1/2^23, half upward, then clip"; "26 not a number or
-- infinite; 27 a sample outside −1 to 1"
unfoldable pub enters : Float → Sample
enters x =
    cond (not (finite x)) (refused 26)
    (cond (nat_lt (unit x) (size x)) (refused 27)
    (record { refusal = 0; n = clip (nearest (above x *ℤ pos (2 ^ 23)) (unit x)) }))
