-- The rows of specs/Rows.antt, by computing.
use Rattle.std.proofs.Common.{refl}
use lib.Ieee.{round, of_bits}
use Rattle.integer.specs.Rounding.{floor, nearest, clip}
use Rattle.pitch.specs.Pitch.{split_l, split_d}
use Rattle.floats.specs.Sample.{leaves, enters}
use Rattle.floats.specs.Loss.{loss}
use Rattle.floats.specs.Delay.{split}
use Rattle.floats.specs.Rows.{Rows}

pub rows : Rows
unfolding leaves enters loss split round of_bits floor nearest clip split_l split_d
rows = record {
  leaving_one = refl;
  leaving_least = refl;
  below_half = refl;
  half = refl;
  minus_half = refl;
  one = refl;
  past_one = refl;
  not_a_number = refl;
  most_loss = refl;
  minus_zero = refl;
  half_delay = refl;
  huge = refl;
}
