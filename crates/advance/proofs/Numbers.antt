-- Answers of `least` in numbers: computed.
use mathlib.Core.Path.{refl}
use Rattle.integer.specs.Rounding.{nearest, floor}
use Rattle.thiran.specs.Formula.{factor, a}
use Rattle.thiran.specs.Coefficients.{coefficient, coefficients}
use Rattle.allpass.specs.Bounds.{distance, own_figure}
use Rattle.advance.specs.Least.{first, least_advance}
use Rattle.advance.specs.Returns.{Numbers}

pub numbers : Numbers
unfolding least_advance first own_figure distance coefficients coefficient nearest floor a factor
numbers = record {
  a4_1 = refl;
  a4_2 = refl;
  a4_3 = refl;
  most_1 = refl;
  most_2 = refl;
  none_3 = refl;
  whole_3 = refl;
  at_once = refl;
}
