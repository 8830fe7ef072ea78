-- The rows of a junction, by computing.
use mathlib.Core.Path.{refl}
use Rattle.integer.specs.Rounding.{nearest, floor, clip}
use Rattle.integer.specs.Cut.{cut, R}
use Rattle.thiran.specs.Formula.{a, factor}
use Rattle.thiran.specs.Coefficients.{coefficient, coefficients}
use Rattle.allpass.specs.Allpass.{inner, next, out}
use Rattle.junction.specs.Junction.{reflection, filter_output, to_right, to_left, settle, step}
use Rattle.junction.specs.Calls.{number, open_junction, accept, call, put}
use Rattle.junction.specs.JunctionRows.{Rows}

pub rows_are : Rows
unfolding reflection nearest floor clip cut R a factor coefficient coefficients inner next out filter_output to_right to_left settle step number open_junction accept call put
rows_are = record {
  least = refl;
  most = refl;
  equal = refl;
  twice = refl;
  half = refl;
  area = refl;
  delay = refl;
  advance = refl;
  moves = refl;
  at_once = refl;
  refused = refl;
}
