-- The figures that requests add, all by computation.
-- Assumes nothing.
use mathlib.Core.Path.{refl}
use Rattle.integer.specs.Rounding.{floor, nearest}
use Rattle.thiran.specs.Formula.{factor, a}
use Rattle.thiran.specs.Coefficients.{coefficient, coefficients}
use Rattle.figures.specs.Added.{Added}

pub added : Added
unfolding floor nearest factor a coefficient coefficients
added = record { d10241 = refl; d12288 = refl; d14336 = refl }
