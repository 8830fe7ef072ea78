-- The rows from another implementation, all by computation.
-- Assumes nothing.
use mathlib.Core.Path.{refl}
use Rattle.integer.specs.Rounding.{floor, nearest, clip}
use Rattle.integer.specs.Cut.{cut, R, Q}
use Rattle.thiran.specs.Formula.{factor, a}
use Rattle.thiran.specs.Coefficients.{coefficient, coefficients}
use Rattle.allpass.specs.Allpass.{inner, next, out}
use Rattle.noise.specs.Noise as Noise
use Rattle.rule.specs.Voice.{noise, spent, output, written, settled, stepped}
use Rattle.rule.specs.Calls.{number, opened, done, count}
use Rattle.rule.specs.State.{step, sounds, call, put, silence}
use Rattle.figures.specs.Rows.{Rows}

pub rows : Rows
unfolding
    floor nearest cut R Q clip factor a coefficient coefficients inner next out Noise.next Noise.value
    noise spent output written settled stepped number opened done count step sounds call put silence
rows = record {
  openings = refl;
  orders-announced = record { opening = refl; numbers = refl; counts = refl; outputs = refl; voice = refl; line = refl };
  orders-asked = record { opening = refl; numbers = refl; counts = refl; outputs = refl; voice = refl; line = refl };
  orders-refused = record { opening = refl; numbers = refl; counts = refl; outputs = refl; voice = refl; line = refl };
  clips = record { opening = refl; numbers = refl; counts = refl; outputs = refl; voice = refl; line = refl };
  early = record { opening = refl; numbers = refl; counts = refl; outputs = refl; voice = refl; line = refl };
  at_once = record { opening = refl; numbers = refl; counts = refl; outputs = refl; voice = refl; line = refl };
  plucks = record { opening = refl; numbers = refl; counts = refl; outputs = refl; voice = refl; line = refl };
  refused1 = record { opening = refl; numbers = refl; counts = refl; outputs = refl; voice = refl; line = refl };
}
