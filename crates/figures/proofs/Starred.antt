-- The starred figures, all by computation.
-- Assumes nothing.
use mathlib.Core.Path.{refl}
use Rattle.integer.specs.Rounding.{floor, nearest, clip}
use Rattle.integer.specs.Cut.{cut, R, Q}
use Rattle.thiran.specs.Formula.{factor, a}
use Rattle.thiran.specs.Coefficients.{coefficient, coefficients}
use Rattle.allpass.specs.Allpass.{inner, next, out}
use Rattle.allpass.specs.Length.{response, last_above, effective_length}
use Rattle.noise.specs.Noise as Noise
use Rattle.pitch.specs.Pitch.{octave, period, split_l, split_d, pitch}
use Rattle.rule.specs.Voice.{noise, spent, output, written, settled, stepped}
use Rattle.rule.specs.Calls.{number, opened, done}
use Rattle.rule.specs.State.{step, sounds, call, put, silence}
use Rattle.figures.specs.Starred.{Starred}

pub starred : Starred
unfolding
    floor nearest cut R Q clip factor a coefficient coefficients inner next out response last_above
    effective_length Noise.next Noise.value octave period split_l split_d pitch
    noise spent output written settled stepped number opened done step sounds call put silence
starred = record {
  d2049 = refl;
  d4096 = refl;
  d6144 = refl;
  d2979 = refl;
  d6145 = refl;
  d10240 = refl;
  d8192 = refl;
  allpass = refl;
  loop = refl;
  draw = refl;
  note1 = refl;
  note2 = refl;
  length = refl;
}
