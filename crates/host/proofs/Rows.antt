-- Frames in the bits of their floats: `Rows`, by computation.
use mathlib.Core.Path.{refl}
use lib.Ieee.{round, of_bits}
use Rattle.integer.specs.Rounding.{clip, floor, nearest}
use Rattle.integer.specs.Cut.{cut, R, Q}
use Rattle.thiran.specs.Formula.{a, factor}
use Rattle.thiran.specs.Coefficients.{coefficient, coefficients}
use Rattle.allpass.specs.Allpass.{inner, next, out}
use Rattle.rule.specs.Voice.{noise, spent, output, written, settled, stepped}
use Rattle.rule.specs.Calls.{number, done}
use Rattle.rule.specs.State.{step, sounds, call, silence}
use Rattle.floats.specs.Sample.{leaves, enters}
use Rattle.instrument.specs.Strings.{play}
use Rattle.host.specs.Frames.{frame_leaves, frame_out, frames}
use Rattle.host.specs.Rows.{Rows}

pub rows : Rows
unfolding leaves enters round of_bits floor nearest clip frame_leaves frame_out frames play number done step
    sounds call silence stepped settled output written Q noise spent coefficients coefficient a factor cut R
    inner next out
rows = record { frames_are = refl; number_is = refl; done_are = refl; uneven = refl }
