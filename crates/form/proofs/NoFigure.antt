-- The instance of specs/Unstored.antt: v1 = 2M over a line of zeros, at once and behind a commit.
use mathlib.Core.Path.{refl}
use Prim.Native.Nat.{◌≤◌}
use native.Mathlib.Omega.{arith}
use Rattle.integer.specs.Rounding.{floor, nearest, clip}
use Rattle.integer.specs.Cut.{cut, R, Q}
use Rattle.octets.specs.Octets as Octets
use Rattle.thiran.specs.Formula.{a, factor}
use Rattle.thiran.specs.Coefficients.{coefficient, coefficients}
use Rattle.allpass.specs.Allpass.{inner, next, out}
use Rattle.allpass.specs.Stored.{stored}
use Rattle.rule.specs.Voice.{output, written, settled, stepped, noise, spent}
use Rattle.rule.specs.Calls.{number, done}
use Rattle.rule.specs.State.{silence, step, sounds, call, put}
use Rattle.rule.specs.History.{read, new}
use Rattle.rule.specs.Click.{figure}
use Rattle.form.specs.Limits.{limits}
use Rattle.form.specs.Parts.{decoded, parts, numbers_in, refused_parts, flags, size, unpacked, held_in}
use Rattle.form.specs.Loads.{load_number, loads}
use Rattle.form.specs.Unstored.{NoFigure}

pub no-figure : NoFigure
unfolding
    floor nearest cut R Q clip factor a coefficient coefficients inner next out stored noise spent output written
    settled stepped number done step sounds call put read new figure silence Octets.number limits decoded parts
    numbers_in refused_parts flags size unpacked held_in load_number loads
no-figure = record {
  state_passes = refl;
  state_sample = refl;
  change_passes = refl;
  change_numbers = refl;
  change_sample = refl;
  from_rest_lem = refl;
  claimed = refl;
  missed = λ f. let n : 8388607 ≤ 2 = f.near in omega (arith, n);
}
