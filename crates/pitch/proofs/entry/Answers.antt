-- `pitch::entry` meets its contract: the code's table is the octave.
-- Assumes nothing.
use mathlib.Core.Path.{refl}
use Rattle.pitch.specs.Pitch.{octave}
use Rattle.pitch.proofs.entry.Goals as goal

pub returns : goal.returns
unfolding octave
returns c = refl
