-- `allpass::at_rest` meets its contract: each number of a struct that holds the empty list is 0.
-- Assumes nothing.
use mathlib.Core.Path.{refl}
use Rattle.allpass.specs.Stored.{stored}
use Rattle.allpass.proofs.at_rest.Goals as goal

pub returns : goal.returns
unfolding stored
returns c = refl
