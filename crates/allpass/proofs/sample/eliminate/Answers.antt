-- `allpass::sample::eliminate` meets its contract: w in front of the state.
-- Assumes nothing.
use Rattle.allpass.specs.Allpass.{next}
use Rattle.allpass.proofs.sample.eliminate.Goals as goal

pub returns : goal.returns
unfolding next
returns c = rw c.entering-w.ensures at c.shifted.ensures
