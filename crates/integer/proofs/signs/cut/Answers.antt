-- `integer::signs::cut` meets its contract: R cuts by 2^16.
use Rattle.integer.specs.Cut.{R}
use Rattle.integer.proofs.signs.cut.Goals as goal

pub returns : goal.returns
unfolding R
returns c = c.cut_by.ensures
