-- `integer::signs::cut_as` meets its contract: Q cuts by 2^17.
use Rattle.integer.specs.Cut.{Q}
use Rattle.integer.proofs.signs.cut_as.Goals as goal

pub returns : goal.returns
unfolding Q
returns c = c.cut_by.ensures
