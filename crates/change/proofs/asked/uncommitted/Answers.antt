-- `change::asked::uncommitted` meets its contract: the tests of a commit, in their order.
-- Assumes nothing.
use Rattle.rule.specs.Calls.{number}
use Rattle.change.proofs.Ending.{commits-or-not}
use Rattle.change.proofs.asked.uncommitted.Goals as goal

pub returns : goal.returns
unfolding number
returns c = commits-or-not c.requires c.early.result c.early.ensures
