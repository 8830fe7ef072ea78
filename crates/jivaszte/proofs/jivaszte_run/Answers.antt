-- `jivaszte::jivaszte_run` meets its contract: what the run returned is in its result and in what is lent.
-- Assumes nothing.
use Rattle.jivaszte.proofs.jivaszte_run.Goals as goal

pub returns : goal.returns
returns c = rw c.code.ensures c.run-p.ensures
