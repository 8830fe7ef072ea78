-- `step::filter::moved` meets its contract: a tuned filter is fed, and is tuned afterwards.
-- Assumes nothing.
use Rattle.step.proofs.Filters.{tuned-fed, tuned-moved}
use Rattle.step.proofs.filter.moved.Goals as goal

pub eliminate-state-requires : goal.eliminate-state-requires
eliminate-state-requires c = let i = c.requires in tuned-fed i.0 i.1

pub returns : goal.returns
returns c =
    let i = c.requires in
    tuned-moved i.0 i.1 c.eliminate-state.ensures
