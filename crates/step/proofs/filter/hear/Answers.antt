-- `step::filter::hear` meets its contract: a tuned filter is fed, gives its output, and is tuned afterwards.
-- Assumes nothing.
use Rattle.step.proofs.Filters.{tuned-fed, tuned-hears}
use Rattle.step.proofs.filter.hear.Goals as goal

pub allpass-o-requires : goal.allpass-o-requires
allpass-o-requires c = let i = c.requires in tuned-fed i.0 i.1

pub returns : goal.returns
returns c =
    let i = c.requires in
    tuned-hears i.0 i.1 c.allpass-o.ensures.0 c.allpass-o.ensures.1
