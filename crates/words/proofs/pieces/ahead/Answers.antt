-- `words::pieces::ahead` meets its contract: what stands before the first such byte.
use Rattle.words.proofs.Cuts.{cut_at}
use Rattle.words.proofs.pieces.ahead.Goals as goal

pub returns : goal.returns
returns c = cut_at _ _ c.before-2.result c.before-2.ensures
