-- `render::silent` meets its contract: what comes in is 0 at each sample.
-- Assumes nothing.
use Rattle.loops.proofs.Fed.{cleared-zeros}
use Rattle.render.proofs.Joined.{zeros-quiet}
use Rattle.render.proofs.silent.Goals as goal

pub through-requires : goal.through-requires
through-requires c = (c.requires, zeros-quiet c.args.buffer.now)

pub returns : goal.returns
returns c = rw (cleared-zeros c.args.buffer.now) at c.through.ensures
