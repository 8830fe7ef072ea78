-- `render::begin` meets its contract: that of a loop with nothing coming in.
-- Assumes nothing.
use Rattle.render.proofs.Joined.{zeros-quiet}
use Rattle.render.proofs.begin.Goals as goal

pub quiet-requires : goal.quiet-requires
quiet-requires c = (c.requires, zeros-quiet c.args.buffer.now)
