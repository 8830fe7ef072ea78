-- `kept::blocks::feed` meets its contract: a block of zeros is played; any other is the block by value on
-- the head that the words are.
use Rattle.block.proofs.Blocks.{zeros}
use lib.ListN.{length}
use Rattle.kept.proofs.blocks.feed.Goals as goal

pub returns-then-is_silent : goal.returns-then-is_silent
returns-then-is_silent c =
    let s = c.args in
    let q = c.is_silent.ensures c.if-is_silent.true in
    rw (← zeros s.input.now (length s.output.now) q.0 q.1) (record {
      on = c.play.ensures.on;
      output_after = c.play.ensures.output_after;
    })
