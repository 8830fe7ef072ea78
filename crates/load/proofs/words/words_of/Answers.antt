-- `load::words::words_of` meets its contract: the numbers of each part, where it is there.
-- Assumes nothing.
use Rattle.load.proofs.Found.{held}
use Rattle.load.proofs.words.words_of.Goals as goal

pub returns : goal.returns
returns c =
    held c.args.s.now c.args.m c.requires c.places-p.result c.places-p.ensures
    (record {
      tuning = c.read_tuning-tuning.result;
      loss = c.read-loss.result;
      advance = c.read-advance.result;
      last = c.read-last.result;
      state = c.read_three-state.result;
      change = c.change_of-change.result;
      pluck = record {
        amplitude = c.read_three-k.result.a;
        left = c.read_three-k.result.b;
        noise = c.read_three-k.result.c;
      };
    })
    c.read_tuning-tuning.ensures c.read-loss.ensures c.read-advance.ensures c.read-last.ensures
    c.read_three-state.ensures c.change_of-change.ensures c.read_three-k.ensures
