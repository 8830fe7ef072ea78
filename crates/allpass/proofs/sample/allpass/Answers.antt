-- `allpass::sample::allpass` meets its contract: `carry` with the state's own products, and a clip.
-- Assumes nothing.
use native.Mathlib.Omega.{arith}
use Rattle.allpass.proofs.sample.allpass.Goals as goal

-- a state that can be fed a sample can be fed 0
pub of_state-requires : goal.of_state-requires
of_state-requires c =
    let f = c.requires in
    record {
      least = f.least;
      most = f.most;
      taps_small = f.taps_small;
      state_within = f.state_within;
      sample = omega arith;
    }

pub carry-t-requires : goal.carry-t-requires
carry-t-requires c = (c.requires, c.of_state.ensures)

pub returns : goal.returns
returns c =
    let t = c.before.before in
    (rw c.clip.ensures t.carry-t.ensures.0, t.carry-t.ensures.1)
