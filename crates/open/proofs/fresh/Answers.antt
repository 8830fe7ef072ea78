-- `open::fresh` meets its contract: its filter is at rest, and its line is silent.
-- Assumes nothing.
use mathlib.Core.Path.{ap}
use Rattle.voice.specs.Struct.{tuning_of}
use Rattle.voice.proofs.Tunes.{opening_tunes}
use Rattle.open.proofs.Resting.{rests, rests_valid}
use Rattle.open.proofs.fresh.Goals as goal

pub resting-requires : goal.resting-requires
resting-requires c = (opening_tunes c.requires).0

pub returns : goal.returns
returns c =
    let o = c.args.o in
    let e = c.resting.ensures in
    let k = opening_tunes c.requires in
    record {
      line_value = rests c.resting.result o.loss o.advance (ap tuning_of e.tuning) e.state;
      valid = rests_valid c.resting.result o.loss o.advance e.tuned k.1 k.2;
    }
