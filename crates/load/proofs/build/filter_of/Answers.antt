-- `load::build::filter_of` meets its contract: the coefficients of the tuning, and its state.
-- Assumes nothing.
use mathlib.Core.Path.{refl}
use Rattle.voice.specs.Struct.{tuning_of}
use Rattle.load.specs.Words.{three_of}
use Rattle.load.proofs.Heads.{takes, filter-tuned}
use Rattle.load.proofs.build.filter_of.Goals as goal

pub returns : goal.returns
returns c =
    let t = c.args.tuning in
    let v = c.args.v in
    let f = filter-tuned (record { tuning = t; coefficients = c.set.result; state = three_of v.a v.b v.c })
    (tuning_of t) refl c.set.ensures c.requires in
    rw c.state_of.ensures f
