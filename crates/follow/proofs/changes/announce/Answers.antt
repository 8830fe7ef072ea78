-- `follow::changes::announce` meets its contract: a change to the tuning that the record names.
-- Assumes nothing.
use mathlib.Core.Path.{refl, ap}
use Rattle.rule.specs.Calls.{announce}
use Rattle.rule.specs.Voice.{Tuning}
use Rattle.voice.specs.Struct.{state_of}
use Rattle.voice.proofs.Called.{on}
use Rattle.follow.proofs.Following.{on_as}
use Rattle.follow.proofs.changes.announce.Goals as goal

pub returns : goal.returns
returns c =
    λ l g. on_as (on l c.announce.ensures g.line)
    (ap (λ (t : Tuning). announce t) (c.target.ensures (state_of c.args.head l) refl))
