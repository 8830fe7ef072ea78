-- `score::play` meets its contract: the invariant is `Playing`, with a voice that stays valid. Assumes nothing.
use mathlib.Core.Path.{◌≡◌}
use lib.ListN.{length}
use Rattle.voice.specs.Struct.{state_of}
use Rattle.voice.specs.Valid.{Valid}
use Rattle.score.proofs.Playing.{Playing}
use Rattle.score.proofs.play.Given as goal

abbrev pub invariant-loop-t : goal.invariant-loop-t
invariant-loop-t l =
    Playing l.records (state_of l.initial.head l.initial.line) l.initial.output (state_of l.head l.line) l.t l.progress.place
    l.progress.written l.output
    × Valid l.head l.line
    × (length l.output ≡ length l.initial.output)

abbrev pub decreases-loop-t : goal.decreases-loop-t
decreases-loop-t l = length l.t
