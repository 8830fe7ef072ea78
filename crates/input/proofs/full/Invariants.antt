-- `input::full` meets its contract: the room holds more bytes after each read.
use mathlib.Core.Path.{◌≡◌}
use Prim.Native.Nat.{◌-◌, ◌≤◌}
use lib.ListN.{length}
use Rattle.input.proofs.full.Given as goal

abbrev pub invariant-loop-held : goal.invariant-loop-held
invariant-loop-held l = (length l.room ≡ length l.initial.room) × (l.held ≤ length l.initial.room)

abbrev pub decreases-loop-held : goal.decreases-loop-held
decreases-loop-held l = length l.initial.room - l.held
