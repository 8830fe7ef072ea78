-- How many samples of the line are there.
use Prim.Native.Nat.{◌+◌, ◌*◌}
use Rattle.store.proofs.Laid.{Reached, oldest}
use Rattle.store.proofs.samples.Given as goal

abbrev pub invariant-loop-i : goal.invariant-loop-i
invariant-loop-i l = Reached l.initial.out l.out l.at (l.at + 4 * l.i) l.i (oldest l.from l.line)
