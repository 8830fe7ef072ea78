-- What `load::fill` has laid before place i.
-- Assumes nothing.
use Rattle.load.proofs.Line.{Laid}
use lib.ListN.{length}
use mathlib.Core.Path.{◌≡◌}
use Rattle.load.proofs.fill.Given as goal

abbrev pub invariant-loop-i : goal.invariant-loop-i
invariant-loop-i l = (length l.line ≡ 2112) × Laid l.s l.at l.line l.i
