-- What `load::limits::all_samples` says of the numbers before place i.
-- Assumes nothing.
use Rattle.load.proofs.Line.{Until}
use Rattle.load.specs.Says.{Says}
use Rattle.load.proofs.limits.all_samples.Given as goal

abbrev pub invariant-loop-i : goal.invariant-loop-i
invariant-loop-i l = Says l.good (Until l.s l.at l.i)
