-- `samples::copy` meets its contract: the output agrees with the input below i.
use Rattle.samples.proofs.Taken.{Taken}
use Rattle.samples.proofs.copy.Given as goal

abbrev pub invariant-loop-i : goal.invariant-loop-i
invariant-loop-i l = Taken l.input l.output l.i
