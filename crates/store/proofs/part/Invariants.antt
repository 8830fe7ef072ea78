-- How many numbers of a part are there.
use Rattle.store.proofs.Laid.{Reached}
use Rattle.store.proofs.part.Given as goal

abbrev pub invariant-loop-n : goal.invariant-loop-n
invariant-loop-n l = Reached l.initial.out l.out l.at l.next l.n-index l.numbers
