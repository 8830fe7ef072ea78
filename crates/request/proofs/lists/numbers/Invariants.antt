-- `request::lists::numbers` meets its contract: what is left is what stands behind the words that were read.
use Rattle.request.specs.Rest.{Rest}
use Rattle.request.proofs.lists.numbers.Given as goal

abbrev pub invariant-loop-n : goal.invariant-loop-n
invariant-loop-n l = Rest l.s l.rest
