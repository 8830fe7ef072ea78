-- `samples::loudest` meets its contract: the top so far and what is left have the largest magnitude of all.
use Rattle.std.proofs.Common.{◌≡◌, max, drop}
use Rattle.samples.specs.Samples.{loudest}
use Rattle.samples.proofs.loudest.Given as goal

abbrev pub invariant-loop-x : goal.invariant-loop-x
invariant-loop-x l = max l.top (loudest (drop l.x-index l.s)) ≡ loudest l.s
