-- `octets::get` meets its contract: from the last byte to the first, n is what the bytes passed make.
use Rattle.std.proofs.Common.{◌≡◌, take, drop}
use Rattle.octets.specs.Octets.{number}
use Rattle.octets.proofs.get.Given as goal

abbrev pub invariant-loop-k : goal.invariant-loop-k
invariant-loop-k l = l.n ≡ number (drop l.k (take l.width (drop l.at l.s)))
