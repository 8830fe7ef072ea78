-- `octets::put` meets its contract: what is left, laid from the next place on, makes the whole.
use Rattle.std.proofs.Common.{◌≡◌, ◌+◌, ◌-◌}
use Rattle.octets.specs.Octets.{bytes, laid}
use Rattle.octets.proofs.put.Given as goal

abbrev pub invariant-loop-k : goal.invariant-loop-k
invariant-loop-k l =
    laid l.out (l.at + l.k) (bytes (l.width - l.k) l.left) ≡ laid l.initial.out l.at (bytes l.width l.n)
