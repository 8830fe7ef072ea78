-- `riff::data::store` meets its contract: what is left, laid from the next place on, makes the whole.
use Rattle.std.proofs.Common.{◌≡◌, ◌+◌, ◌*◌, drop}
use Rattle.octets.specs.Octets.{stored, laid}
use Rattle.riff.proofs.data.store.Given as goal

abbrev pub invariant-loop-i : goal.invariant-loop-i
invariant-loop-i l =
    laid l.file (44 + 3 * l.i) (stored 3 (drop l.i l.samples)) ≡ laid l.initial.file 44 (stored 3 l.samples)
