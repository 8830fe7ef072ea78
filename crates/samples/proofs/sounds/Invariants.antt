-- `samples::sounds` meets its contract: what is left is as loud as all, until a number that is not 0 is met.
use Rattle.std.proofs.Common.{◌≡◌, true, false, ◌<◌, drop}
use Rattle.samples.specs.Samples.{loudest}
use Rattle.samples.proofs.sounds.Given as goal

abbrev pub invariant-loop-x : goal.invariant-loop-x
invariant-loop-x l =
    (l.some ≡ true → 0 < loudest l.s) × (l.some ≡ false → loudest (drop l.x-index l.s) ≡ loudest l.s)
