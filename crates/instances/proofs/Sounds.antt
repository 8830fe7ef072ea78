-- The instances of a pluck and of silence: by crate rule's theorems.
use mathlib.Core.Path.{◌≡◌, refl}
use mathlib.Core.List.{List, [], ◌∷◌}
use native.Mathlib.Omega.{arith}
use lib.IntN.{ℤ, pos}
use lib.ListN.{replicate}
use Rattle.integer.specs.Rounding.{clip, floor, nearest}
use Rattle.integer.specs.Cut.{cut, R, Q}
use Rattle.thiran.specs.Formula.{a, factor}
use Rattle.thiran.specs.Coefficients.{coefficient, coefficients}
use Rattle.allpass.specs.Allpass.{inner, next, out}
use Rattle.allpass.specs.Bounds.{none, more}
use Rattle.allpass.proofs.Bounds.{rest-within}
use Rattle.noise.specs.Noise as Noise
use Rattle.rule.specs.Voice.{noise, spent, output, written, settled, stepped}
use Rattle.rule.specs.Calls.{number, opened, done}
use Rattle.rule.specs.History as History
use Rattle.rule.specs.State.{step, sounds, call, put, silence, fresh, from}
use Rattle.rule.specs.Silence.{Quiet, end, before}
use Rattle.rule.proofs.Plucks.{plucks}
use Rattle.rule.proofs.Silence as Silence
use Rattle.instances.specs.Sounds.{o, Plucking, two, zeros, Fading}

pub plucking : Plucking
unfolding Noise.next Noise.value
plucking = record {
  first = (plucks (History.fresh o) 100 3 7 (replicate 0 (pos 0))).adds (omega arith);
  second = (plucks (History.fresh o) 100 3 7 (replicate 1 (pos 0))).adds (omega arith);
  third = (plucks (History.fresh o) 100 3 7 (replicate 2 (pos 0))).adds (omega arith);
  over = (plucks (History.fresh o) 100 3 7 (replicate 3 (pos 0))).over (omega arith) (omega arith);
}

quiet : Quiet 2 (from (fresh o) two)
unfolding
    call step put sounds silence number opened done stepped settled output written Q noise spent coefficients
    coefficient a factor nearest floor cut R clip inner next out
quiet = record {
  line = more {x = pos 2} (omega arith) (rest-within 2111);
  state = more {x = pos 0} (omega arith) none;
  last = omega arith;
  idle = refl;
  over = refl;
}

pub fading : Fading
unfolding
    call step put sounds silence number opened done stepped settled output written Q noise spent coefficients
    coefficient a factor nearest floor cut R clip inner next out
fading = record {
  quiet = quiet;
  silent = (Silence.silence o two zeros).within_2 quiet (before 9 9 end);
  outputs = refl;
}
