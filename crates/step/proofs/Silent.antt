-- A pluck with no step left gives no noise, and stays as it is.
-- Assumes nothing.
use mathlib.Core.Path.{◌≡◌}
use native.Mathlib.Omega.{arith}
use lib.IntN.{pos}
use Rattle.rule.specs.Voice.{noise, spent}
use Rattle.voice.specs.declared.Pluck.{Pluck}
use Rattle.voice.specs.Valid.{Plucked}
use Rattle.step.specs.Sample.{PluckSounds}

pub sounds-none : {p : Pluck} → Plucked p → p.left ≡ 0
    → PluckSounds p (record { noise = record { n = pos 0 }; rest = p })
unfolding noise spent
sounds-none k e =
    let z = k.none_left e in
    record { value = rw e; small = omega arith; rest = rw (e, z.0, z.1); plucked = k }
