-- `floats::loss::gain` meets its contract: a loss up to 1 has a G up to 65,536.
use Rattle.std.proofs.Common.{◌≡◌, pos, ◌*ℤ◌, refl, ap, ◌∙◌, arith, lit<, w64, to_z, of_z}
use lib.Ieee.{Float, of_bits}
use Rattle.integer.specs.Rounding.{nearest}
use Rattle.integer.specs.Parts.{up}
use Rattle.integer.proofs.View.{read}
use Rattle.floats.specs.Worth.{unit, above}
use Rattle.floats.specs.Steps.{Scaled}
use Rattle.floats.proofs.Parts.{rounded, small}
use Rattle.floats.proofs.Times.{times, nearest_times, times_under}
use Rattle.floats.proofs.loss.gain.Goals as goal

pub scale-requires : goal.scale-requires
scale-requires c = c.requires.0

scaled : (c : goal.After-scale) → Scaled c.args.x 17 c.scale.result
unfolding of_bits
scaled c = c.scale.ensures 17 (omega arith) refl

pub nearest_half-t-requires : goal.nearest_half-t-requires
nearest_half-t-requires c =
    let s = c.before in
    let e = scaled c in
    (e.is_finite, small s.args.x c.scale.result 17 1 e s.requires.2 (lit< tt))

module _ (c : goal.After-struct_told-1) where
  abbrev x : Float
  x = c.args.x

  value : c.nearest_half-t.result.n ≡ pos (times x 65536)
  value =
      let n = c.before.before in
      n.nearest_half-t.ensures
      ∙ rounded x n.scale.result 16 (scaled n.before)
      ∙ nearest_times x 65536 c.requires.1

  got : to_z w64 (of_z w64 c.nearest_half-t.result.n) ≡ pos (times x 65536)
  got = read w64 c.nearest_half-t.result.n c.struct_told-1.given.0.1 value

  is : up (nearest (above x *ℤ pos 65536) (unit x)) ≡ times x 65536
  is = ap up (nearest_times x 65536 c.requires.1)

pub overflow_cast-t : goal.overflow_cast-t
overflow_cast-t c =
    let t = times_under (x c) 65536 1 c.requires.2 in
    rw (got c) (tt, record { fits = omega (arith, t) })

pub returns : goal.returns
returns c = c.min.ensures ∙ rw (got c.before, is c.before) refl
