-- `floats::delay::period` meets its contract: a delay up to 4,095 samples has a T below 2^24.
use Rattle.std.proofs.Common.{◌≡◌, pos, sym, refl, ◌∙◌, arith, lit<, w64, to_z, of_z}
use lib.Ieee.{Float, of_bits}
use Rattle.integer.proofs.View.{read}
use Rattle.floats.specs.Steps.{Scaled}
use Rattle.floats.proofs.Parts.{rounded, small}
use Rattle.floats.proofs.Times.{times, nearest_times, times_under}
use Rattle.floats.proofs.delay.period.Goals as goal

pub scale-requires : goal.scale-requires
scale-requires c = c.requires.0

scaled : (c : goal.After-scale) → Scaled c.args.x 13 c.scale.result
unfolding of_bits
scaled c = c.scale.ensures 13 (omega arith) refl

pub nearest_half-t-requires : goal.nearest_half-t-requires
nearest_half-t-requires c =
    let s = c.before in
    let e = scaled c in
    (e.is_finite, small s.args.x c.scale.result 13 4095 e s.requires.2 (lit< tt))

module _ (c : goal.After-struct_told-1) where
  abbrev x : Float
  x = c.args.x

  value : c.nearest_half-t.result.n ≡ pos (times x 4096)
  value =
      let n = c.before.before in
      n.nearest_half-t.ensures
      ∙ rounded x n.scale.result 12 (scaled n.before)
      ∙ nearest_times x 4096 c.requires.1

  got : to_z w64 (of_z w64 c.nearest_half-t.result.n) ≡ pos (times x 4096)
  got = read w64 c.nearest_half-t.result.n c.struct_told-1.given.0.1 value

pub overflow_cast-result : goal.overflow_cast-result
overflow_cast-result c =
    let t = times_under (x c) 4096 4095 c.requires.2 in
    rw (got c) (tt, record { fits = omega (arith, t) })

pub returns : goal.returns
returns c = rw (got c) (sym (nearest_times (x c) 4096 c.requires.1))
