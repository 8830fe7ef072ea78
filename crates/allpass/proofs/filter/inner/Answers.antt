-- `allpass::filter::inner` meets its contract: w is within 2M.
-- Assumes nothing.
use mathlib.Core.Path.{◌≡◌, refl}
use mathlib.Core.List.{List}
use native.Mathlib.Omega.{arith}
use lib.IntN.{ℤ}
use mir.Syntax.{w64}
use mir.Val.{SFits, to_z, of_z}
use mir.Facts.{to_z-of_z}
use Rattle.integer.specs.Cut.{R}
use Rattle.integer.proofs.View.{abs_fits, read}
use Rattle.thiran.specs.Answers.{taps}
use Rattle.allpass.specs.Allpass.{dot, inner}
use Rattle.allpass.specs.Stored.{held}
use Rattle.allpass.proofs.Bounds.{inner-within}
use Rattle.allpass.proofs.filter.inner.Goals as goal
use Rattle.allpass.proofs.filter.inner.Lts as lts
use Rattle.allpass.proofs.filter.inner.Reads as reads

module _ (s : (lts.Start reads.Pre reads.Post)) where
  abbrev A : List ℤ
  A = taps s.args.order s.args.c

  abbrev v : List ℤ
  v = held s.args.order s.args.v

  abbrev f : ℤ
  f = s.args.f.n

  w_fits : SFits w64 (inner A v f)
  w_fits =
      abs_fits w64 (inner A v f)
      (omega (arith, inner-within A s.requires.0.taps_small f s.requires.0.state_within s.requires.0.sample))

module _ (c : goal.After-struct_told-2-1) where
  f-read : to_z w64 (of_z w64 (f c.before.before.before.before)) ≡ f c.before.before.before.before
  f-read = read w64 (f c.before.before.before.before) c.struct_told-1.given.0.1 refl

  r-read : to_z w64 (of_z w64 c.args.r.n) ≡ R (dot (A c.before.before.before.before) (v c.before.before.before.before))
  r-read = read w64 c.args.r.n c.struct_told-2-1.given.0.1 c.requires.1

pub overflow_sub-result : goal.overflow_sub-result
unfolding inner
overflow_sub-result c = rw (f-read c, r-read c) (w_fits c.before.before.before.before)

pub returns : goal.returns
unfolding inner
returns c = rw (f-read c, r-read c) (to_z-of_z (w_fits c.before.before.before.before))
