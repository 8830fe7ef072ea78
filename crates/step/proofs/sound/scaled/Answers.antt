-- `step::sound::scaled` meets its contract: the product is at most 255 times 32,768.
-- Assumes nothing.
use mathlib.Core.Path.{◌≡◌, refl}
use Prim.Native.Nat.{ℕ, ◌≤◌, ◌^◌}
use native.Mathlib.Omega.{arith}
use native.Mathlib.Nat.{mul-le-mul}
use lib.IntN.{ℤ, pos, nat_abs, ◌*ℤ◌}
use mir.Syntax.{w32, w64}
use mir.Val.{to_z, of_z}
use mir.Facts.{to_z-of_z}
use mir.ValLaws.{to_z_pos}
use Rattle.integer.proofs.View.{abs_fits}
use Rattle.integer.proofs.Ring.{abs-*}
use Rattle.step.proofs.Machine.{back, kept}
use Rattle.step.proofs.sound.scaled.Goals as goal
use Rattle.step.proofs.sound.scaled.Lts as lts
use Rattle.step.proofs.sound.scaled.Reads as reads

module _ (s : (lts.Start reads.Pre reads.Post)) where
  abbrev a : ℕ
  a = s.args.amplitude

  abbrev d : ℤ
  d = s.args.d.value

  small : nat_abs (pos a *ℤ d) ≤ 2 ^ 23
  small = omega (arith, abs-* (pos a) d, mul-le-mul s.requires.0 s.requires.1)

  d-read : to_z w32 (of_z w32 d) ≡ d
  d-read = to_z-of_z (abs_fits w32 d (omega arith))

  factors : to_z w64 a *ℤ back (to_z w32 (of_z w32 d)) ≡ pos a *ℤ d
  factors = rw (to_z_pos w64 a (omega arith), d-read, kept d (omega arith))

pub overflow_cast-result-2 : goal.overflow_cast-result-2
overflow_cast-result-2 c = let s = c.before.before in rw (d-read s) (abs_fits w64 (d s) (omega arith))

pub overflow_mul-result : goal.overflow_mul-result
overflow_mul-result c =
    let s = c.before.before in
    rw (factors s) (abs_fits w64 (pos (a s) *ℤ d s) (omega (arith, small s)))

pub returns : goal.returns
returns c =
    let s = c.before.before in
    let e = kept (pos (a s) *ℤ d s) (omega (arith, small s)) in
    rw (factors s, e) (refl, small s)
