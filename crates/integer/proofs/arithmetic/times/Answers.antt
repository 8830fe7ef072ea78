-- `integer::arithmetic::times` meets its contract: the product is at most 2^40.
use Rattle.std.proofs.Common.{arith, to_z-of_z, w64}
use native.Mathlib.Nat.{mul-le-mul}
use lib.IntN.{◌*ℤ◌}
use Rattle.integer.proofs.View.{abs_fits}
use Rattle.integer.proofs.Ring.{abs-*}
use Rattle.integer.proofs.arithmetic.times.Goals as goal

pub returns : goal.returns
returns c =
    let a = c.args.a.n in
    let x = c.args.x.n in
    let f = abs_fits w64 (a *ℤ x) (omega (arith, abs-* a x, mul-le-mul c.requires.0 c.requires.1)) in
    grind (arith, to_z-of_z f)
