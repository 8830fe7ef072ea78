-- `tube::scatter::divide` meets its contract: the machine divides toward zero.
use mathlib.Core.Path.{◌≡◌, refl}
use native.Mathlib.Omega.{arith}
use lib.IntN.{pos}
use lib.Signed.{quot_z}
use mir.Syntax.{w64}
use mir.Val.{SFits, to_z, of_z}
use mir.Facts.{to_z-of_z}
use Rattle.integer.proofs.View.{read, abs_fits, fits_abs}
use Rattle.integer.specs.Cut.{cut}
use Rattle.integer.proofs.Cut.{cut_quot, toward}
use Rattle.tube.proofs.scatter.divide.Goals as goal

u-fits : (c : goal.After-struct_told-1) → SFits w64 c.args.u.n
u-fits c = record { sfits = c.struct_told-1.given.0.1 }

q-fits : (c : goal.After-struct_told-1) → SFits w64 (quot_z c.args.u.n (pos 32768))
q-fits c =
    let u = c.args.u.n in
    rw (cut_quot u 32768) (abs_fits w64 (cut u 32768) (omega (arith, toward.size u 32768, fits_abs (u-fits c))))

u-read : (c : goal.After-struct_told-1) → let u = c.args.u.n in to_z w64 (of_z w64 u) ≡ u
u-read c = read w64 c.args.u.n c.struct_told-1.given.0.1 refl

pub returns : goal.returns
returns c = rw (u-read c, to_z-of_z (q-fits c)) (cut_quot c.args.u.n 32768)
