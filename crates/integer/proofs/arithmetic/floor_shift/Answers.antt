-- `integer::arithmetic::floor_shift` meets its contract: the machine's shift goes downward.
use Rattle.std.proofs.Common.{◌^◌, arith, w64, SFits, to_z-of_z}
use Rattle.integer.proofs.Quotient.{floor-shr, floor-fits}
use Rattle.integer.proofs.arithmetic.floor_shift.Goals as goal

pub returns : goal.returns
returns g c =
    let u = c.args.u.n in
    let f : SFits w64 u = record { sfits = omega arith } in
    let d = 2 ^ g.row.BITS in
    rw (to_z-of_z f, floor-shr u d, to_z-of_z (floor-fits d f))
