-- `integer::floor_div` meets its contract: `floor-less` where the remainder is below 0, else `floor-quot`.
use Rattle.std.proofs.Common.{pos, arith, w64, SFits, to_z-of_z}
use lib.Signed.{◌<ℤ◌, rem_z}
use mir.ValLaws.{to_z_pos}
use Rattle.integer.proofs.View.{Zs}
use Rattle.integer.proofs.Quotient.{quot_fits, rem_fits, less-fits, floor-less, floor_quot}
use Rattle.integer.proofs.floor_div.Goals as goal

pub returns-then-u-k-lt0 : goal.returns-then-u-k-lt0
returns-then-u-k-lt0 c =
    let u = c.args.u.n in
    let m = c.args.m in
    let f : SFits w64 u = record { sfits = omega arith } in
    let read = to_z_pos w64 m c.requires.1 in
    let test = rw (to_z-of_z f, read, to_z-of_z (rem_fits m f)) at c.if-u-k-lt0.true in
    let below : rem_z u (pos m) <ℤ pos 0 = omega Zs in
    rw (to_z-of_z f, read, to_z-of_z (quot_fits m f), to_z-of_z (less-fits m c.requires.0 f below))
    (floor-less u m c.requires.0 below)

pub returns : goal.returns
returns c =
    let u = c.args.u.n in
    let m = c.args.m in
    let f : SFits w64 u = record { sfits = omega arith } in
    let read = to_z_pos w64 m c.requires.1 in
    let test = rw (to_z-of_z f, read, to_z-of_z (rem_fits m f)) at c.if-u-k-lt0.false in
    rw (to_z-of_z f, read, to_z-of_z (quot_fits m f)) (floor_quot u m c.requires.0 (omega Zs))
