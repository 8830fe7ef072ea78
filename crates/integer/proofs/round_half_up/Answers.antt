-- `integer::round_half_up` meets its contract: the floor of (2 p + q) / (2 q).
use Rattle.std.proofs.Common.{arith, pos, ◌+ℤ◌, ◌*ℤ◌, w64, SFits, to_z-of_z}
use mir.ValLaws.{to_z_pos}
use Rattle.integer.specs.Rounding.{nearest}
use Rattle.integer.proofs.View.{abs_fits}
use Rattle.integer.proofs.Ring.{abs-*, abs-+}
use Rattle.integer.proofs.round_half_up.Goals as goal

pub returns : goal.returns
unfolding nearest
returns c =
    let p = c.args.p.n in
    let q = c.args.q in
    let d = pos 2 *ℤ p in
    let f : SFits w64 p = record { sfits = omega arith } in
    let twice = abs_fits w64 d (omega (arith, abs-* (pos 2) p)) in
    let sum = abs_fits w64 (d +ℤ pos q) (omega (arith, abs-* (pos 2) p, abs-+ d (pos q))) in
    rw (to_z-of_z f, to_z_pos w64 q (omega arith), to_z-of_z twice, to_z-of_z sum) at c.floor_div.ensures
