-- `integer::signs::cut_by` meets its contract: by the side of 0 (proofs/Sides.antt).
use Rattle.std.proofs.Common.{◌∙◌, ap, ◌^◌, ℤ, ◌+ℤ◌}
use lib.Pow.{pow_pos}
use Rattle.integer.specs.Rounding.{floor}
use Rattle.integer.proofs.Sides.{floor_as}
use Rattle.integer.proofs.signs.cut_by.Goals as goal

pub returns : goal.returns
returns g c =
    let a = c.args in
    let d = 2 ^ g.row.BITS in
    c.floor_shift.ensures
    ∙ ap (λ (z : ℤ). floor z d) (c.plus.ensures ∙ ap (λ (y : ℤ). a.z.n +ℤ y) c.sign_bits.ensures)
    ∙ floor_as a.t.n a.z.n d (pow_pos g.row.BITS) c.requires.4 c.requires.5
