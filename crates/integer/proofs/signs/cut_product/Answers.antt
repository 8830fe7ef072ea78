-- `integer::signs::cut_product` meets its contract: by the signs of the factors (proofs/Sides.antt).
use Rattle.std.proofs.Common.{◌∙◌, ap, ℤ, ◌+ℤ◌}
use lib.Dec.{lit<}
use Rattle.integer.specs.Rounding.{floor}
use Rattle.integer.specs.Cut.{R}
use Rattle.integer.proofs.Sides.{floor-product}
use Rattle.integer.proofs.signs.cut_product.Goals as goal

pub returns : goal.returns
unfolding R
returns c =
    let a = c.args in
    c.floor_shift.ensures
    ∙ ap (λ (z : ℤ). floor z 65536) (c.plus.ensures ∙ ap (λ (z : ℤ). a.m.n +ℤ z) c.apart.ensures)
    ∙ floor-product a.a.n a.w.n a.m.n 65536 (lit< tt) c.requires.0
