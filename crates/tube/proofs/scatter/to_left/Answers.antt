-- `tube::scatter::to_left` meets its contract: the sum is small enough.
use native.Mathlib.Omega.{arith}
use lib.IntN.{pos, ◌-ℤ◌}
use Rattle.tube.proofs.Sums.{minus-r, product_small}
use Rattle.tube.proofs.scatter.to_left.Goals as goal

pub plus-requires : goal.plus-requires
plus-requires c =
    let m = c.before in
    let p = m.before in
    let s = p.before in
    let r = s.args.r.n in (
      rw p.times-p.ensures (product_small r s.args.fa.n (omega (arith, s.requires.0)) s.requires.1),
      rw (c.times-q.ensures, m.minus.ensures)
          (product_small (pos 32768 -ℤ r) s.args.last.n (minus-r r s.requires.0) s.requires.2),
    )
