-- `tube::scatter::to_right` meets its contract: the sum is small enough.
use native.Mathlib.Omega.{arith}
use lib.IntN.{pos, ◌+ℤ◌}
use Rattle.tube.proofs.Sums.{plus-r, product_small}
use Rattle.tube.proofs.scatter.to_right.Goals as goal

pub minus-requires : goal.minus-requires
minus-requires c =
    let p = c.before in
    let s = p.before.before in
    let r = s.args.r.n in (
      rw (p.times-p.ensures, p.plus.ensures)
          (product_small (pos 32768 +ℤ r) s.args.last.n (plus-r r s.requires.0) s.requires.1),
      rw c.times-q.ensures (product_small r s.args.fb.n (omega (arith, s.requires.0)) s.requires.2),
    )
