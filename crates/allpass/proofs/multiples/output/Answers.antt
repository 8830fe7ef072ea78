-- `allpass::multiples::output` meets its contract: in order 1 R was made before, else it is made of the sum.
-- Assumes nothing.
use native.Mathlib.Omega.{arith}
use native.Mathlib.Nat.{div-le_self}
use lib.IntN.{ℤ, nat_abs, ◌+ℤ◌}
use Rattle.integer.proofs.Ring.{abs-+}
use Rattle.integer.proofs.Cut.{R-abs}
use Rattle.allpass.specs.Products.{last_of}
use Rattle.allpass.proofs.multiples.output.Goals as goal
use Rattle.allpass.proofs.multiples.output.Lts as lts
use Rattle.allpass.proofs.multiples.output.Reads as reads
use Rattle.allpass.proofs.multiples.output.Tie as tie

-- the sum inside R
abbrev sum : (lts.Start tie.the-claims reads.Pre reads.Post) → ℤ
sum s = last_of s.args.order s.args.x +ℤ s.args.turned.n

-- ---- order 1
pub plus-requires : goal.plus-requires
plus-requires c =
    let s = c.before in
    let a = last_of s.args.order s.args.x in
    let b = s.args.turned.n in (
      s.requires.1,
      rw (s.requires.0 c.if-order-eq1.true) (
          omega (arith, R-abs (sum s), div-le_self (nat_abs (sum s)) 65536, abs-+ a b, s.requires.2, s.requires.3)
          ),
    )
