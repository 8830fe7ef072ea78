-- `pitch::divisor` meets its contract: 440 times an entry is below 2^34, and shifted by 10 at most it fits.
-- Assumes nothing.
use native.Mathlib.Omega.{arith}
use lib.Pow.{shl_exact}
use Rattle.pitch.proofs.Quotient.{power, tuned-most}
use Rattle.pitch.proofs.divisor.Goals as goal

pub overflow_mul-result : goal.overflow_mul-result
overflow_mul-result c = omega (arith, tuned-most c.args.m)

pub returns : goal.returns
returns c =
    let m = c.args.m in
    rw c.entry.ensures (shl_exact 34 (power m) 64 (tuned-most m) (omega arith))
