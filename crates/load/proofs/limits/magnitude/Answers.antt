use native.Mathlib.Omega.{arith}
use Rattle.load.proofs.Said.{low, high}
use Rattle.load.proofs.limits.magnitude.Goals as goal

-- src/limits.rt:22:9
pub returns-then-w-lt2147483648 : goal.returns-then-w-lt2147483648
returns-then-w-lt2147483648 c = low c.args.w c.if-w-lt2147483648.true

-- src/limits.rt:18:1
pub returns : goal.returns
returns c = high c.args.w c.if-w-lt2147483648.false (omega (arith, c.ranges.w))
