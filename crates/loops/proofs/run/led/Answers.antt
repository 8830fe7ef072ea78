-- `loops::run::led` meets its contract: nothing is said of it where no eliminator runs.
-- Assumes nothing.
use native.Mathlib.Omega.{arith}
use Rattle.loops.proofs.run.led.Goals as goal

pub returns-then-coming-eq0 : goal.returns-then-coming-eq0
returns-then-coming-eq0 c o = absurd (omega (arith, c.if-coming-eq0.true))

pub eliminate-requires : goal.eliminate-requires
eliminate-requires c = c.requires (omega (arith, c.if-coming-eq0.false))

pub returns : goal.returns
returns c o = c.eliminate.ensures
